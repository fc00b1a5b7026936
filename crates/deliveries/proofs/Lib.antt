pub mod Borne
pub mod Emptied
pub mod Ends
pub mod Heads
pub mod Joined
pub mod Parts
pub mod Verdict
