pub mod Firsts
pub mod Judged
pub mod Repeated
pub mod Scans
pub mod Soundness
