pub mod Admission
pub mod Faults
pub mod Find
pub mod Join
pub mod Lines
pub mod Places
pub mod State
