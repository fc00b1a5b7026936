pub mod Faults
pub mod Files
pub mod First
pub mod Rows
pub mod Steps
