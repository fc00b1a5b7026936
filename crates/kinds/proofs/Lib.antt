pub mod Compared
pub mod Types
pub mod Zips
