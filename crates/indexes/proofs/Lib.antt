pub mod Ascending
pub mod Found
pub mod Leasts
pub mod Neighbours
pub mod Repeated
