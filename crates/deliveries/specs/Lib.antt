pub mod Across
pub mod Delivery
pub mod Faults
pub mod Head
