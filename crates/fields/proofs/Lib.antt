pub mod Days
pub mod FirstFault
pub mod Values
pub mod Trims
