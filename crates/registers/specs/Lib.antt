pub mod Admission
pub mod Entries
pub mod Faults
pub mod Ids
pub mod Indexes
pub mod Own
