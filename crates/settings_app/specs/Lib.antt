pub mod Changes
pub mod Faults
