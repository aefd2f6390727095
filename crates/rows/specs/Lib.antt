pub mod Entries
pub mod Errors
pub mod Values
pub mod Visits
