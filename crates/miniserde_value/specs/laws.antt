pub mod Outcomes
pub mod Numbers
pub mod Listed
pub mod Containers
pub mod Unique
pub mod Documents
