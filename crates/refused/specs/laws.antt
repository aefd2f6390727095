pub mod Alone
pub mod Ways
