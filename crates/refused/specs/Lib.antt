pub mod Agree
pub mod Text
pub mod Ways
pub mod Wrong
pub mod laws
