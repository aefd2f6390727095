pub mod Kinds
pub mod Rest
pub mod Untagged
