pub mod InOrder
pub mod Members
pub mod Names
