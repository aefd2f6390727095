pub mod Items
pub mod Members
pub mod Ordered
pub mod Names
pub mod NormalForms
