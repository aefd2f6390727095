pub mod Letters
pub mod laws
