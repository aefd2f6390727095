pub mod Stable
pub mod StableCases
pub mod StableFields
pub mod laws
