pub mod Checks
pub mod Integers
pub mod Keys
pub mod Ranged
pub mod laws
