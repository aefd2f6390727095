pub mod Bits
pub mod Keys
pub mod Newtypes
