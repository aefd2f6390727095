mod FieldlessStructs
pub mod Written
pub mod Faults
