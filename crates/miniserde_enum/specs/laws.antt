pub mod Cases
pub mod External
pub mod Inside
pub mod Internal
pub mod NoFields
pub mod Tagging
