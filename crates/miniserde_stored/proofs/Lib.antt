pub mod Types
pub mod Maps
pub mod Twice
pub mod Fields
pub mod Tags
pub mod StableDocuments
