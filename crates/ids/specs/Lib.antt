pub mod Blobs
pub mod Days
pub mod Versions
