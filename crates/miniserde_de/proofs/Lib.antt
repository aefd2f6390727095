pub mod Agrees
pub mod Fed
