pub mod Exact
pub mod Leaves
