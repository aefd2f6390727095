pub mod Fragment
pub mod Trees
pub mod Writer
