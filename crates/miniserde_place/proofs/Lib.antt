pub mod Feeds
pub mod InRange
pub mod PositionAdvances
pub mod Moved
pub mod Spelled
