mod Lists
mod Statements
mod Found
mod Gets
mod Puts
mod Kept
mod Unique
mod Mapped
mod Removed
mod Effects
pub mod Serving
mod Commits
mod Each
pub mod Readings
pub mod Walks
mod Apart
mod Cut
mod PageLemmas
mod Counted
mod Recognized
mod Reopened
mod Opened
mod Errors
