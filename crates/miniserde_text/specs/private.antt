pub mod Escape
pub mod LexerParts
pub mod Moments
pub mod Reading
pub mod Stack
pub mod EventRuns
