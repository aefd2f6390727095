pub mod Kinds
pub mod Rest
pub mod RestMeaning
pub mod Untagged
pub mod UntaggedMeaning
pub mod laws
