pub mod Lexer
pub mod Texts
pub mod private
pub mod laws
