pub mod Tokens
pub mod Meaning
pub mod Round
pub mod Converse
