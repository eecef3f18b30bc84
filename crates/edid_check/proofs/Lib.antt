pub mod Framed
pub mod Exactly
pub mod Example
