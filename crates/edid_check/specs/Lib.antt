pub mod Block
pub mod Edid
pub mod Example
