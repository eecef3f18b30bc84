pub mod Byte
pub mod Finite
