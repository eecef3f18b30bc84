pub mod Byte
pub mod Write
