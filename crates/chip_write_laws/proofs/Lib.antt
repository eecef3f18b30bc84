pub mod Fields
pub mod Frame
pub mod Bits
