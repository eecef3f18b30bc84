pub mod Registers
pub mod Chips
pub mod Lines
