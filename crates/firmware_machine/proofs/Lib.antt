pub mod Loads
pub mod Instructions
pub mod Interrupts
pub mod Turns
