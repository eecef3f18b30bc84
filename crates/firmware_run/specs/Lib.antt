pub mod Instructions
pub mod Firmware
pub mod Outcome
