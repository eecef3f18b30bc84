pub mod Firmware
pub mod Tests
pub mod Instructions
pub mod Holds
pub mod Starts
pub mod Needed
pub mod Rules
