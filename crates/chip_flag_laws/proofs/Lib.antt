pub mod Bools
pub mod Requests
pub mod Flags
pub mod Writes
pub mod Pins
pub mod Clocks
pub mod Causes
