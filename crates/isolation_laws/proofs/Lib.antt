pub mod Bits
pub mod Related
pub mod Pins
pub mod Writes
pub mod Events
pub mod Runs
pub mod Theorems
pub mod Lines
