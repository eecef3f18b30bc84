pub mod Numbers
pub mod History
pub mod Parts
pub mod Interrupts
pub mod Writes
pub mod Refusals
pub mod Clocks
pub mod Refused
