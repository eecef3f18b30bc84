pub mod Trees
pub mod Numbers
pub mod Clocks
pub mod Parts
pub mod Interrupts
pub mod Writes
pub mod Calls
pub mod Refusals
