pub mod Words
pub mod Loops
pub mod Parts
pub mod Refusals
pub mod Round
