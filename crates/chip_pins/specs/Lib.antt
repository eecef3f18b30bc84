pub mod Pins
pub mod Numbers
