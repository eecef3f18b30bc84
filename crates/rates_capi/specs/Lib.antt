pub mod Latches
