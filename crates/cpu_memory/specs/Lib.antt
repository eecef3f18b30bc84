pub mod Memory
pub mod Reads
