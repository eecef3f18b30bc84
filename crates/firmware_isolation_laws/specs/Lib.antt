pub mod Trace
pub mod Transfers
pub mod Words
pub mod Related
