pub mod Scan
pub mod Written
