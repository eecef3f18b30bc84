pub mod Premises
pub mod Pairs
