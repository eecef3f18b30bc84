pub mod Levels
pub mod Transfers
pub mod Places
pub mod Numbers
