pub mod Sync
pub mod Counters
pub mod Fits
