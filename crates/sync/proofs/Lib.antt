pub mod Counters
pub mod WellFormed
