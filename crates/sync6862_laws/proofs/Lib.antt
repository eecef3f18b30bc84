pub mod AsSync
pub mod Steps
pub mod Chips
pub mod Effects
pub mod Zeroed
pub mod Since
pub mod Interval
pub mod Worked
