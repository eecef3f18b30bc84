pub mod Events
pub mod Counting
pub mod Zeroed
pub mod Worked
pub mod Since
