pub mod Levels
pub mod Interval
pub mod Ddc1
pub mod Worked
pub mod Reset
