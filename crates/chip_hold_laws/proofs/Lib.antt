pub mod Holds
pub mod Begins
pub mod Stretching
pub mod Worked
