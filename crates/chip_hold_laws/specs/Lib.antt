pub mod Stretching
pub mod Worked
