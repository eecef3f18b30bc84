pub mod Stepping
pub mod Worked
