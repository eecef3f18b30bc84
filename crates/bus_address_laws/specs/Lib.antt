pub mod Addressed
pub mod Worked
pub mod Gathered
