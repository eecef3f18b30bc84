pub mod Counting
pub mod Base
pub mod Worked
