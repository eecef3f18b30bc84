pub mod Agreeing
pub mod Worked
