pub mod Pushed
pub mod Worked
