pub mod Opened
pub mod Worked
pub mod Foreign
