pub mod Bytes
pub mod Events
pub mod Ninth
pub mod Worked
