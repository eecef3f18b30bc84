pub mod Filling
pub mod Placing
pub mod Reading
pub mod Running
