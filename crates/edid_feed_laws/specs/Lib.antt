pub mod Observer
pub mod Levels
pub mod Words
