pub mod Marked
pub mod Taken
