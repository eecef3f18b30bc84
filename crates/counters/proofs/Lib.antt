pub mod Tests
pub mod Counting
