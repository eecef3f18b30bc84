pub mod Calls
pub mod Ordering
pub mod Pieces
pub mod Worked
