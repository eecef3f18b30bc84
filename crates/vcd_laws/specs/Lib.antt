pub mod Giving
pub mod Order
pub mod Pieces
pub mod Worked
pub mod Kept
