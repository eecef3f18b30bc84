pub mod Decimal
pub mod Spelling
pub mod ReadBack
pub mod Pieces
pub mod Calls
