pub mod Decimal
pub mod Watch
pub mod Lines
pub mod Header
pub mod Wrote
pub mod Pieces
