pub mod Words
pub mod Body
pub mod Header
pub mod Refusals
