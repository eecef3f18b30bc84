pub mod Words
pub mod Body
pub mod Header
pub mod Converse
pub mod Worked
pub mod Refusals
