pub mod Filled
pub mod Indexed
