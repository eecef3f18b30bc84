pub mod Host
pub mod Wait
pub mod Short
