pub mod Pass
pub mod Whole
