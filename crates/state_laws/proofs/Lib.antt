pub mod Stays
pub mod Demands
pub mod Refusals
