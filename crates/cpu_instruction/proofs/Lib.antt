pub mod Performs
pub mod Agree
