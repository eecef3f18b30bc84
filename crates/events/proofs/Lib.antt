pub mod Refused
pub mod EventWord
pub mod Worked
