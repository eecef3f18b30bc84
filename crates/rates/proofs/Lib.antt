pub mod Quotient
pub mod Hertz
pub mod Cases
