pub mod Hertz
pub mod Report
