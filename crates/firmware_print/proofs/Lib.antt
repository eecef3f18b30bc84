pub mod Stops
pub mod Tracing
