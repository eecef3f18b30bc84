pub mod Rules
pub mod Rates
pub mod Replay
