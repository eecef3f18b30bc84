pub mod Status
pub mod Steps
pub mod Receive
pub mod Transmit
pub mod Opened
pub mod Ports
pub mod Altered
pub mod Worked
