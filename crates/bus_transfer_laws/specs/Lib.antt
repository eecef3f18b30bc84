pub mod Transfers
pub mod Ports
pub mod Altered
pub mod Worked
