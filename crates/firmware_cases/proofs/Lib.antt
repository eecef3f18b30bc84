pub mod Opened
pub mod Holds
pub mod Needed
pub mod Rules
pub mod Instructions
