pub mod Machine
pub mod Run
pub mod Seen
pub mod Shows
pub mod Turns
