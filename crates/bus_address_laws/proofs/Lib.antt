pub mod Events
pub mod Addressed
pub mod Eighth
pub mod Clocked
pub mod Worked
