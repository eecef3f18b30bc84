pub mod Trace
pub mod Pieces
pub mod Tables
pub mod Runs
pub mod Reader
