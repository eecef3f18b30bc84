pub mod Pieces
pub mod Round
pub mod Reading
pub mod Room
pub mod Joined
pub mod Faults
