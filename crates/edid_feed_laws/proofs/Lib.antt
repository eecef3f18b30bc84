pub mod Bits
pub mod Tracks
pub mod Pins
pub mod Writes
pub mod Events
pub mod Theorems
pub mod Feeds
pub mod Stored
