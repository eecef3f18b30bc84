pub mod Words
pub mod Some
pub mod Progress
pub mod Stream
pub mod Parts
