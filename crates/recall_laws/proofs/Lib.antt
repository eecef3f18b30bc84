pub mod Bytes
pub mod Stored
pub mod Computed
pub mod Forever
pub mod Quiet
pub mod Short
