pub mod Opened
pub mod Stored
pub mod Wait
pub mod Recall
pub mod Files
