pub mod Running
pub mod Going
pub mod Parts
