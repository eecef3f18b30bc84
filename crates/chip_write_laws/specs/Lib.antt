pub mod Frame
pub mod ModeKeeps
