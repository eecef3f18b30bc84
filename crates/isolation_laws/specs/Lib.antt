pub mod Foreign
pub mod Lines
pub mod Related
