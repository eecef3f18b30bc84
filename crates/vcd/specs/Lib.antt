pub mod Header
pub mod Call
