pub mod Place
pub mod Areas
