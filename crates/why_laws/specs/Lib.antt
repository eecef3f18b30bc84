pub mod Due
pub mod Found
