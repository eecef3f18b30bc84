pub mod Line
pub mod Written
