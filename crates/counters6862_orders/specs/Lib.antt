pub mod Line
pub mod Orders
pub mod Words
