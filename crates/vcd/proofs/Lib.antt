pub mod Declaring
pub mod Entries
pub mod Heading
