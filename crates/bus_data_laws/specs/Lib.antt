pub mod Ninth
