pub mod Ddc2b
