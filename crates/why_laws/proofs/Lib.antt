pub mod Address
pub mod Steps
pub mod Lists
pub mod Reasons
pub mod Refused
pub mod Numbers
