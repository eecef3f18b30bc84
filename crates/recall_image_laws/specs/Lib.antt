pub mod Image
pub mod Lists
pub mod Files
