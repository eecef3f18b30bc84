pub mod Computed
pub mod Told
