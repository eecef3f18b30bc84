pub mod Cache
pub mod Changed
