pub mod Bus
pub mod Ddc1
