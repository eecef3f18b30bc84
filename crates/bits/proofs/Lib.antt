pub mod Finite
pub mod Weight
pub mod Distrib
pub mod Bitwise
pub mod Mask
pub mod Level
