pub mod Cases
pub mod AsRates
