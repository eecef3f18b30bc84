pub mod Times
pub mod RoundTrip
pub mod Refusals
