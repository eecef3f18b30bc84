pub mod AddressOutcome
