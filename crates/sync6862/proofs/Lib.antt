pub mod Tests
pub mod WellFormed
pub mod Numbers
