pub mod LastSet
