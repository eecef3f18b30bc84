pub mod DdcWrites
