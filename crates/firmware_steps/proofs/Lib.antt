pub mod Before
pub mod Events
