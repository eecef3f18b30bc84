pub mod Own
pub mod Outside
pub mod First
