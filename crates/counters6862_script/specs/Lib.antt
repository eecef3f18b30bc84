pub mod Script
