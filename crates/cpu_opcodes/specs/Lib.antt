pub mod Table
pub mod Opcodes
pub mod Rules
