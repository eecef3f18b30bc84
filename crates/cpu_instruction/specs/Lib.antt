pub mod Program
pub mod Instruction
