pub mod InstructionTurn
