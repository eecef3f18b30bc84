-- A machine at its first instruction, and what one instruction leaves of it.
use Rattle.std.specs.Prelude.{ℕ, List, [], ◌∷◌, ◌++◌, replicate}
use Rattle.firmware_machine.specs.Machine.{Machine}
use Rattle.firmware_machine.specs.Run.{runs}
use Rattle.firmware_cases.specs.Instructions.{registers_of, starts_from}

-- a machine at A000, its registers and RAM by numbers
abbrev pub start : ℕ → List ℕ → Machine
start r l = starts_from 0xA000 r l

-- the registers and PC after one instruction
abbrev pub after : List ℕ → Machine → ℕ × ℕ
after rom m = (registers_of (runs 1 0 rom [] m).machine.cpu, (runs 1 0 rom [] m).machine.cpu.pc)

-- JMP (A0FF), and bytes up to A100
abbrev pub jumping : List ℕ
jumping = 0x6C ∷ 0xFF ∷ 0xA0 ∷ (replicate 252 0 ++ (0x34 ∷ 0x12 ∷ []))
