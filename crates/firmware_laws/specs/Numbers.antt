-- The number of a refusal by the accesses of an instruction (document 02, Wish 5): its first failing access tells.
use Rattle.std.specs.Prelude.{ℕ, Bool, false, not, List, [], ◌∷◌, eqb}
use Rattle.bits.specs.Byte.{pick}
use Rattle.chip_writes.specs.Writes.{write_number}
use Rattle.cpu_opcodes.specs.Opcodes.{operation_of, entry_of, is_documented}
use Rattle.cpu_memory.specs.declared.Loaded.TheVariants.{Byte, Refused}
use Rattle.cpu_memory.specs.declared.Place.{Place}
use Rattle.cpu_memory.specs.declared.Place.TheVariants as at
use Rattle.cpu_memory.specs.Memory.{place}
use Rattle.cpu_instruction.specs.Program.{Access, read_at, write_at, accesses}
use Rattle.cpu_instruction.specs.Instruction.{instruction}
use Rattle.firmware_machine.specs.Machine.{Machine, load}

-- a write at a place, with RESET's level: a register may refuse it, ROM and what is not mapped do
abbrev pub written_number : Bool → Place → ℕ
written_number reset (at.Register r) = write_number reset r
written_number reset (at.Ram i) = 0
written_number reset (at.Rom i) = 21
written_number reset at.Unmapped = 21

-- 0 for an access that does not fail
abbrev pub access_number : Bool → Access → ℕ
access_number reset (read_at a (Byte b)) = 0
access_number reset (read_at a (Refused n)) = n
access_number reset (write_at a b) = written_number reset (place a)

-- the number of the first access that fails, 0 where none does
abbrev pub first_refused : Bool → List Access → ℕ
first_refused reset [] = 0
first_refused reset (x ∷ s) = pick (eqb (access_number reset x) 0) (first_refused reset s) (access_number reset x)

-- the first access, the fetch of the opcode, gives an opcode that is not documented
abbrev pub is_undocumented : List Access → Bool
is_undocumented [] = false
is_undocumented (read_at a (Byte opcode) ∷ s) = not (is_documented (operation_of (entry_of opcode)))
is_undocumented (read_at a (Refused n) ∷ s) = false
is_undocumented (write_at a b ∷ s) = false

-- the accesses of the instruction at PC
unfoldable pub made_by : List ℕ → Machine → List Access
made_by rom m = accesses (load m.ram m.chip rom) (instruction m.cpu)

-- its number
abbrev pub instruction_number : List ℕ → Machine → ℕ
instruction_number rom m = pick (is_undocumented (made_by rom m)) 20 (first_refused m.chip.core.reset (made_by rom m))
