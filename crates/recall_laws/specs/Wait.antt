-- How a run ends whose firmware is still in its wait, and one that is past it.
use Rattle.std.specs.Prelude.{ℕ, ◌≡◌, Bool, true, false, not, ◌&&◌, ◌||◌, List, [], ◌∷◌, replicate, eqb}
use Rattle.chip.specs.State.{fresh}
use Rattle.cpu_operations.specs.declared.Cpu.{Cpu}
use Rattle.cpu_operations.specs.Operations.{flags}
use Rattle.cpu_instruction.specs.Program.{Access, read_at, write_at}
use Rattle.cpu_instruction.specs.Instruction.{reset_cpu}
use Rattle.firmware_machine.specs.Machine.{Machine, machine}
use Rattle.firmware_machine.specs.Run.{Ended}
use Rattle.firmware_isolation_laws.specs.Trace.{Entry, accesses_of}

-- power up, as `./firmware` has it: a fresh chip; RAM, A, X, Y and cycles over 0, S FF; then a reset, which sets I and loads PC from FFFC
unfoldable pub power_up : List ℕ → Machine
power_up rom = machine (reset_cpu rom (record { a = 0; x = 0; y = 0; s = 255; p = flags false false false false false false; pc = 0; over = 0 })) (replicate 256 0) fresh

-- no access reads the interrupt's vector, as every interrupt does
abbrev pub is_uninterrupted : List Access → Bool
is_uninterrupted [] = true
is_uninterrupted (read_at a l ∷ s) = not (eqb a 0xFFFE) && is_uninterrupted s
is_uninterrupted (write_at a b ∷ s) = is_uninterrupted s

-- a number is one of a list's
abbrev pub is_among : List ℕ → ℕ → Bool
is_among [] n = false
is_among (a ∷ s) n = eqb n a || is_among s n

-- an image's own test of CPU, RAM and the 38 stored registers, at a machine
abbrev pub holds_at : (Cpu → List ℕ → List ℕ → Bool) → Machine → Bool
holds_at test m = test m.cpu m.ram m.chip.registers

-- a run that ended in e, in which s happened, is still in its wait: no instruction was refused, no interrupt was taken, and the test holds
pub record Waits (test : Cpu → List ℕ → List ℕ → Bool) (e : Ended) (s : List Entry) : Type 0 where
  pub unrefused : e.number ≡ 0
  pub uninterrupted : is_uninterrupted (accesses_of s) ≡ true
  pub waiting : holds_at test e.machine ≡ true

-- it is past its wait: an interrupt was taken, and the test of that holds
pub record Leaves (test : Cpu → List ℕ → List ℕ → Bool) (e : Ended) (s : List Entry) : Type 0 where
  pub unrefused : e.number ≡ 0
  pub interrupted : is_uninterrupted (accesses_of s) ≡ false
  pub past : holds_at test e.machine ≡ true
