-- An instruction without the chip (document 02, Wish 5): what it reads of the registers is what is known of them; a register that it writes, a
-- clock of 8 µs that is due and an interrupt that comes first are told.
use Rattle.std.specs.Prelude.{ℕ, ◌+◌, ◌-◌, ◌%◌, ◌≡◌, Bool, true, false, List, ltb}
use Rattle.bits.specs.Byte.{pick}
use Rattle.cpu_operations.specs.declared.Cpu.{Cpu}
use Rattle.cpu_operations.specs.Operations.{set_over, is_clear}
use Rattle.cpu_memory.specs.Memory.{memory}
use Rattle.cpu_memory.specs.Reads.{Result, gives, refuses}
use Rattle.cpu_instruction.specs.declared.Effect.{Effect}
use Rattle.cpu_instruction.specs.Program.{perform}
use Rattle.cpu_instruction.specs.Instruction.{instruction_by}
pub use Rattle.cpu_execution.specs.Execution.{destination_at, stored_at, executed_with, executed_number, ram_with}
unfoldable pub use Rattle.cpu_execution.specs.Execution.{destination, stored, executed_to}
use Rattle.cpu_execution.specs.declared.Destination.{Destination}
use Rattle.cpu_execution.specs.declared.Destination.TheVariants as to
use Rattle.cpu_execution.specs.declared.Executed.{Executed}
use Rattle.cpu_execution.specs.declared.Executed.TheVariants as executed
use Rattle.cpu_step.specs.declared.Turn.{Turn}
use Rattle.cpu_step.specs.declared.Turn.TheVariants as turn

-- ---- cycles

-- the cycles over and those of an instruction or interrupt
abbrev pub cycles_with : Effect → ℕ
cycles_with e = e.cpu.over + e.cycles

-- 32 of them are an 8 µs clock; the CPU keeps the rest
abbrev pub counted : Effect → Cpu
counted e = set_over (cycles_with e % 32) e.cpu

-- ---- one instruction

-- an interrupt comes first where a request stands and I is clear
abbrev pub is_interrupted : Bool → Cpu → Bool
is_interrupted true c = is_clear c.p.i
is_interrupted false c = false

-- an access that fails: with a number of the papers, all of which are below 64; or, with 64 and its own number, a register that was not looked at
abbrev pub refused_turn : ℕ → Turn
refused_turn n = pick (ltb n 64) (turn.Refused n) (turn.NotCached (n - 64))

-- by where the store goes: done; done, and a clock is due; a register to be written, with the effect's CPU, its cycles, register and byte; refused
unfoldable pub turn_to : Destination → Effect → Turn
turn_to to.Ram e = pick (ltb (cycles_with e) 32) (turn.On (counted e)) (turn.Clock (counted e))
turn_to (to.Register r b) e = turn.Write e.cpu e.cycles r b
turn_to (to.Refused n) e = refused_turn n

abbrev pub turn_with : Result Effect → Turn
turn_with (gives e) = turn_to (destination e.store) e
turn_with (refuses n) = refused_turn n

-- the same from what became of instruction and store
unfoldable pub turn_from : Executed → Turn
turn_from (executed.Done c n) = pick (ltb (c.over + n) 32) (turn.On (set_over ((c.over + n) % 32) c)) (turn.Clock (set_over ((c.over + n) % 32) c))
turn_from (executed.Write c n r b) = turn.Write c n r b
turn_from (executed.Refused n) = refused_turn n

unfoldable pub turn_of : List ℕ → List ℕ → List ℕ → Bool → Cpu → List ℕ → Turn
turn_of table seen rom request c ram =
    pick (is_interrupted request c) turn.Interrupt (turn_with (perform (memory seen ram rom) (instruction_by table c)))

-- RAM after it
unfoldable pub ram_after : List ℕ → List ℕ → List ℕ → Bool → Cpu → List ℕ → List ℕ
ram_after table seen rom request c ram =
    pick (is_interrupted request c) ram (ram_with (perform (memory seen ram rom) (instruction_by table c)) ram)

-- ---- number and values of each case

abbrev pub turn_number : Turn → ℕ
turn_number (turn.On d) = 0
turn_number (turn.Clock d) = 0
turn_number turn.Interrupt = 0
turn_number (turn.Write q n r b) = 0
turn_number (turn.Refused n) = n
turn_number (turn.NotCached r) = 0

-- the number of an instruction that an interrupt precedes, or that y became of: one of the papers, or none
abbrev pub number_from : Bool → Executed → ℕ
number_from true y = 0
number_from false y = pick (ltb (executed_number y) 64) (executed_number y) 0

-- CPU, cycles, register and byte are those of the instruction, its cycles counted where no register is written; a register not looked at has its own number
abbrev pub TurnValues : Bool → Executed → Turn → Type 0
TurnValues i y (turn.On d) = (c : Cpu) × (n : ℕ) × (y ≡ executed.Done c n) × (d ≡ set_over ((c.over + n) % 32) c) × (ltb (c.over + n) 32 ≡ true)
TurnValues i y (turn.Clock d) = (c : Cpu) × (n : ℕ) × (y ≡ executed.Done c n) × (d ≡ set_over ((c.over + n) % 32) c) × (ltb (c.over + n) 32 ≡ false)
TurnValues i y turn.Interrupt = i ≡ true
TurnValues i y (turn.Write q n r b) = y ≡ executed.Write q n r b
TurnValues i y (turn.Refused n) = y ≡ executed.Refused n
TurnValues i y (turn.NotCached r) = y ≡ executed.Refused (64 + r)

-- an interrupt comes first or not, and the instruction comes to x
pub record TurnCase (i : Bool) (x : Result Effect) (t : Turn) : Type 0 where
  pub number : turn_number t ≡ number_from i (executed_with x)
  pub values : TurnValues i (executed_with x) t
