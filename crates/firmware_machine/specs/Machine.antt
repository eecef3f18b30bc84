-- The CPU, its RAM and the chip as one machine (document 02, Wish 5): an instruction, an interrupt, and the turn of an instruction.
use Rattle.std.specs.Prelude.{ℕ, Bool, true, false, not, List, eqb, ltb, get_or, Ok}
use Rattle.bits.specs.Byte.{pick}
use Rattle.events.specs.Clocks as clock
use Rattle.events.specs.declared.Event.TheVariants as event
use Rattle.chip.specs.declared.Chip.{Chip}
use Rattle.chip.specs.State.{requests}
use Rattle.chip_reads.specs.declared.Reading.{Reading}
use Rattle.chip_reads.specs.Reads.{reading}
use Rattle.chip_writes.specs.Writes.{write_number}
use Rattle.chip_events.specs.Outcome.{next}
use Rattle.cpu_operations.specs.declared.Cpu.{Cpu}
use Rattle.cpu_memory.specs.declared.Loaded.{Loaded}
use Rattle.cpu_memory.specs.declared.Loaded.TheVariants.{Byte, Refused}
use Rattle.cpu_memory.specs.declared.Place.{Place}
use Rattle.cpu_memory.specs.declared.Place.TheVariants as at
use Rattle.cpu_memory.specs.Memory.{place}
use Rattle.cpu_memory.specs.Reads.{Result, gives, refuses}
use Rattle.cpu_instruction.specs.declared.Effect.{Effect}
use Rattle.cpu_instruction.specs.Program.{perform}
use Rattle.cpu_instruction.specs.Instruction.{instruction, interrupt}
use Rattle.cpu_execution.specs.declared.Destination.{Destination}
use Rattle.cpu_execution.specs.declared.Destination.TheVariants as to
use Rattle.cpu_execution.specs.Execution.{destination, stored}
use Rattle.cpu_step.specs.InstructionTurn.{cycles_with, counted, is_interrupted}

pub record Machine : Type 0 where
  pub cpu : Cpu
  pub ram : List ℕ
  pub chip : Chip

abbrev pub machine : Cpu → List ℕ → Chip → Machine
machine c ram k = record { cpu = c; ram = ram; chip = k }

-- the machine after something, and 0 or the number of its refusal
pub record Turned : Type 0 where
  pub machine : Machine
  pub number : ℕ

abbrev pub turned : Machine → ℕ → Turned
turned m n = record { machine = m; number = n }

-- ---- reads

-- a register reads as the chip shows it, or is refused with the number of that read
abbrev pub register_read : Reading → Loaded
register_read r = pick (eqb r.number 0) (Byte r.byte) (Refused r.number)

abbrev pub load_at : List ℕ → Chip → List ℕ → Place → Loaded
load_at ram k rom (at.Register r) = register_read (reading k r)
load_at ram k rom (at.Ram i) = Byte (get_or ram i 0)
load_at ram k rom (at.Rom i) = Byte (get_or rom i 0)
load_at ram k rom at.Unmapped = Refused 21

-- a read at an address, with the chip's registers
unfoldable pub load : List ℕ → Chip → List ℕ → ℕ → Loaded
load ram k rom a = load_at ram k rom (place a)

-- ---- what an instruction or an interrupt leaves is done

-- 32 cycles, those over from before counted, give one 8 µs clock
abbrev pub clock_after : ℕ → Chip → Chip
clock_after n k = pick (ltb n 32) k (next k (Ok (event.Clock clock.period)))

abbrev pub finished : Effect → List ℕ → Chip → Turned
finished e ram k = turned (machine (counted e) ram (clock_after (cycles_with e) k)) 0

-- by where its store goes: a write that the chip refuses, or one to ROM or to no place, leaves all as it was
abbrev pub stored_to : Destination → Effect → Machine → Turned
stored_to to.Ram e m = finished e (stored m.ram e.store) m.chip
stored_to (to.Register r b) e m =
    pick (eqb (write_number m.chip.core.reset r) 0)
    (finished e m.ram (next m.chip (Ok (event.Write r b))))
    (turned m (write_number m.chip.core.reset r))
stored_to (to.Refused n) e m = turned m n

abbrev pub completed : Result Effect → Machine → Turned
completed (gives e) m = stored_to (destination e.store) e m
completed (refuses n) m = turned m n

-- the instruction at PC
unfoldable pub instruct : List ℕ → Machine → Turned
instruct rom m = completed (perform (load m.ram m.chip rom) (instruction m.cpu)) m

-- ---- the interrupt

-- any request stands
unfoldable pub is_requesting : Chip → Bool
is_requesting k = not (eqb (requests k) 0)

unfoldable pub interrupt_taken : List ℕ → Machine → Machine
interrupt_taken rom m = (completed (perform (load m.ram m.chip rom) (interrupt m.cpu)) m).machine

-- taken where a request stands and I is clear
unfoldable pub after_interrupt : List ℕ → Machine → Machine
after_interrupt rom m = pick (is_interrupted (is_requesting m.chip) m.cpu) (interrupt_taken rom m) m

-- ---- a turn: perhaps an interrupt, then the instruction; while RESET is low neither, and nothing is done
unfoldable pub turn : List ℕ → Machine → Turned
turn rom m = pick m.chip.core.reset (instruct rom (after_interrupt rom m)) (turned m 0)
