-- What the chip is given in a firmware run, in order, and the cycles that are counted (document 02, Wish 5).
use Rattle.std.specs.Prelude.{ℕ, zero, suc, ◌+◌, List, [], ◌∷◌, ◌++◌, eqb, ltb, Ok}
use Rattle.bits.specs.Byte.{pick}
use Rattle.events.specs.Clocks as clock
use Rattle.events.specs.Decoded.{Decoded}
use Rattle.events.specs.declared.Event.TheVariants as event
use Rattle.events.specs.Word.{decode}
use Rattle.chip.specs.declared.Chip.{Chip}
use Rattle.chip_writes.specs.Writes.{write_number}
use Rattle.chip_events.specs.Outcome.{next}
use Rattle.cpu_memory.specs.Reads.{Result, gives, refuses}
use Rattle.cpu_instruction.specs.declared.Effect.{Effect}
use Rattle.cpu_instruction.specs.Program.{perform}
use Rattle.cpu_instruction.specs.Instruction.{instruction, interrupt}
use Rattle.cpu_execution.specs.declared.Destination.{Destination}
use Rattle.cpu_execution.specs.declared.Destination.TheVariants as to
use Rattle.cpu_step.specs.InstructionTurn.{destination, cycles_with, is_interrupted}
use Rattle.firmware_machine.specs.Machine.{Machine, load, is_requesting, after_interrupt, turn}
use Rattle.firmware_machine.specs.Run.{number_of, word_of, after_events, left}

-- a listed word; a register written by an instruction, with its byte; the 8 µs clock that cycles complete
pub data Given : Type 0 where
  listed : ℕ → Given
  written : ℕ → ℕ → Given
  clocked : Given

abbrev pub event_of : Given → Decoded
event_of (listed w) = decode w
event_of (written r b) = Ok (event.Write r b)
event_of clocked = Ok (event.Clock clock.period)

-- the chip after them
abbrev pub chip_after : Chip → List Given → Chip
chip_after k [] = k
chip_after k (g ∷ s) = chip_after (next k (event_of g)) s

-- how many are clocks that cycles completed
abbrev pub clocks_in : List Given → ℕ
clocks_in [] = 0
clocks_in (listed w ∷ s) = clocks_in s
clocks_in (written r b ∷ s) = clocks_in s
clocks_in (clocked ∷ s) = 1 + clocks_in s

-- ---- an instruction or an interrupt

-- 32 cycles, those over counted, give one clock
abbrev pub clock_due : ℕ → List Given
clock_due n = pick (ltb n 32) [] (clocked ∷ [])

-- a refused one gives nothing, and its cycles are not counted
abbrev pub given_to : Destination → Effect → Machine → List Given
given_to to.Ram e m = clock_due (cycles_with e)
given_to (to.Register r b) e m = pick (eqb (write_number m.chip.core.reset r) 0) (written r b ∷ clock_due (cycles_with e)) []
given_to (to.Refused n) e m = []

abbrev pub given_with : Result Effect → Machine → List Given
given_with (gives e) m = given_to (destination e.store) e m
given_with (refuses n) m = []

abbrev pub cycles_to : Destination → Effect → Machine → ℕ
cycles_to to.Ram e m = e.cycles
cycles_to (to.Register r b) e m = pick (eqb (write_number m.chip.core.reset r) 0) e.cycles 0
cycles_to (to.Refused n) e m = 0

abbrev pub cycles_by : Result Effect → Machine → ℕ
cycles_by (gives e) m = cycles_to (destination e.store) e m
cycles_by (refuses n) m = 0

abbrev pub instruction_result : List ℕ → Machine → Result Effect
instruction_result rom m = perform (load m.ram m.chip rom) (instruction m.cpu)

abbrev pub interrupt_result : List ℕ → Machine → Result Effect
interrupt_result rom m = perform (load m.ram m.chip rom) (interrupt m.cpu)

-- ---- a turn

unfoldable pub interrupt_given : List ℕ → Machine → List Given
interrupt_given rom m = pick (is_interrupted (is_requesting m.chip) m.cpu) (given_with (interrupt_result rom m) m) []

unfoldable pub interrupt_cycles : List ℕ → Machine → ℕ
interrupt_cycles rom m = pick (is_interrupted (is_requesting m.chip) m.cpu) (cycles_by (interrupt_result rom m) m) 0

unfoldable pub instruction_given : List ℕ → Machine → List Given
instruction_given rom m = given_with (instruction_result rom m) m

unfoldable pub instruction_cycles : List ℕ → Machine → ℕ
instruction_cycles rom m = cycles_by (instruction_result rom m) m

unfoldable pub turn_given : List ℕ → Machine → List Given
turn_given rom m = pick m.chip.core.reset (interrupt_given rom m ++ instruction_given rom (after_interrupt rom m)) []

unfoldable pub turn_cycles : List ℕ → Machine → ℕ
turn_cycles rom m = pick m.chip.core.reset (interrupt_cycles rom m + instruction_cycles rom (after_interrupt rom m)) 0

-- ---- a run of n instructions, the first of number i

unfoldable pub given_before : ℕ → List ℕ → List Given
given_before i [] = []
given_before i (e ∷ es) = pick (ltb i (number_of e)) [] (listed (word_of e) ∷ given_before i es)

unfoldable pub history : ℕ → ℕ → List ℕ → List ℕ → Machine → List Given
history zero i rom es m = []
history (suc n) i rom es m =
    given_before i es
    ++ (turn_given rom (after_events rom i es m)
    ++ pick (eqb (turn rom (after_events rom i es m)).number 0) (history n (i + 1) rom (left i es) (turn rom (after_events rom i es m)).machine) [])

-- the cycles counted in it
unfoldable pub cycles_counted : ℕ → ℕ → List ℕ → List ℕ → Machine → ℕ
cycles_counted zero i rom es m = 0
cycles_counted (suc n) i rom es m =
    turn_cycles rom (after_events rom i es m)
    + pick (eqb (turn rom (after_events rom i es m)).number 0) (cycles_counted n (i + 1) rom (left i es) (turn rom (after_events rom i es m)).machine) 0
