-- A run that is refused (document 02, Wish 5): by which instruction, with which number, and what it leaves.
use Rattle.std.specs.Prelude.{ℕ, ◌+◌, List, ◌++◌, length, drop}
use Rattle.bits.specs.Byte.{pick}
use Rattle.firmware_machine.specs.Machine.{Machine, after_interrupt}
use Rattle.firmware_machine.specs.Run.{after_events, answers_before, Ended, ended, runs}
use Rattle.firmware_laws.specs.Numbers.{instruction_number}

-- the number of a turn by the accesses of its instruction, behind the interrupt; while RESET is low there are none
unfoldable pub turn_number : List ℕ → Machine → ℕ
turn_number rom m = pick m.chip.core.reset (instruction_number rom (after_interrupt rom m)) 0

-- behind a run of n instructions: the events that are left, and the machine with those of the next instruction given
abbrev pub events_past : ℕ → ℕ → List ℕ → List ℕ → Machine → List ℕ
events_past n i rom es m = drop (length (runs n i rom es m).answers) es

abbrev pub machine_past : ℕ → ℕ → List ℕ → List ℕ → Machine → Machine
machine_past n i rom es m = after_events rom (i + n) (events_past n i rom es m) (runs n i rom es m).machine

-- a run that the next instruction then ends: CPU, RAM and chip are as before that instruction, its events and interrupt done; it is not
-- counted, and the answers of its events are the last
unfoldable pub refused_past : ℕ → ℕ → List ℕ → List ℕ → Machine → Ended
refused_past n i rom es m =
    ended (after_interrupt rom (machine_past n i rom es m)) (turn_number rom (machine_past n i rom es m)) (i + n)
    ((runs n i rom es m).answers ++ answers_before rom (i + n) (events_past n i rom es m) (runs n i rom es m).machine)
