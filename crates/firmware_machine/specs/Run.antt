-- A run of firmware: listed events between the instructions, and the firmware call (document 02, Wish 5).
use Rattle.std.specs.Prelude.{ℕ, zero, suc, ◌+◌, ◌/◌, ◌%◌, Bool, true, false, ◌&&◌, List, [], ◌∷◌, ◌++◌, eqb, ltb, length, drop}
use Rattle.bits.specs.Byte.{pick}
use Rattle.events.specs.Word.{decode}
use Rattle.chip.specs.declared.Chip.{Chip}
use Rattle.chip_well_formed.specs.WellFormed.{well_formed}
use Rattle.chip_events.specs.Outcome.{next, was_reset}
use Rattle.step.specs.Step.{answered}
use Rattle.cpu_operations.specs.declared.Cpu.{Cpu}
use Rattle.cpu_instruction.specs.Instruction.{reset_cpu}
use Rattle.firmware_machine.specs.Machine.{Machine, machine, Turned, turn}

-- ---- events

-- a listed event: in bits 63..32 the number of the instruction that it precedes, below them its word
abbrev pub number_of : ℕ → ℕ
number_of e = e / 4294967296

abbrev pub word_of : ℕ → ℕ
word_of e = e % 4294967296

-- a word given to the chip; where it resets the chip, I is set and PC is loaded from its vector
unfoldable pub occurred : List ℕ → Machine → ℕ → Machine
occurred rom m w = machine (pick (was_reset m.chip (decode w)) (reset_cpu rom m.cpu) m.cpu) m.ram (next m.chip (decode w))

-- the events given before instruction i are those from the head of the list on up to the first with a number above i, which holds back all
-- behind it: the machine after them, their answers, and the events left
unfoldable pub after_events : List ℕ → ℕ → List ℕ → Machine → Machine
after_events rom i [] m = m
after_events rom i (e ∷ es) m = pick (ltb i (number_of e)) m (after_events rom i es (occurred rom m (word_of e)))

unfoldable pub answers_before : List ℕ → ℕ → List ℕ → Machine → List ℕ
answers_before rom i [] m = []
answers_before rom i (e ∷ es) m =
    pick (ltb i (number_of e)) [] (answered m.chip (decode (word_of e)) ∷ answers_before rom i es (occurred rom m (word_of e)))

unfoldable pub left : ℕ → List ℕ → List ℕ
left i [] = []
left i (e ∷ es) = pick (ltb i (number_of e)) (e ∷ es) (left i es)

-- ---- a run

-- how a run ends: the machine, 0 or the number of the refusal, the number of the next instruction (of the refused one, where there is one),
-- and the answers of the events given
pub record Ended : Type 0 where
  pub machine : Machine
  pub number : ℕ
  pub next : ℕ
  pub answers : List ℕ

abbrev pub ended : Machine → ℕ → ℕ → List ℕ → Ended
ended m n i l = record { machine = m; number = n; next = i; answers = l }

abbrev pub prepended : List ℕ → Ended → Ended
prepended l e = ended e.machine e.number e.next (l ++ e.answers)

-- after the turn of instruction i: on with the next one, or the end where it is refused
abbrev pub on_turned : Turned → ℕ → (Machine → Ended) → Ended
on_turned t i k = pick (eqb t.number 0) (k t.machine) (ended t.machine t.number i [])

-- n instructions, the first of number i
unfoldable pub runs : ℕ → ℕ → List ℕ → List ℕ → Machine → Ended
runs zero i rom es m = ended m 0 i []
runs (suc n) i rom es m =
    prepended (answers_before rom i es m)
    (on_turned (turn rom (after_events rom i es m)) i (λ (t : Machine). runs n (i + 1) rom (left i es) t))

-- ---- the firmware call

-- what it gives back, with the RAM and the answer places that it leaves
pub record Called : Type 0 where
  pub number : ℕ
  pub cpu : Cpu
  pub ram : List ℕ
  pub chip : Chip
  pub answers : List ℕ
  pub counted : ℕ
  pub given : ℕ

-- refused before anything runs: all is left as it was
abbrev pub not_run : ℕ → Cpu → List ℕ → Chip → List ℕ → Called
not_run n c ram k places = record { number = n; cpu = c; ram = ram; chip = k; answers = places; counted = 0; given = 0 }

-- run to its end, or refused at an instruction: answers of the events given, and past them what was there
abbrev pub called : Ended → List ℕ → Called
called e places =
    record {
      number = e.number;
      cpu = e.machine.cpu;
      ram = e.machine.ram;
      chip = e.machine.chip;
      answers = e.answers ++ drop (length e.answers) places;
      counted = e.next;
      given = length e.answers;
    }

-- the cycles over are at most 31, and the chip is well formed
abbrev pub is_well_formed : Cpu → Chip → Bool
is_well_formed c k = ltb c.over 32 && well_formed k

-- the call: 8 where CPU or chip is ill formed, 22 where the ROM is not 24,576 bytes, 7 where there are fewer answer places than events in
-- the whole list; then n instructions from number 0
unfoldable pub firmware : Cpu → List ℕ → List ℕ → Chip → List ℕ → List ℕ → ℕ → Called
firmware c ram rom k es places n =
    pick (is_well_formed c k)
    (pick (eqb (length rom) 24576)
    (pick (ltb (length places) (length es))
    (not_run 7 c ram k places)
    (called (runs n 0 rom es (machine c ram k)) places))
    (not_run 22 c ram k places))
    (not_run 8 c ram k places)
