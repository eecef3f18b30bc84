-- All that happens in a firmware run, in order (document 02, Wish 5): the listed events with their answers, and every access of the CPU but
-- the two reads of a reset, of ROM alone.
use Rattle.std.specs.Prelude.{ℕ, zero, suc, ◌+◌, List, [], ◌∷◌, ◌++◌, eqb, ltb}
use Rattle.bits.specs.Byte.{pick}
use Rattle.events.specs.Word.{decode}
use Rattle.step.specs.Step.{answered}
use Rattle.cpu_instruction.specs.Program.{Access, accesses}
use Rattle.cpu_instruction.specs.Instruction.{instruction, interrupt}
use Rattle.cpu_step.specs.InstructionTurn.{is_interrupted}
use Rattle.firmware_machine.specs.Machine.{Machine, load, is_requesting, after_interrupt, turn}
use Rattle.firmware_machine.specs.Run.{number_of, word_of, occurred, after_events, left}

-- a listed event with its answer, or an access
pub data Entry : Type 0 where
  given : ℕ → ℕ → Entry
  made : Access → Entry

abbrev pub entries : List Access → List Entry
entries [] = []
entries (a ∷ s) = made a ∷ entries s

-- the accesses of an interrupt, where one is taken: three pushes, and the two bytes of its vector
unfoldable pub interrupt_accesses : List ℕ → Machine → List Access
interrupt_accesses rom m = pick (is_interrupted (is_requesting m.chip) m.cpu) (accesses (load m.ram m.chip rom) (interrupt m.cpu)) []

-- those of the instruction at PC: opcode, operand, pointers, reads, pushes, and its write; a failing one is the last
unfoldable pub instruction_accesses : List ℕ → Machine → List Access
instruction_accesses rom m = accesses (load m.ram m.chip rom) (instruction m.cpu)

-- those of a turn: none while RESET is low
unfoldable pub turn_accesses : List ℕ → Machine → List Access
turn_accesses rom m = pick m.chip.core.reset (interrupt_accesses rom m ++ instruction_accesses rom (after_interrupt rom m)) []

-- the events given before instruction i
unfoldable pub events_before : List ℕ → ℕ → List ℕ → Machine → List Entry
events_before rom i [] m = []
events_before rom i (e ∷ es) m =
    pick (ltb i (number_of e)) [] (given e (answered m.chip (decode (word_of e))) ∷ events_before rom i es (occurred rom m (word_of e)))

-- a run of n instructions, the first of number i; it ends with the accesses of an instruction that is refused
unfoldable pub trace : ℕ → ℕ → List ℕ → List ℕ → Machine → List Entry
trace zero i rom es m = []
trace (suc n) i rom es m =
    events_before rom i es m
    ++ (entries (turn_accesses rom (after_events rom i es m))
    ++ pick (eqb (turn rom (after_events rom i es m)).number 0) (trace n (i + 1) rom (left i es) (turn rom (after_events rom i es m)).machine) [])

-- ---- its parts

-- the listed events given, their words, their answers
abbrev pub events_of : List Entry → List ℕ
events_of [] = []
events_of (given e x ∷ s) = e ∷ events_of s
events_of (made a ∷ s) = events_of s

abbrev pub words_of : List Entry → List ℕ
words_of [] = []
words_of (given e x ∷ s) = word_of e ∷ words_of s
words_of (made a ∷ s) = words_of s

abbrev pub answers_of : List Entry → List ℕ
answers_of [] = []
answers_of (given e x ∷ s) = x ∷ answers_of s
answers_of (made a ∷ s) = answers_of s

abbrev pub accesses_of : List Entry → List Access
accesses_of [] = []
accesses_of (given e x ∷ s) = accesses_of s
accesses_of (made a ∷ s) = a ∷ accesses_of s
