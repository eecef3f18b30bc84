-- The numbers given back, as document 01's table has them ("Numbers given back"): when each applies, by the word and the state alone.
use Rattle.std.specs.Prelude.{ℕ, Bool, false, not, ◌&&◌, ◌||◌, List, [], ◌∷◌, eqb}
use Rattle.bits.specs.Byte.{pick}
use Rattle.registers.specs.Table.{is_readable, is_writable}
use Rattle.events.specs.Word.{kind, field_a, no_event, no_place, bad_byte}
use Rattle.answers.specs.Answer.{answer_word, answer_fields}
use Rattle.chip.specs.declared.Chip.{Chip}
use Rattle.chip.specs.State.{requests}
use Rattle.chip_well_formed.specs.WellFormed.{well_formed}
use Rattle.step.specs.declared.Stepped.{Stepped}
use Rattle.step.specs.Step.{step}

-- a read and a write by their kind
abbrev pub is_read : ℕ → Bool
is_read word = eqb (kind word) 1

abbrev pub is_write : ℕ → Bool
is_write word = eqb (kind word) 2

-- the numbers 1 to 3 do not apply
abbrev pub is_event : ℕ → Bool
is_event word = not (no_event word) && (not (no_place word) && not (bad_byte word))

-- 8: the state that is offered is not well formed
abbrev pub ill_formed : Chip → Bool
ill_formed c = not (well_formed c)

-- 4: a read or a write while RESET is low
abbrev pub while_reset : Chip → ℕ → Bool
while_reset c word = (is_read word || is_write word) && not c.core.reset

-- 5: a read of a register that takes no read
abbrev pub write_only : ℕ → Bool
write_only word = is_read word && not (is_readable (field_a word))

-- 6: a write to a register that takes no write
abbrev pub read_only : ℕ → Bool
read_only word = is_write word && not (is_writable (field_a word))

-- the table in the order of checking; 7 is a list call's alone
abbrev pub rows : Chip → ℕ → List (ℕ × Bool)
rows c word =
    (8, ill_formed c) ∷ (1, no_event word) ∷ (2, no_place word) ∷ (3, bad_byte word)
    ∷ (4, while_reset c word) ∷ (5, write_only word) ∷ (6, read_only word) ∷ []

-- the number of the first row that applies, 0 where none does
abbrev pub first_of : List (ℕ × Bool) → ℕ
first_of [] = 0
first_of (row ∷ rest) = pick row.1 row.0 (first_of rest)

unfoldable pub number_of01 : Chip → ℕ → ℕ
number_of01 c word = first_of (rows c word)

-- the number that the step's answer holds
abbrev pub answer_number : Chip → ℕ → ℕ
answer_number c word = (answer_fields (step c word).answer).number

-- 1 to 6 leave the state, and the answer carries its request lines
abbrev pub refusal : Chip → ℕ → Stepped
refusal c number = record { chip = c; answer = answer_word number false (requests c) 0 }

-- 8 leaves the state too, and the answer carries nothing else
abbrev pub ill_formed_answer : Chip → Stepped
ill_formed_answer c = record { chip = c; answer = 0x08000000 }
