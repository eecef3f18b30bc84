-- Words written into lent places, one after the other, as far as there is room; and the pins of a code kept as one number.
use Rattle.std.specs.Prelude.{ℕ, zero, suc, ◌+◌, ◌*◌, ◌/◌, ◌%◌, Bool, true, false, List, [], ◌∷◌, length, set, eqb, ltb}
use Rattle.bits.specs.Byte.{pick, num}
use Rattle.vcd_output.specs.declared.Put.{Put}

-- the places after a writing, and what is told of it
pub record Written : Type 0 where
  pub room : List ℕ
  pub told : Put

abbrev pub wrote : List ℕ → Put → Written
wrote room told = record { room = room; told = told }

-- words written from a place on, up to the first that finds none. `done` words of the same token were written before; where one
-- finds no place, the number that is done by then is told.
unfoldable pub put : List ℕ → List ℕ → ℕ → ℕ → Written
put [] room count done = wrote room (record { count = count; done = 0; full = false })
put (w ∷ rest) room count done =
    pick (ltb count (length room)) (put rest (set room count w) (count + 1) (done + 1)) (wrote room (record { count = count; done = done; full = true }))

-- the event word of the 8 µs clock: kind 4, A 0, B 0
abbrev pub clock_word : ℕ
clock_word = 67108864

-- the event word of a pin's change: kind 3, A the pin, B the level
abbrev pub pin_word : Bool → ℕ → ℕ
pin_word high pin = 50331648 + num high + pin * 256

-- the pins that a number holds, the first in its lowest byte; a byte of 0 ends them
unfoldable pub unpacked : ℕ → ℕ → List ℕ
unpacked zero list = []
unpacked (suc n) list = pick (eqb (list % 256) 0) [] (list % 256 ∷ unpacked n (list / 256))

-- their event words
unfoldable pub pin_words : ℕ → ℕ → Bool → List ℕ
pin_words zero list high = []
pin_words (suc n) list high = pick (eqb (list % 256) 0) [] (pin_word high (list % 256) ∷ pin_words n (list / 256) high)
