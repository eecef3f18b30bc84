-- The variables that a header declares and what a code stands for (IEEE 1364, 18.2.3.8; Wish 10).
use Rattle.std.specs.Prelude.{ℕ, zero, suc, ◌+◌, ◌-◌, ◌*◌, ◌/◌, ◌%◌, Bool, true, false, List, [], ◌∷◌, length, take, drop, get_or, eqb, ltb}
use Rattle.bits.specs.Byte.{pick}
use Rattle.vcd_text.specs.Token.{same_bytes}
use Rattle.vcd_output.specs.Room.{unpacked}

-- a declared variable: its code, and the pin that it drives; 0 where it is passed over
pub record Variable : Type 0 where
  pub code : List ℕ
  pub pin : ℕ

-- what a code stands for: no variable; or the pins of its variables, in declared order
pub data Found : Type 0 where
  undeclared : Found
  declared : List ℕ → Found

-- a variable before those of the same code. There are four names and only the first variable of a name has a pin, so that a
-- code has at most four.
unfoldable pub joins : ℕ → Found → Found
joins pin undeclared = declared (pick (eqb pin 0) [] (pin ∷ []))
joins pin (declared pins) = declared (pick (eqb pin 0) pins (pin ∷ take 3 pins))

unfoldable pub find : List Variable → List ℕ → Found
find [] code = undeclared
find (v ∷ rest) code = pick (same_bytes v.code code) (joins v.pin (find rest code)) (find rest code)

-- the code names a variable
unfoldable pub is_declared : Found → Bool
is_declared undeclared = false
is_declared (declared pins) = true

-- ---- the variables as the reader keeps them: two places in the file for each code, and a byte for each pin

abbrev pub code_at : List ℕ → List ℕ → ℕ → List ℕ
code_at text places k = take (get_or places (k * 2 + 1) 0 - get_or places (k * 2) 0) (drop (get_or places (k * 2) 0) text)

-- the n variables from entry k on
unfoldable pub variables : List ℕ → List ℕ → List ℕ → ℕ → ℕ → List Variable
variables text places pins k zero = []
variables text places pins k (suc n) = record { code = code_at text places k; pin = get_or pins k 0 } ∷ variables text places pins (k + 1) n

-- what a code stands for, kept as a number: its pins, the first in the lowest byte; 2^32 for no variable
unfoldable pub meant : ℕ → Found
meant list = pick (ltb list 4294967296) (declared (unpacked 4 list)) undeclared

-- one pin more, as a number
unfoldable pub joined_to : ℕ → ℕ → ℕ
joined_to list pin = pick (ltb list 4294967296) (pick (eqb pin 0) list (list % 16777216 * 256 + pin)) pin

-- what a code stands for, one entry more looked at
unfoldable pub found_after : List ℕ → List ℕ → List ℕ → ℕ → List ℕ → Found → Found
found_after text places pins k code rest = pick (same_bytes (code_at text places k) code) (joins (get_or pins k 0) rest) rest

-- the hash of a code, below 256, by which the reader looks its entry up: of its first, middle and last byte
unfoldable pub hash_of : List ℕ → ℕ
hash_of code =
    pick (eqb (length code) 0) 0
    ((get_or code 0 0 * 5 + get_or code ((length code - 1) / 2) 0 * 3 + get_or code (length code - 1) 0) % 256)
