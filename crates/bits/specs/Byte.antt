-- Bytes, their bits, and a write under a mask. Everything here is plain arithmetic; the chip is not mentioned.
use Rattle.std.specs.Prelude.{ℕ, ◌-◌, ◌/◌, ◌%◌, ◌^◌, Bool, true, false, eqb}
use Rattle.std.specs.Int.Bits.{bit_and, bit_or}

-- the first value where the test holds, else the second
abbrev pub pick : {A : Type 0} → Bool → A → A → A
pick true a b = a
pick false a b = b

-- a level or a bit as a number
abbrev pub num : Bool → ℕ
num true = 1
num false = 0

-- the weight of bit k
abbrev pub weight : ℕ → ℕ
weight k = 2 ^ k

-- the weight of bit k, counted modulo 8, where the test holds, else 0
abbrev pub weight_if : Bool → ℕ → ℕ
weight_if v k = pick v (weight (k % 8)) 0

-- bit k of n is 1; bit 0 is the lowest
unfoldable pub bit : ℕ → ℕ → Bool
bit k n = eqb (n / 2 ^ k % 2) 1

-- a write under a mask (document 01, "Registers"): the bits of the mask are taken from the new byte, the others stay
unfoldable pub merge : ℕ → ℕ → ℕ → ℕ
merge mask old new = bit_or (bit_and old (255 - mask)) (bit_and new mask)

-- the byte x with bit k, counted modulo 8, put to v
unfoldable pub with_bit : ℕ → ℕ → Bool → ℕ
with_bit x k v = pick v (bit_or x (2 ^ (k % 8))) (bit_and x (255 - 2 ^ (k % 8)))
