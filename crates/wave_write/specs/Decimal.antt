-- Numbers in decimal and in binary.
use Rattle.std.specs.Prelude.{ℕ, zero, suc, ◌+◌, ◌*◌, ◌/◌, ◌%◌, List, [], ◌∷◌, ◌++◌, ltb}
use Rattle.bits.specs.Byte.{pick}

-- the digits of a number, the highest first and no leading zero; k + 1 digits at most
unfoldable pub decimal_to : ℕ → ℕ → List ℕ
decimal_to zero n = (48 + n % 10) ∷ []
decimal_to (suc k) n = pick (ltb n 10) ((48 + n % 10) ∷ []) (decimal_to k (n / 10) ++ ((48 + n % 10) ∷ []))

-- every number of 64 bits has 20 digits at most
abbrev pub decimal : ℕ → List ℕ
decimal n = decimal_to 19 n

-- the n highest of twelve bits, the highest first
unfoldable pub binary : ℕ → ℕ → List ℕ
binary zero v = []
binary (suc n) v = (48 + v / 2048 % 2) ∷ binary n (v % 2048 * 2)
