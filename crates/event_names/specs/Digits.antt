-- Hex digits as a token: so many digits in upper case, the highest first, as bytes in base 256.
use Rattle.std.specs.Prelude.{Option, Some, None, ℕ, zero, suc, ◌+◌, ◌-◌, ◌*◌, ◌/◌, ◌%◌, eqb, ltb}
use Rattle.bits.specs.Byte.{pick}
use Rattle.hex_digits.specs.Hex.{hex_digit}

-- a number below a limit; none where it is not below it
abbrev pub below : ℕ → ℕ → Option ℕ
below limit n = pick (ltb n limit) (Some n) None

-- the digit with this code, or 16
unfoldable pub digit_of : ℕ → ℕ
digit_of c = pick (ltb c 48) 16 (pick (ltb c 58) (c - 48) (pick (ltb c 65) 16 (pick (ltb c 71) (c - 55) 16)))

-- the last n hex digits of a number
unfoldable pub hex : ℕ → ℕ → ℕ
hex zero w = 0
hex (suc n) w = hex n (w / 16) * 256 + hex_digit (w % 16)

-- a number with one digit more, or 2^32
unfoldable pub joined : ℕ → ℕ → ℕ
joined high low = pick (ltb high 268435456) (pick (ltb low 16) (high * 16 + low) 4294967296) 4294967296

-- the number that a token of n hex digits is, at most eight; 2^32 for any other token
unfoldable pub unhex : ℕ → ℕ → ℕ
unhex zero t = pick (eqb t 0) 0 4294967296
unhex (suc n) t = joined (unhex n (t / 256)) (digit_of (t % 256))
