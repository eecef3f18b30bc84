-- An EDID base block: what holds of it in every edition (document 02, Wish 7). Bytes count from 0.
use Rattle.std.specs.Prelude.{ℕ, ◌+◌, ◌%◌, ◌≡◌, Bool, true, ◌&&◌, List, [], ◌∷◌, eqb, length, get_or, take}
use Rattle.std.specs.List as list
use Rattle.bits.specs.Byte.{pick}

-- the byte at a place; 0 past the end
abbrev pub byte_at : List ℕ → ℕ → ℕ
byte_at block i = get_or block i 0

-- a base block has 128 bytes
abbrev pub length_fits : List ℕ → Bool
length_fits block = eqb (length block) 128

-- the header, bytes 0 to 7: 00, six FF, 00
unfoldable pub header_fits : List ℕ → Bool
header_fits block =
    eqb (byte_at block 0) 0
    && (eqb (byte_at block 1) 0xff && (eqb (byte_at block 2) 0xff && (eqb (byte_at block 3) 0xff
    && (eqb (byte_at block 4) 0xff && (eqb (byte_at block 5) 0xff && (eqb (byte_at block 6) 0xff
    && eqb (byte_at block 7) 0))))))

-- all bytes added up
abbrev pub sum_of : List ℕ → ℕ
sum_of block = list.sum block

-- the sum of all bytes is 0 modulo 256
unfoldable pub sum_fits : List ℕ → Bool
sum_fits block = eqb (sum_of block % 256) 0

-- the same without tests: what every edition asks of a block
pub record Framed (block : List ℕ) : Type 0 where
  pub size : length block ≡ 128
  pub header : take 8 block ≡ 0 ∷ 0xff ∷ 0xff ∷ 0xff ∷ 0xff ∷ 0xff ∷ 0xff ∷ 0 ∷ []
  pub sum : sum_of block % 256 ≡ 0

-- and as tests
pub record Fits (block : List ℕ) : Type 0 where
  pub size : length_fits block ≡ true
  pub header : header_fits block ≡ true
  pub sum : sum_fits block ≡ true

-- ---- the number of the first rule that is broken

-- rules in the order of checking, each with its number and whether the block keeps it; 0 where all are kept
abbrev pub first_broken : List (ℕ × Bool) → ℕ
first_broken [] = 0
first_broken (rule ∷ rest) = pick rule.1 (first_broken rest) rule.0
