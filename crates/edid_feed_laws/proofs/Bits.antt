-- The bits that a shift moves, and those that a write puts.
-- Assumes nothing.
use Prim.Native.Nat.{ℕ, zero, suc, ◌+◌, ◌*◌, ◌%◌, ◌/◌, ◌<◌}
use mathlib.Core.Path.{◌≡◌, refl, ap, sym, ◌∙◌}
use mathlib.Core.Bool.{Bool, true}
use native.Mathlib.Omega.{arith}
use lib.Bits.{bit_and, bit_or, and_mask, and_zero_r, or_zero_l}
use mathlib.Core.List.{List, [], ◌∷◌, ◌++◌}
use lib.ListN.{get_or}
use Rattle.edid_feed_laws.specs.Levels.{low_bits}
use Rattle.bits.specs.Byte.{bit, merge}
use Rattle.registers.specs.Names.{IIDAT}
use Rattle.registers.specs.Table.{table, row_of, write_mask, updated}

abbrev pub shifted : ℕ → ℕ
shifted r = r % 128 * 2 + 1

pub shifted_low : (r : ℕ) → bit 0 (shifted r) ≡ true
unfolding bit
shifted_low r = let h : shifted r / 1 % 2 ≡ 1 = omega arith in rw h

pub data_written : (old b : ℕ) → b < 256 → updated IIDAT old b ≡ b
unfolding write_mask row_of table merge
data_written old b h = ap (λ (n : ℕ). bit_or n (bit_and b 255)) (and_zero_r old) ∙ or_zero_l (bit_and b 255) ∙ and_mask b 8 ∙ omega arith

-- ---- a shift

seven : (r : ℕ) → bit 7 (shifted r) ≡ bit 6 r
unfolding bit
seven r = let h : shifted r / 128 % 2 ≡ r / 64 % 2 = omega arith in rw h

six : (r : ℕ) → bit 6 (shifted r) ≡ bit 5 r
unfolding bit
six r = let h : shifted r / 64 % 2 ≡ r / 32 % 2 = omega arith in rw h

five : (r : ℕ) → bit 5 (shifted r) ≡ bit 4 r
unfolding bit
five r = let h : shifted r / 32 % 2 ≡ r / 16 % 2 = omega arith in rw h

four : (r : ℕ) → bit 4 (shifted r) ≡ bit 3 r
unfolding bit
four r = let h : shifted r / 16 % 2 ≡ r / 8 % 2 = omega arith in rw h

three : (r : ℕ) → bit 3 (shifted r) ≡ bit 2 r
unfolding bit
three r = let h : shifted r / 8 % 2 ≡ r / 4 % 2 = omega arith in rw h

two : (r : ℕ) → bit 2 (shifted r) ≡ bit 1 r
unfolding bit
two r = let h : shifted r / 4 % 2 ≡ r / 2 % 2 = omega arith in rw h

one : (r : ℕ) → bit 1 (shifted r) ≡ bit 0 r
unfolding bit
one r = let h : shifted r / 2 % 2 ≡ r / 1 % 2 = omega arith in rw h

-- the bits below the top one, with ones behind them, are those still to come
abbrev pub Holds : ℕ → List Bool → Type 0
Holds r p = (i : ℕ) → get_or (low_bits r) i true ≡ get_or p i true

ones_behind : (l : List Bool) (i : ℕ) → get_or (l ++ (true ∷ [])) i true ≡ get_or l i true
ones_behind [] zero = refl
ones_behind [] (suc i) = refl
ones_behind (x ∷ l) zero = refl
ones_behind (x ∷ l) (suc i) = ones_behind l i

low_list : (r : ℕ) → low_bits (shifted r) ≡ (bit 5 r ∷ bit 4 r ∷ bit 3 r ∷ bit 2 r ∷ bit 1 r ∷ bit 0 r ∷ []) ++ (true ∷ [])
low_list r = rw (six r, five r, four r, three r, two r, one r, shifted_low r)

low_shifted : (r i : ℕ) → get_or (low_bits (shifted r)) i true ≡ get_or (low_bits r) (suc i) true
low_shifted r i = ap (λ (l : List Bool). get_or l i true) (low_list r) ∙ ones_behind (bit 5 r ∷ bit 4 r ∷ bit 3 r ∷ bit 2 r ∷ bit 1 r ∷ bit 0 r ∷ []) i

pub holds_shifted : (r : ℕ) (x : Bool) (p : List Bool) → Holds r (x ∷ p) → Holds (shifted r) p
holds_shifted r x p h i = low_shifted r i ∙ h (suc i)

pub top_shifted : (r : ℕ) (x : Bool) (p : List Bool) → Holds r (x ∷ p) → bit 7 (shifted r) ≡ x
top_shifted r x p h = seven r ∙ h 0

pub holds_loaded : (b : ℕ) → Holds b (low_bits b ++ (true ∷ []))
holds_loaded b i = sym (ones_behind (low_bits b) i)
