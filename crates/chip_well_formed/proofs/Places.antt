-- The columns of reserved bits and of their values are those of the register table, by one test computed over the 38 places.
-- Assumes nothing.
use mathlib.Core.Path.{◌≡◌, sym, ap₂}
use mathlib.Core.Bool.{Bool, true, ◌&&◌}
use mathlib.Core.List.{List, [], ◌∷◌}
use Prim.Native.Nat.{ℕ, ◌<◌}
use lib.Bits.{bit_and}
use lib.Dec.{T, eqb, eqb→eq}
use lib.ListN.{get_or}
use Rattle.bits.proofs.Finite.{at_each, and_left, and_right}
use Rattle.registers.specs.Table.{reset_value, row_of, table, write_mask}
use Rattle.chip_well_formed.specs.WellFormed.{reserved_mask, reserved_at}

unfoldable pub masks : List ℕ
masks = 0 ∷ 192 ∷ 0 ∷ 0 ∷ 252 ∷ 255 ∷ 255 ∷ 255 ∷ 255 ∷ 255 ∷ 255 ∷ 32 ∷ 0 ∷ 255 ∷ 255 ∷ 192 ∷ 255 ∷ 255 ∷ 255 ∷ 255 ∷ 255 ∷ 255 ∷ 255 ∷ 252 ∷ 0 ∷ 0 ∷ 0 ∷ 0 ∷ 0 ∷ 0 ∷ 0 ∷ 0 ∷ 0 ∷ 0 ∷ 0 ∷ 0 ∷ 0 ∷ 0 ∷ []

unfoldable pub values : List ℕ
values = 0 ∷ 64 ∷ 0 ∷ 0 ∷ 0 ∷ 7 ∷ 47 ∷ 0 ∷ 0 ∷ 0 ∷ 0 ∷ 32 ∷ 0 ∷ 192 ∷ 0 ∷ 0 ∷ 0 ∷ 0 ∷ 0 ∷ 255 ∷ 0 ∷ 8 ∷ 0 ∷ 0 ∷ 0 ∷ 0 ∷ 0 ∷ 0 ∷ 0 ∷ 0 ∷ 0 ∷ 0 ∷ 0 ∷ 0 ∷ 0 ∷ 0 ∷ 0 ∷ 0 ∷ []

is_mask : ℕ → Bool
is_mask a = eqb (get_or masks a 0) (reserved_mask a)

is_value : ℕ → Bool
is_value a = eqb (get_or values a 0) (bit_and (reset_value a) (reserved_mask a))

rows : (a : ℕ) → a < 38 → T (is_mask a && is_value a)
unfolding masks values is_mask is_value reserved_mask reset_value write_mask row_of
rows a h = at_each (λ a. is_mask a && is_value a) 38 tt a h

-- the test at a place, by the tables
pub at_place_lem : (l : List ℕ) (a : ℕ) → a < 38 → reserved_at l a ≡ eqb (bit_and (get_or l a 0) (get_or masks a 0)) (get_or values a 0)
unfolding reserved_at is_mask is_value
at_place_lem l a h =
    let t = rows a h in
    let m : get_or masks a 0 ≡ reserved_mask a = eqb→eq _ _ (and_left (is_mask a) (is_value a) t) in
    let v : get_or values a 0 ≡ bit_and (reset_value a) (reserved_mask a) = eqb→eq _ _ (and_right (is_mask a) (is_value a) t) in
    sym (ap₂ (λ (x y : ℕ). eqb (bit_and (get_or l a 0) x) y) m v)
