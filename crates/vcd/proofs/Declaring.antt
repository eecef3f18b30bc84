-- The table with one variable more.
-- Assumes nothing.
use mathlib.Core.Bool.{Bool, true, false, ◌||◌}
use Rattle.std.specs.List.{list_any}
use mathlib.Core.Path.{◌≡◌, refl, ap, ◌∙◌}
use mathlib.Core.List.{List, [], ◌∷◌, ◌++◌}
use Prim.Native.Nat.{ℕ, zero, suc, ◌+◌, ◌-◌, ◌*◌, ◌<◌, ◌≤◌}
use native.Mathlib.Omega.{arith}
use native.Mathlib.Numerals.{add-one}
use lib.ListN.{length, take, drop, get_or, set, length-set}
use lib.Seq.{drop-cons, get_or-set_same, get_or-set_other}
use lib.Dec.{eqb}
use Rattle.bits.specs.Byte.{pick}
use Rattle.vcd_codes.specs.Codes.{Variable, code_at, variables}
use Rattle.vcd.specs.Header.{taken}

-- ---- a pin among the variables

any_step : (q : Bool) {f g : Bool} → f ≡ g → (q || f) ≡ pick q true g
any_step true e = refl
any_step false e = e

any_from : (text places pins : List ℕ) (pin k n : ℕ) → k + n ≤ length pins → list_any (λ p. eqb p pin) (take n (drop k pins)) ≡ taken (variables text places pins k n) pin
unfolding taken variables
any_from text places pins pin k zero h = refl
any_from text places pins pin k (suc n) h =
    rw (drop-cons pins k 0 (let l : k < length pins = omega arith in l), ← (add-one k)) (any_step (eqb (get_or pins k 0) pin) (any_from text places pins pin (k + 1) n (omega arith)))

pub taken_any : (text places pins : List ℕ) (pin n : ℕ) → n ≤ length pins → list_any (λ p. eqb p pin) (take n pins) ≡ taken (variables text places pins 0 n) pin
taken_any text places pins pin n h = any_from text places pins pin 0 n (omega arith)

-- ---- a table with one entry more

abbrev entry : List ℕ → List ℕ → List ℕ → ℕ → Variable
entry text places pins k = record { code = code_at text places k; pin = get_or pins k 0 }

last_entry : (text places pins : List ℕ) (k n : ℕ) → variables text places pins k (suc n) ≡ variables text places pins k n ++ (entry text places pins (k + n) ∷ [])
unfolding variables
last_entry text places pins k zero = let z : k + 0 ≡ k = omega arith in rw z refl
last_entry text places pins k (suc n) =
    let z : k + 1 + n ≡ k + suc n = omega arith in
    ap (λ (l : List Variable). entry text places pins k ∷ l) (last_entry text places pins (k + 1) n ∙ rw z refl)

module _ (text places pins : List ℕ) (n from to pin : ℕ) where
  abbrev new_places : List ℕ
  new_places = set (set places (n * 2) from) (n * 2 + 1) to

  old_place : (i : ℕ) → i < n * 2 → get_or new_places i 0 ≡ get_or places i 0
  old_place i h = get_or-set_other (set places (n * 2) from) (n * 2 + 1) i to 0 (λ e. omega arith) ∙ get_or-set_other places (n * 2) i from 0 (λ e. omega arith)

  old_pin : (i : ℕ) → i < n → get_or (set pins n pin) i 0 ≡ get_or pins i 0
  old_pin i h = get_or-set_other pins n i pin 0 (λ e. omega arith)

  old_entries : (k m : ℕ) → k + m ≤ n → variables text new_places (set pins n pin) k m ≡ variables text places pins k m
  unfolding variables
  old_entries k zero h = refl
  old_entries k (suc m) h =
      rw (old_place (k * 2 + 1) (omega arith), old_place (k * 2) (omega arith), old_pin k (omega arith), old_entries (k + 1) m (omega arith)) refl

  module _ (h : n * 2 + 1 < length places) (l : n < length pins) where
    first_place : get_or new_places (n * 2) 0 ≡ from
    first_place = get_or-set_other (set places (n * 2) from) (n * 2 + 1) (n * 2) to 0 (λ e. omega arith) ∙ get_or-set_same places (n * 2) from 0 (omega arith)

    last_place : get_or new_places (n * 2 + 1) 0 ≡ to
    last_place = get_or-set_same (set places (n * 2) from) (n * 2 + 1) to 0 (simp length-set h)

    pub one_more_entry : variables text new_places (set pins n pin) 0 (n + 1)
        ≡ variables text places pins 0 n ++ (record { code = take (to - from) (drop from text); pin = pin } ∷ [])
    one_more_entry =
        let z : 0 + n ≡ n = omega arith in
        ap (variables text new_places (set pins n pin) 0) (add-one n)
        ∙ last_entry text new_places (set pins n pin) 0 n
        ∙ rw (z, old_entries 0 n (omega arith), first_place, last_place, get_or-set_same pins n pin 0 l) refl
