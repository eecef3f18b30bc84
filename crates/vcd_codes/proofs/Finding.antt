-- A code is looked for entry by entry; its pins are kept as a number.
-- Assumes nothing.
use mathlib.Core.Bool.{Bool, true, false}
use mathlib.Core.Path.{◌≡◌, refl, sym, ap, ◌∙◌}
use mathlib.Core.List.{List, [], ◌∷◌}
use Prim.Native.Nat.{ℕ, zero, suc, min, ◌+◌, ◌-◌, ◌*◌, ◌/◌, ◌%◌, ◌<◌, ◌≤◌}
use native.Mathlib.Omega.{arith}
use lib.ListN.{length, take, drop, get_or, length-drop, get_or-eq_default}
use lib.Seq.{take_all}
use lib.Dec.{eqb, ltb}
use borrow.Author.Tests.{eqb-true, eqb-false, ltb-true, ltb-false, lt-ltb, ne_eqb}
use Rattle.bits.specs.Byte.{pick}
use Rattle.vcd_output.specs.Room.{unpacked}
use Rattle.vcd_codes.specs.Codes.{undeclared, declared, joins, find, variables, meant, joined_to, found_after}

-- an entry that the table has no place for
pub past_table : (l : List ℕ) (i : ℕ) → length l ≤ i → 0 ≡ get_or l i 0
past_table l i h = sym (get_or-eq_default l 0 {n = i} h)

-- ---- a slice with its ends kept within the text

min_pick : (a b : ℕ) → min a b ≡ pick (ltb a b) a b
min_pick a b = by (ltb a b) refl
  where
    by : (q : Bool) → ltb a b ≡ q → min a b ≡ pick q a b
    by true e = let l : a < b = ltb-true a b e in omega arith
    by false e = let l : b ≤ a = ltb-false a b e in omega arith

clip_from : (text : List ℕ) (from to : ℕ) (q : Bool) → ltb from to ≡ q → to ≤ length text
    → take (to - pick q from to) (drop (pick q from to) text) ≡ take (to - from) (drop from text)
clip_from text from to true e h = refl
clip_from text from to false e h =
    let l : to ≤ from = ltb-false from to e in
    let z : to - to ≡ 0 = omega arith in
    let y : to - from ≡ 0 = omega arith in
    rw (z, y) refl

past_end : (text : List ℕ) (from a b : ℕ) → length text - from ≤ a → length text - from ≤ b → take a (drop from text) ≡ take b (drop from text)
past_end text from a b h k = take_all a (drop from text) (simp length-drop (omega arith)) ∙ sym (take_all b (drop from text) (simp length-drop (omega arith)))

clip_to : (text : List ℕ) (from to : ℕ) (q : Bool) → ltb to (length text) ≡ q
    → take (pick q to (length text) - from) (drop from text) ≡ take (to - from) (drop from text)
clip_to text from to true e = refl
clip_to text from to false e = let l : length text ≤ to = ltb-false to (length text) e in past_end text from (length text - from) (to - from) (omega arith) (omega arith)

pub clipped : (text : List ℕ) (from to : ℕ)
    → take (min to (length text) - min from (min to (length text))) (drop (min from (min to (length text))) text) ≡ take (to - from) (drop from text)
clipped text from to =
    let m = min to (length text) in
    let begin : take (m - min from m) (drop (min from m) text) ≡ take (m - from) (drop from text) = rw (min_pick from m) (clip_from text from m (ltb from m) refl (omega arith)) in
    let stop : take (m - from) (drop from text) ≡ take (to - from) (drop from text) = rw (min_pick to (length text)) (clip_to text from to (ltb to (length text)) refl) in
    begin ∙ stop

-- ---- pins as a number

-- what lies above the first pins does not show in them
low_step : (n a b : ℕ) (q : Bool) → unpacked n a ≡ unpacked n b → (m : ℕ) → pick q [] (m ∷ unpacked n a) ≡ pick q [] (m ∷ unpacked n b)
low_step n a b true e m = refl
low_step n a b false e m = rw e refl

low : (n a b : ℕ) → a % 256 ≡ b % 256 → unpacked n (a / 256) ≡ unpacked n (b / 256) → unpacked (suc n) a ≡ unpacked (suc n) b
unfolding unpacked
low n a b e f = rw e (low_step n (a / 256) (b / 256) (eqb (b % 256) 0) f (b % 256))

low_three : (a : ℕ) → unpacked 3 (a % 16777216) ≡ unpacked 3 a
unfolding unpacked
low_three a =
    low 2 (a % 16777216) a (omega arith)
    (low 1 (a % 16777216 / 256) (a / 256) (omega arith)
    (low 0 (a % 16777216 / 256 / 256) (a / 256 / 256) (omega arith) refl))

-- the first pins of a list
fewer_step : (n list : ℕ) (q : Bool) → unpacked n (list / 256) ≡ take n (unpacked (suc n) (list / 256))
    → pick q [] (list % 256 ∷ unpacked n (list / 256)) ≡ take (suc n) (pick q [] (list % 256 ∷ unpacked (suc n) (list / 256)))
fewer_step n list true e = refl
fewer_step n list false e = ap (λ (l : List ℕ). list % 256 ∷ l) e

fewer : (n list : ℕ) → unpacked n list ≡ take n (unpacked (suc n) list)
unfolding unpacked
fewer zero list = refl
fewer (suc n) list = fewer_step n list (eqb (list % 256) 0) (fewer n (list / 256))

first_pin : (n rest pin : ℕ) → pin < 256 → (pin ≡ 0 → ⊥) → unpacked (suc n) (rest * 256 + pin) ≡ pin ∷ unpacked n rest
unfolding unpacked
first_pin n rest pin h z =
    let a : (rest * 256 + pin) % 256 ≡ pin = omega arith in
    let b : (rest * 256 + pin) / 256 ≡ rest = omega arith in
    rw (a, b) (simp (ne_eqb _ _ z))

no_pin : (n : ℕ) → unpacked n 0 ≡ []
unfolding unpacked
no_pin zero = refl
no_pin (suc n) = refl

one_pin : (pin : ℕ) (q : Bool) → eqb pin 0 ≡ q → pin < 256 → unpacked 4 pin ≡ pick q [] (pin ∷ [])
one_pin pin true e h = let z : pin ≡ 0 = eqb-true pin 0 e in rw z (no_pin 4)
one_pin pin false e h =
    let z : 0 * 256 + pin ≡ pin = omega arith in
    ap (unpacked 4) (sym z) ∙ first_pin 3 0 pin h (eqb-false pin 0 e) ∙ ap (λ (l : List ℕ). pin ∷ l) (no_pin 3)

more_pins : (list pin : ℕ) (q : Bool) → eqb pin 0 ≡ q → pin < 256
    → unpacked 4 (pick q list (list % 16777216 * 256 + pin)) ≡ pick q (unpacked 4 list) (pin ∷ take 3 (unpacked 4 list))
more_pins list pin true e h = refl
more_pins list pin false e h = first_pin 3 (list % 16777216) pin h (eqb-false pin 0 e) ∙ rw (low_three list, ← fewer 3 list) refl

joined_fits : (list pin : ℕ) (q : Bool) → list < 4294967296 → pin < 256 → pick q list (list % 16777216 * 256 + pin) < 4294967296
joined_fits list pin true h k = h
joined_fits list pin false h k = omega arith

joins_by : (list pin : ℕ) (q : Bool) → ltb list 4294967296 ≡ q → pin < 256
    → meant (pick q (pick (eqb pin 0) list (list % 16777216 * 256 + pin)) pin) ≡ joins pin (pick q (declared (unpacked 4 list)) undeclared)
unfolding meant joins
joins_by list pin true e h =
    let l : list < 4294967296 = ltb-true list 4294967296 e in
    simp (lt-ltb _ _ (joined_fits list pin (eqb pin 0) l h)) (ap declared (more_pins list pin (eqb pin 0) refl h))
joins_by list pin false e h =
    let l : pin < 4294967296 = omega arith in
    simp (lt-ltb _ _ l) (ap declared (one_pin pin (eqb pin 0) refl h))

pub meant_joined : (list pin : ℕ) → pin < 256 → meant (joined_to list pin) ≡ joins pin (meant list)
unfolding meant joined_to
meant_joined list pin h = joins_by list pin (ltb list 4294967296) refl h

-- ---- entry by entry

module _ (text places pins code : List ℕ) (n k : ℕ) where
  pub entry_more : 0 < k → k ≤ n
      → found_after text places pins (k - 1) code (find (variables text places pins k (n - k)) code) ≡ find (variables text places pins (k - 1) (n - (k - 1))) code
  unfolding find variables found_after
  entry_more h l =
      let z : n - (k - 1) ≡ suc (n - k) = omega arith in
      let y : k - 1 + 1 ≡ k = omega arith in
      rw z (rw y refl)

  pub entry_none : k ≡ n → meant 4294967296 ≡ find (variables text places pins k (n - k)) code
  unfolding find variables meant
  entry_none h = let z : n - k ≡ 0 = omega arith in rw z refl

  pub entry_all : k ≤ 0 → find (variables text places pins k (n - k)) code ≡ find (variables text places pins 0 n) code
  entry_all h = let z : k ≡ 0 = omega arith in let y : n - 0 ≡ n = omega arith in rw (z, y) refl
