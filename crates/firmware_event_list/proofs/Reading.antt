-- A text in parts: a byte more, and blocks.
-- Assumes nothing.
use mathlib.Core.Path.{◌≡◌, refl}
use mathlib.Core.Bool.{Bool, true, false}
use mathlib.Core.List.{List, [], ◌∷◌, ◌++◌}
use Prim.Native.Nat.{ℕ, suc, ◌+◌, ◌<◌, ◌≤◌}
use native.Mathlib.Omega.{arith}
use native.Mathlib.Numerals.{add-one}
use lib.ListN.{length, drop, get_or, drop_of_length-le}
use lib.Seq.{drop-cons}
use Rattle.firmware_event_lines.specs.declared.Reader.{Reader}
use Rattle.std.specs.Prelude.{Result, Ok, Err}
use Rattle.firmware_event_lines.specs.Lines.{nothing, line_start, next, meaning_of}
use lib.Dec.{eqb}
use Rattle.firmware_event_list.specs.declared.Checked.{Checked}
use Rattle.firmware_event_list.specs.declared.MalformedLine.{MalformedLine}
use Rattle.firmware_event_list.specs.Lists.{is_something, checked_byte, on_checked, checked_on, tells, behind, found_as, found_on}

-- ---- every line checked

-- a malformed line ends it
pub check_stop : (e : MalformedLine) (bs : List ℕ) → Err e ≡ checked_on (Err e) bs
unfolding checked_on
check_stop e [] = refl
check_stop e (b ∷ bs) = check_stop e bs

module _ (c : Checked) (t : List ℕ) (i : ℕ) where
  pub check_next : i < length t → checked_on (Ok c) (drop i t) ≡ checked_on (checked_byte c (get_or t i 0)) (drop (i + 1) t)
  unfolding checked_on
  check_next h = rw (add-one, drop-cons t i 0 h) refl

  pub check_end : length t ≤ i → checked_on (Ok c) (drop i t) ≡ Ok c
  unfolding checked_on
  check_end h = rw (drop_of_length-le t {i = i} h) refl

-- a text checked in two blocks
pub check_append : (c : Result Checked MalformedLine) (xs ys : List ℕ) → checked_on c (xs ++ ys) ≡ checked_on (checked_on c xs) ys
unfolding checked_on
check_append c [] ys = refl
check_append c (b ∷ xs) ys = check_append (on_checked c (λ (d : Checked). checked_byte d b)) xs ys

-- ---- event by event

module _ (r : Reader) (t : List ℕ) (i : ℕ) (h : i < length t) where
  pub found_within : eqb (get_or t i 0) 10 ≡ false → found_on (next r (get_or t i 0)) (i + 1) (drop (i + 1) t) ≡ found_on r i (drop i t)
  unfolding found_on
  found_within e = rw (drop-cons t i 0 h) (simp (e, add-one))

  pub found_nothing : eqb (get_or t i 0) 10 ≡ true → is_something (meaning_of r.line) ≡ false
      → found_on line_start (i + 1) (drop (i + 1) t) ≡ found_on r i (drop i t)
  unfolding found_on
  found_nothing e m = rw (drop-cons t i 0 h) (simp (e, m, add-one))

  pub found_something : eqb (get_or t i 0) 10 ≡ true → is_something (meaning_of r.line) ≡ true
      → found_as line_start (i + 1) (meaning_of r.line) ≡ found_on r i (drop i t)
  unfolding found_on
  found_something e m = rw (drop-cons t i 0 h) (simp (e, m))

pub found_end_lem : (r : Reader) (t : List ℕ) (i : ℕ) → length t ≤ i → found_as r i nothing ≡ found_on r i (drop i t)
unfolding found_on
found_end_lem r t i h = rw (drop_of_length-le t {i = i} h) refl

-- what is found lies behind where the reading began
from_step : (r : Reader) (i b : ℕ) (bs : List ℕ) (m : Bool) → tells r b ≡ m → i + 1 ≤ (found_on (behind r b) (i + 1) bs).at → i + 1 ≤ (found_on r i (b ∷ bs)).at
unfolding found_on
from_step r i b bs true m h = simp m (omega arith)
from_step r i b bs false m h = simp m h

found_from : (bs : List ℕ) (r : Reader) (i : ℕ) → i ≤ (found_on r i bs).at
unfolding found_on
found_from [] r i = omega arith
found_from (b ∷ bs) r i = let later = from_step r i b bs (tells r b) refl (found_from bs (behind r b) (i + 1)) in omega arith

pub found_later : (r : Reader) (t : List ℕ) (i : ℕ) → i < length t → i < (found_on r i (drop i t)).at
found_later r t i h =
    let b = get_or t i 0 in
    rw
    (drop-cons t i 0 h)
    (let later = from_step r i b (drop (suc i) t) (tells r b) refl (found_from (drop (suc i) t) (behind r b) (i + 1)) in omega arith)
