-- The level of a line before a place, and the first fault, from one place to the next.
-- Assumes nothing.
use Prim.Native.Nat.{ℕ, suc, ◌+◌, ◌<◌, ◌≤◌}
use mathlib.Core.Path.{◌≡◌}
use mathlib.Core.Bool.{true}
use mathlib.Core.List.{List}
use native.Mathlib.Numerals.{add-one}
use lib.ListN.{length, get_or, drop, drop_of_length-le}
use lib.Seq.{drop-cons}
use borrow.Author.Tests.{eq-eqb, ne_eqb}
use Rattle.std.specs.Prelude.{None}
use Rattle.std.specs.declared.option.Option.{Option}
use Rattle.plain_bus.specs.Plain.{line_at, high_at, level_before}
use Rattle.plain_bus.specs.Reading.{fault_of, first_fault, or_else}
use Rattle.plain_bus.specs.declared.Fault.{Fault}

-- ---- looking back from a place, one change at a time

pub level_first : (line : ℕ) (cs : List ℕ) (i : ℕ) → i ≡ 0 → true ≡ level_before line cs i
unfolding level_before
level_first line cs i h = rw h

pub level_found : (line : ℕ) (cs : List ℕ) (i j : ℕ) → i ≡ suc j → line_at cs j ≡ line → high_at cs j ≡ level_before line cs i
unfolding level_before
level_found line cs i j h e = rw (h, eq-eqb (line_at cs j) line e)

pub level_earlier : (line : ℕ) (cs : List ℕ) (i j : ℕ) → i ≡ suc j → (line_at cs j ≡ line → ⊥) → level_before line cs j ≡ level_before line cs i
unfolding level_before
level_earlier line cs i j h e = rw (h, ne_eqb (line_at cs j) line e)

-- ---- the first fault, from a place on

pub fault_more : (cs : List ℕ) (i : ℕ) (f : Option Fault) → i < length cs → fault_of (get_or cs i 0) ≡ f → first_fault (drop i cs) ≡ or_else f (first_fault (drop (i + 1) cs))
unfolding first_fault
fault_more cs i f h e = rw (add-one, drop-cons cs i 0 h, e)

pub fault_none : (cs : List ℕ) (i : ℕ) → length cs ≤ i → first_fault (drop i cs) ≡ None
unfolding first_fault
fault_none cs i h = rw (drop_of_length-le cs {i = i} h)
