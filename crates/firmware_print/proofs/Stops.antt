-- Where no instruction may follow.
-- Assumes nothing.
use Prim.Native.Nat.{ℕ, ◌≤◌, ◌<◌}
use mathlib.Core.Path.{◌≡◌, refl, sym, ap, ◌∙◌}
use mathlib.Core.Bool.{Bool, true, false, ◌&&◌, true≢false}
use mathlib.Core.List.{List}
use native.Mathlib.Omega.{arith}
use lib.Dec.{eqb, ltb}
use borrow.Author.Tests.{ltb-true, ltb-false, le-ltb}
use Rattle.bits.proofs.Finite.{both}
use Rattle.firmware_trace.specs.declared.Run.{Run}
use Rattle.firmware_trace.specs.Trace.{goes_on}
use Rattle.firmware_print.specs.Marked.{marked}
use Rattle.firmware_print.specs.Taken.{Proceeded}

pub never : {A : Type 0} (b : Bool) → b ≡ true → b ≡ false → A
never b t f = absurd (true≢false (sym t ∙ f))

none_below : (b : Bool) (next to count : ℕ) → to ≤ count → (b && ltb next count) ≡ false → (b && ltb next to) ≡ false
none_below false next to count h g = refl
none_below true next to count h g = le-ltb next to (omega (arith, ltb-false next count g))

-- where none may follow up to `count`, none may up to a smaller number
pub stops_before : (number : ℕ) (printed : Bool) (next to count : ℕ) → to ≤ count → goes_on number printed next count ≡ false
    → goes_on number printed next to ≡ false
unfolding goes_on
stops_before number printed next to count h g = none_below (eqb number 0 && printed) next to count h g

-- where one may follow, its number is below
pub goes_below : (number : ℕ) (printed : Bool) (next to : ℕ) → goes_on number printed next to ≡ true → next < to
unfolding goes_on
goes_below number printed next to h = ltb-true next to (both (eqb number 0 && printed) (ltb next to) h).1

-- of a run that is left as it is, none may follow either
pub stops_kept : (r run : Run) (count : ℕ) → r ≡ run → goes_on run.number run.printed run.next count ≡ false
    → goes_on r.number r.printed r.next count ≡ false
stops_kept r run count h g = ap (λ (x : Run). goes_on x.number x.printed x.next count) h ∙ g

-- a run that is left as it is, and that is marked then
pub marked_kept : (last r run : Run) → last ≡ marked r last.printed → r ≡ run → last ≡ marked run last.printed
marked_kept last r run h g = h ∙ ap (λ (x : Run). marked x last.printed) g

-- and nothing is done
pub nothing_done : (rom : List ℕ) (traced : Bool) (to : ℕ) (run : Run) (ram : List ℕ) (r : Run) (left : List ℕ) → Proceeded rom traced to run ram r left
    → goes_on run.number run.printed run.next to ≡ false → (r ≡ run) × (left ≡ ram)
nothing_done rom traced to run ram r left p h = rw h at p
