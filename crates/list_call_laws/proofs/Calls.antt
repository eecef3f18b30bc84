-- The list call: 0, 8 or 7, each exactly when; what it leaves then; and an empty list.
-- Assumes nothing.
use Prim.Native.Nat.{ℕ}
use mathlib.Core.Path.{◌≡◌, refl, sym, ap}
use mathlib.Core.Bool.{Bool, true, false, not, ◌&&◌}
use mathlib.Core.List.{List, [], ◌++◌}
use native.Mathlib.Omega.{arith}
use lib.Dec.{eqb, ltb}
use lib.ListN.{length, drop}
use borrow.Author.Tests.{le-ltb}
use Rattle.bits.specs.Byte.{pick}
use Rattle.chip.specs.declared.Chip.{Chip}
use Rattle.chip_well_formed.specs.WellFormed.{well_formed}
use Rattle.list_call.specs.Run.{advanced, run, run_answers, run_result}
use Rattle.list_call_laws.specs.Calls.{WordByWord, Untouched}
use Rattle.list_call_laws.proofs.Runs.{after_advanced, answers_advanced}

-- the number, by the two tests in their order
numbered : (well short : Bool) (c d : Chip) → (pick well (pick short (run_result c 7) (run_result d 0)) (run_result c 8)).number ≡ pick well (pick short 7 0) 8
numbered true true c d = refl
numbered true false c d = refl
numbered false short c d = refl

pub number : (c : Chip) (ws ps : List ℕ) → (run c ws ps).number ≡ pick (well_formed c) (pick (ltb (length ps) (length ws)) 7 0) 8
unfolding run
number c ws ps = numbered (well_formed c) (ltb (length ps) (length ws)) c (advanced c ws)

by_two : (well short : Bool) → (n : ℕ) → n ≡ pick well (pick short 7 0) 8
    → (eqb n 0 ≡ (well && not short)) × (eqb n 7 ≡ (well && short)) × (eqb n 8 ≡ not well)
by_two true true n e = rw e (refl, refl, refl)
by_two true false n e = rw e (refl, refl, refl)
by_two false true n e = rw e (refl, refl, refl)
by_two false false n e = rw e (refl, refl, refl)

-- 0, 7 and 8, each then and not otherwise
pub numbers : (c : Chip) (ws ps : List ℕ)
    → (eqb (run c ws ps).number 0 ≡ (well_formed c && not (ltb (length ps) (length ws))))
    × (eqb (run c ws ps).number 7 ≡ (well_formed c && ltb (length ps) (length ws)))
    × (eqb (run c ws ps).number 8 ≡ not (well_formed c))
numbers c ws ps = by_two (well_formed c) (ltb (length ps) (length ws)) (run c ws ps).number (number c ws ps)

-- a call that returns 0 is the step given word by word
pub word_by_word : (c : Chip) (ws ps : List ℕ) → well_formed c ≡ true → ltb (length ps) (length ws) ≡ false → WordByWord c ws ps
unfolding run run_answers
word_by_word c ws ps t s =
    record {
      chip = rw (t, s) (sym (after_advanced c ws t));
      written = rw (t, s) (ap (λ (l : List ℕ). l ++ drop (length ws) ps) (sym (answers_advanced c ws t)));
    }

-- a refused call touches nothing
pub ill_formed_untouched : (c : Chip) (ws ps : List ℕ) → well_formed c ≡ false → Untouched c ws ps
unfolding run run_answers
ill_formed_untouched c ws ps t = record { chip = rw t; written = rw t }

pub short_untouched : (c : Chip) (ws ps : List ℕ) → well_formed c ≡ true → ltb (length ps) (length ws) ≡ true → Untouched c ws ps
unfolding run run_answers
short_untouched c ws ps t s = record { chip = rw (t, s); written = rw (t, s) }

-- an empty list at a well formed chip: 0, and nothing moves
pub empty_list : (c : Chip) (ps : List ℕ) → well_formed c ≡ true → (run c [] ps ≡ run_result c 0) × (run_answers c [] ps ≡ ps)
unfolding run run_answers
empty_list c ps t =
    let s : ltb (length ps) 0 ≡ false = le-ltb (length ps) 0 (omega arith) in
    (rw (t, s), rw (t, s))
