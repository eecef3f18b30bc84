-- What the step answers at the states of each clause: within its bound another number than 8, past it 8, whatever the word.
-- Assumes nothing.
use mathlib.Core.Path.{◌≡◌, refl, ap, ◌∙◌}
use mathlib.Core.Bool.{Bool, true, false, not, ◌&&◌}
use mathlib.Core.List.{List, [], ◌∷◌, ◌++◌}
use Prim.Native.Nat.{ℕ, suc}
use native.Mathlib.Omega.{arith}
use lib.ListN.{length}
use Rattle.bits.specs.Byte.{pick}
use Rattle.bits.proofs.Finite.{both}
use Rattle.chip.specs.declared.Chip.{Chip}
use Rattle.chip_well_formed.specs.WellFormed.{well_formed}
use Rattle.chip_laws.proofs.Numbers.{ill_formed_step, exactly_8}
use Rattle.chip_formed_cases.specs.Clauses.{Clause, all_formed, none_formed, holds, failing_from, failing, each, AnsweredEight, AnsweredOtherwise, Told, ranges, stored, apart, modes, gathering, sending, free, clauses}
use Rattle.chip_formed_cases.proofs.Computed.{ranges_hold, stored_hold, apart_hold, modes_hold, gathering_hold, sending_hold, free_hold}

-- ---- one state

not_true : (t : Bool) → not t ≡ true → t ≡ false
not_true true h = cc
not_true false h = refl

well_otherwise : (c : Chip) → well_formed c ≡ true → AnsweredOtherwise c
well_otherwise c h word = exactly_8 c word ∙ ap not h

ill_eight : (c : Chip) → not (well_formed c) ≡ true → AnsweredEight c
ill_eight c h word = ill_formed_step c word (not_true (well_formed c) h)

-- ---- the states of a clause

all_otherwise : (cs : List Chip) → all_formed cs ≡ true → each AnsweredOtherwise cs
all_otherwise [] h = tt
all_otherwise (c ∷ cs) h = (well_otherwise c (both (well_formed c) (all_formed cs) h).0, all_otherwise cs (both (well_formed c) (all_formed cs) h).1)

all_eight : (cs : List Chip) → none_formed cs ≡ true → each AnsweredEight cs
all_eight [] h = tt
all_eight (c ∷ cs) h = (ill_eight c (both (not (well_formed c)) (none_formed cs) h).0, all_eight cs (both (not (well_formed c)) (none_formed cs) h).1)

told : (k : Clause) → holds k ≡ true → Told k
told k h =
    let sides = both (all_formed k.within) (none_formed k.past) h in
    (all_otherwise k.within sides.0, all_eight k.past sides.1)

-- ---- a list of clauses of which none fails

none_by : (n : ℕ) (rest : List ℕ) (t : Bool) → pick t rest (n ∷ rest) ≡ [] → (t ≡ true) × (rest ≡ [])
none_by n rest true h = (refl, h)
none_by n rest false h = absurd (let e : ◌≡◌ {A = ℕ} (length (n ∷ rest)) 0 = ap length h in omega arith)

all_from : (n : ℕ) (ks : List Clause) → failing_from n ks ≡ [] → each Told ks
all_from n [] h = tt
all_from n (k ∷ ks) h =
    let here = none_by n (failing_from (suc n) ks) (holds k) h in
    (told k here.0, all_from (suc n) ks here.1)

joined : (ks js : List Clause) → each Told ks → each Told js → each Told (ks ++ js)
joined [] js a b = b
joined (k ∷ ks) js a b = (a.0, joined ks js a.1 b)

-- ---- every clause
pub clause_by_clause : each Told clauses
clause_by_clause =
    joined ranges (stored ++ (apart ++ (modes ++ (gathering ++ (sending ++ free))))) (all_from 0 ranges ranges_hold)
    (joined stored (apart ++ (modes ++ (gathering ++ (sending ++ free)))) (all_from 0 stored stored_hold)
    (joined apart (modes ++ (gathering ++ (sending ++ free))) (all_from 0 apart apart_hold)
    (joined modes (gathering ++ (sending ++ free)) (all_from 0 modes modes_hold)
    (joined gathering (sending ++ free) (all_from 0 gathering gathering_hold)
    (joined sending free (all_from 0 sending sending_hold) (all_from 0 free free_hold))))))
