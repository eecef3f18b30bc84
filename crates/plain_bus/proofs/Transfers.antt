-- The rises since a START, taken one after the other.
-- Assumes nothing.
use Prim.Native.Nat.{ℕ, zero, suc, ◌+◌, ◌-◌, ◌*◌, ◌%◌, ◌^◌, ◌<◌, ◌≤◌}
use mathlib.Core.Path.{◌≡◌, refl, sym, ap, ◌∙◌}
use mathlib.Core.Bool.{Bool, true, false, ◌||◌}
use mathlib.Core.List.{List, [], ◌∷◌}
use native.Mathlib.Omega.{arith}
use native.Mathlib.Nat.{mod-eq_of_lt, pow-suc}
use lib.Pow.{pow_mono}
use native.Mathlib.Numerals.{add-one}
use lib.Dec.{ltb}
use lib.ListN.{length, take}
use borrow.Author.Tests.{lt-ltb}
use Rattle.bits.specs.Byte.{pick, num}
use Rattle.bits.proofs.Mask.{num_lt}
use Rattle.plain_bus.specs.Plain.{sda_before, rise_at, start_at, stop_at, rises_from, rises_since, levels_at, appended, byte_of}
use Rattle.plain_bus.specs.Reading.{transfer_of, risen_of, taken_at}
use Rattle.plain_bus.specs.declared.Transfer.{Transfer}

-- further levels
abbrev pub followed : Transfer → List Bool → Transfer
followed t [] = t
followed t (level ∷ levels) = followed (risen_of t level) levels

abbrev pub of : ℕ → ℕ → Transfer
of rises byte = record { rises = rises; byte = byte }

-- the ninth rise is the last that counts
nine : (byte : ℕ) (levels : List Bool) → followed (of 9 byte) levels ≡ of 9 byte
unfolding risen_of
nine byte [] = refl
nine byte (level ∷ levels) = nine byte levels

pow_byte : (n : ℕ) → n < 8 → 2 ^ n ≤ 128
pow_byte n h = pow_mono {i = n} {j = 7} (omega arith)

followed_some : (k n byte : ℕ) (levels : List Bool) → n + k ≡ 8 → byte < 2 ^ n → followed (of n byte) levels ≡ of (n + length (take (suc k) levels)) (appended byte (take k levels))
unfolding risen_of
followed_some zero n byte [] e h = ap (λ (m : ℕ). of m byte) (omega arith)
followed_some (suc k) n byte [] e h = ap (λ (m : ℕ). of m byte) (omega arith)
followed_some zero n byte (level ∷ levels) e h =
    let eight : n ≡ 8 = omega arith in
    rw eight (nine byte levels)
followed_some (suc k) n byte (level ∷ levels) e h =
    let less : ltb n 8 ≡ true = lt-ltb n 8 (omega arith) in
    let kept : byte % 128 ≡ byte = mod-eq_of_lt (omega (arith, pow_byte n (omega arith))) in
    let fits : byte * 2 + num level < 2 ^ (n + 1) = rw (add-one n) (omega (arith, num_lt level, pow-suc 2 n)) in
    rw (less, kept)
    (followed_some k (n + 1) (byte * 2 + num level) levels (omega arith) fits
    ∙ ap (λ (m : ℕ). of m (appended (byte * 2 + num level) (take k levels))) (omega arith))

pub followed_all : (levels : List Bool) → transfer_of levels ≡ followed (of 0 0) levels
followed_all levels =
    ap (λ (n : ℕ). of n (byte_of (take 8 levels))) (omega arith) ∙ sym (followed_some 8 0 0 levels refl (omega arith))

-- ---- from place to place, n places being left

abbrev pub levels_from : List ℕ → ℕ → ℕ → List Bool
levels_from cs i n = levels_at cs (rises_from cs i n)

none_left : (cs : List ℕ) (i n : ℕ) (t : Transfer) → n ≡ 0 → followed t (levels_from cs i n) ≡ t
unfolding rises_from
none_left cs i n t e = rw e

pub at_end_lem : (cs : List ℕ) (i : ℕ) (t : Transfer) → length cs ≤ i → followed t (levels_from cs i (length cs - i)) ≡ t
at_end_lem cs i t h = none_left cs i (length cs - i) t (omega arith)

ended_by : (cs : List ℕ) (i n : ℕ) (t : Transfer) (m : ℕ) → m ≡ suc n → (start_at cs i || stop_at cs i) ≡ true → followed t (levels_from cs i m) ≡ t
unfolding rises_from
ended_by cs i n t m e h = rw (e, h)

or_true : (a b : Bool) → b ≡ true → (a || b) ≡ true
or_true true b e = refl
or_true false b e = e

pub at_start_lem : (cs : List ℕ) (i : ℕ) (t : Transfer) → i < length cs → start_at cs i ≡ true → followed t (levels_from cs i (length cs - i)) ≡ t
at_start_lem cs i t h e = ended_by cs i (length cs - suc i) t (length cs - i) (omega arith) (rw e)

pub at_stop : (cs : List ℕ) (i : ℕ) (t : Transfer) → i < length cs → stop_at cs i ≡ true → followed t (levels_from cs i (length cs - i)) ≡ t
at_stop cs i t h e = ended_by cs i (length cs - suc i) t (length cs - i) (omega arith) (or_true (start_at cs i) (stop_at cs i) e)

taken_by : (cs : List ℕ) (i n : ℕ) (t : Transfer) (rise : Bool)
    → followed t (levels_at cs (pick rise (i ∷ rises_from cs (suc i) n) (rises_from cs (suc i) n))) ≡ followed (pick rise (risen_of t (sda_before cs i)) t) (levels_from cs (suc i) n)
taken_by cs i n t true = refl
taken_by cs i n t false = refl

passed_by : (cs : List ℕ) (i n : ℕ) (t : Transfer) (m : ℕ) → m ≡ suc n → start_at cs i ≡ false → stop_at cs i ≡ false
    → followed t (levels_from cs i m) ≡ followed (taken_at cs i t) (levels_from cs (suc i) n)
unfolding rises_from taken_at
passed_by cs i n t m e a b = rw (e, a, b) (taken_by cs i n t (rise_at cs i))

pub at_other : (cs : List ℕ) (i : ℕ) (t u : Transfer) → i < length cs → start_at cs i ≡ false → stop_at cs i ≡ false → u ≡ taken_at cs i t
    → followed t (levels_from cs i (length cs - i)) ≡ followed u (levels_from cs (i + 1) (length cs - (i + 1)))
at_other cs i t u h a b e = rw (add-one, e) (passed_by cs i (length cs - suc i) t (length cs - i) (omega arith) a b)

pub at_first : (cs : List ℕ) (s : ℕ) → transfer_of (levels_at cs (rises_since cs s)) ≡ followed (of 0 0) (levels_from cs (s + 1) (length cs - (s + 1)))
at_first cs s = rw add-one (followed_all (levels_from cs (suc s) (length cs - suc s)))
