-- A case's text in parts, and a word given once more.
-- Assumes nothing.
use mathlib.Core.Path.{◌≡◌, refl, ap}
use mathlib.Core.Bool.{Bool, true, false}
use mathlib.Core.List.{List, [], ◌∷◌, ◌++◌}
use Prim.Native.Nat.{ℕ, zero, suc, ◌+◌, ◌-◌, ◌<◌, ◌≤◌}
use native.Mathlib.Omega.{arith}
use native.Mathlib.Numerals.{add-one}
use lib.ListN.{length, drop, get_or, drop_of_length-le}
use lib.Seq.{drop-cons}
use Rattle.events.specs.Word.{decode}
use Rattle.step.specs.declared.Stepped.{Stepped}
use Rattle.step.specs.Step.{advance}
use Rattle.case_run.specs.declared.Progress.{Progress}
use Rattle.std.specs.Prelude.{Option}
use Rattle.case_run.specs.Run.{goes, meets, answered_as, stopped, given, given_at, repeated, byte_read, read}

-- one of the times left, where reading goes on
pub once : (n : ℕ) (p : Progress) (word : ℕ) (expected : Option ℕ) → 0 < n → goes p.failure ≡ true
    → repeated (n - 1) (given p word expected) word expected ≡ repeated n p word expected
unfolding repeated given_at
once zero p word expected h g = absurd (omega arith)
once (suc n) p word expected h g =
    let left : suc n - 1 ≡ n = omega arith in
    rw (g) (ap (λ (k : ℕ). repeated k (given p word expected) word expected) left)

-- where it has stopped, all of them change nothing
pub stays : (n : ℕ) (p : Progress) (word : ℕ) (expected : Option ℕ) → goes p.failure ≡ false
    → p ≡ repeated n p word expected
unfolding repeated given_at
stays zero p word expected g = refl
stays (suc n) p word expected g = rw (g) (stays n p word expected g)

-- none is left
pub none : (n : ℕ) (p : Progress) (word : ℕ) (expected : Option ℕ) → n ≤ 0 → p ≡ repeated n p word expected
unfolding repeated
none zero p word expected h = refl
none (suc n) p word expected h = absurd (omega arith)

-- the byte with index i, and the end
pub read_next : (p : Progress) (text : List ℕ) (i : ℕ) → i < length text
    → read (byte_read p (get_or text i 0)) (drop (i + 1) text) ≡ read p (drop i text)
unfolding read
read_next p text i h = rw (add-one, drop-cons text i 0 h) refl

pub read_end : (p : Progress) (text : List ℕ) (i : ℕ) → length text ≤ i → p ≡ read p (drop i text)
unfolding read
read_end p text i h = rw (drop_of_length-le text {i = i} h) refl
