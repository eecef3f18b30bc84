-- A listing's text in parts, and a word given once more.
-- Assumes nothing.
use mathlib.Core.Path.{◌≡◌, refl, ap}
use mathlib.Core.List.{List, [], ◌∷◌, ◌++◌}
use Prim.Native.Nat.{ℕ, zero, suc, ◌+◌, ◌-◌, ◌<◌, ◌≤◌}
use native.Mathlib.Omega.{arith}
use native.Mathlib.Numerals.{add-one}
use lib.ListN.{length, drop, get_or, drop_of_length-le}
use lib.Seq.{drop-cons}
use borrow.Author.Tests.{eq-eqb, ne_eqb}
use Rattle.events.specs.Word.{decode}
use Rattle.step.specs.declared.Stepped.{Stepped}
use Rattle.step.specs.Step.{advance}
use Rattle.listing.specs.declared.Progress.{Progress}
use Rattle.listing.specs.declared.Verdict.TheVariants.{Differs}
use Rattle.listing.specs.Listing.{answered_as, stopped, given, given_at, repeated, byte_read, read}

-- the answer is the expected one, or another
module _ (p : Progress) (word expected : ℕ) (r : Stepped) (e : r ≡ advance p.chip (decode word)) where
  pub same : r.answer ≡ expected → answered_as p r ≡ given p word expected
  unfolding given
  same h = rw (← e) (simp (eq-eqb _ _ h))

  pub other : (r.answer ≡ expected → ⊥) → stopped p (Differs word expected r.answer) ≡ given p word expected
  unfolding given
  other h = rw (← e) (simp (ne_eqb _ _ h))

-- one of the times left
pub once : (n : ℕ) (p : Progress) (word expected : ℕ) → 0 < n
    → repeated (n - 1) (given_at p.verdict p word expected) word expected ≡ repeated n p word expected
unfolding repeated
once zero p word expected h = absurd (omega arith)
once (suc n) p word expected h =
    let left : suc n - 1 ≡ n = omega arith in
    ap (λ (k : ℕ). repeated k (given_at p.verdict p word expected) word expected) left

-- none is left
pub none : (n : ℕ) (p : Progress) (word expected : ℕ) → n ≤ 0 → p ≡ repeated n p word expected
unfolding repeated
none zero p word expected h = refl
none (suc n) p word expected h = absurd (omega arith)

-- a text read in two parts
pub read_append : (p : Progress) (xs ys : List ℕ) → read p (xs ++ ys) ≡ read (read p xs) ys
unfolding read
read_append p [] ys = refl
read_append p (b ∷ rest) ys = read_append (byte_read p.verdict p b) rest ys

-- the byte with index i, and the end
pub read_next : (p : Progress) (text : List ℕ) (i : ℕ) → i < length text
    → read (byte_read p.verdict p (get_or text i 0)) (drop (i + 1) text) ≡ read p (drop i text)
unfolding read
read_next p text i h = rw (add-one, drop-cons text i 0 h) refl

pub read_end : (p : Progress) (text : List ℕ) (i : ℕ) → length text ≤ i → p ≡ read p (drop i text)
unfolding read
read_end p text i h = rw (drop_of_length-le text {i = i} h) refl
