-- The tables, entry by entry.
-- Assumes nothing.
use mathlib.Core.Bool.{Bool, true, false}
use mathlib.Core.Path.{◌≡◌, refl, ◌∙◌}
use mathlib.Core.List.{List, [], ◌∷◌}
use Prim.Native.Nat.{ℕ, ◌+◌, ◌<◌}
use native.Mathlib.Omega.{arith}
use lib.ListN.{length, get_or, set, length-set}
use lib.Seq.{get_or-set_same, get_or-set_other}
use lib.Dec.{eqb}
use borrow.Author.Tests.{eqb-true, eqb-false}
use Rattle.bits.specs.Byte.{pick}
use Rattle.vcd_text.specs.Token.{same_bytes}
use Rattle.vcd_codes.specs.Codes.{Found, code_at, variables, find, meant}
use Rattle.vcd_body.specs.Tables.{Singles, Lists}

-- a table of n entries with one more
entry_by : (table : List ℕ) (n v b : ℕ) (target : ℕ → Found) (q : Bool) → eqb b n ≡ q → n < length table → meant v ≡ target n → b < n + 1
    → (b < n → meant (get_or table b 0) ≡ target b) → meant (get_or (set table n v) b 0) ≡ target b
entry_by table n v b target true e h t l f = let z : b ≡ n = eqb-true b n e in rw (z, get_or-set_same table n v 0 h) t
entry_by table n v b target false e h t l f =
    let z : (b ≡ n → ⊥) = eqb-false b n e in
    rw (get_or-set_other table n b v 0 (λ q. z q)) (f (omega arith))

module _ (text places pins : List ℕ) (entries : ℕ) (table : List ℕ) (n v : ℕ) where
  pub singles_more : n < 256 → meant v ≡ find (variables text places pins 0 entries) (n ∷ [])
      → Singles text places pins entries table n → Singles text places pins entries (set table n v) (n + 1)
  singles_more h e k = record {
    size = length-set table n v ∙ k.size;
    each = λ b l. entry_by table n v b (λ m. find (variables text places pins 0 entries) (m ∷ [])) (eqb b n) refl (omega (arith, k.size)) e l (k.each b);
  }

  pub lists_more : n < 32 → meant v ≡ find (variables text places pins 0 entries) (code_at text places n)
      → Lists text places pins entries table n → Lists text places pins entries (set table n v) (n + 1)
  lists_more h e k = record {
    size = length-set table n v ∙ k.size;
    each = λ b l. entry_by table n v b (λ m. find (variables text places pins 0 entries) (code_at text places m)) (eqb b n) refl (omega (arith, k.size)) e l (k.each b);
  }

-- a list of one byte
pub single : (l : List ℕ) → length l ≡ 1 → l ≡ get_or l 0 0 ∷ []
single [] h = absurd (omega arith)
single (b ∷ []) h = refl
single (b ∷ (d ∷ l)) h = absurd (omega arith)

-- texts that compare as equal are equal
same_step : (a b : ℕ) (s t : List ℕ) (q : Bool) → eqb a b ≡ q → (same_bytes s t ≡ true → s ≡ t) → pick q (same_bytes s t) false ≡ true → a ∷ s ≡ b ∷ t
same_step a b s t true e ih h = let z : a ≡ b = eqb-true a b e in rw (z, ih h) refl
same_step a b s t false e ih h = absurd (let z : ◌≡◌ {A = ℕ} 0 1 = cc in omega arith)

pub same_equal : (a b : List ℕ) → same_bytes a b ≡ true → a ≡ b
unfolding same_bytes
same_equal [] [] h = refl
same_equal [] (b ∷ t) h = absurd (let z : ◌≡◌ {A = ℕ} 0 1 = cc in omega arith)
same_equal (a ∷ s) [] h = absurd (let z : ◌≡◌ {A = ℕ} 0 1 = cc in omega arith)
same_equal (a ∷ s) (b ∷ t) h = same_step a b s t (eqb a b) refl (same_equal s t) h

-- an entry whose code compares as equal has the list that a search finds
pub slot_right : (text places pins : List ℕ) (entries : ℕ) (lists code : List ℕ) (k : ℕ) → Lists text places pins entries lists 32 → k < 32
    → same_bytes (code_at text places k) code ≡ true → meant (get_or lists k 0) ≡ find (variables text places pins 0 entries) code
slot_right text places pins entries lists code k t h e = rw (← (same_equal (code_at text places k) code e)) (t.each k h)
