-- What is lent holds after a call, by what the call came to.
use mathlib.Core.Path.{◌≡◌, ◌∙◌, ap, sym}
use mathlib.Core.List.{List}
use Prim.Native.Nat.{ℕ}
use lib.ListN.{length}
use borrow.Author.Tests.{eq-eqb}
use Rattle.std.proofs.Common.{Result, Ok, Err}
use Rattle.sync6862.specs.declared.Refusal.{Refusal}
use Rattle.sync6862.specs.Unit.{refusal_number}
use Rattle.numbers6862.specs.Numbers.{call, told}
use Rattle.sync6862_capi.specs.Lent.{lent}

module _ (lent_numbers taken : List ℕ) (code value : ℕ) (twelve : length lent_numbers ≡ 12) (whole : taken ≡ lent_numbers) where
  lent_told : (r : Result (List ℕ) Refusal) → call taken code value ≡ r → lent lent_numbers code value ≡ told lent_numbers r
  unfolding lent
  lent_told r is = rw (eq-eqb _ _ twelve) (ap (told lent_numbers) (ap (λ n. call n code value) (sym whole) ∙ is))

  pub lent_done : (next : List ℕ) → call taken code value ≡ Ok next
      → (0 ≡ (lent lent_numbers code value).0) × (next ≡ (lent lent_numbers code value).1)
  lent_done next is = let e = sym (lent_told _ is) in (ap (λ (x : ℕ × List ℕ). x.0) e, ap (λ (x : ℕ × List ℕ). x.1) e)

  pub lent_refused : (why : Refusal) → call taken code value ≡ Err why
      → (refusal_number why ≡ (lent lent_numbers code value).0) × (lent_numbers ≡ (lent lent_numbers code value).1)
  lent_refused why is = let e = sym (lent_told _ is) in (ap (λ (x : ℕ × List ℕ). x.0) e, ap (λ (x : ℕ × List ℕ). x.1) e)
