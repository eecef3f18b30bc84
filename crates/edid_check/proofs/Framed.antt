-- Length, header and sum, which every edition asks for: the tests say what they are to say.
-- Assumes nothing.
use mathlib.Core.Path.{◌≡◌, refl, sym, ap, ◌∙◌}
use mathlib.Core.Bool.{Bool, true, ◌&&◌}
use mathlib.Core.List.{List, [], ◌∷◌}
use Prim.Native.Nat.{ℕ, ◌<◌, ◌≤◌}
use native.Mathlib.Omega.{arith}
use borrow.Author.Tests.{eqb-true, eq-eqb}
use lib.Dec.{eqb}
use lib.ListN.{length, get_or, take}
use lib.Seq.{get_or-take}
use Rattle.bits.proofs.Finite.{both}
use Rattle.edid_check.specs.Block.{byte_at, length_fits, header_fits, sum_fits, Framed, Fits}

-- the first eight bytes
eight : (block : List ℕ) → 8 ≤ length block →
    take 8 block ≡ byte_at block 0 ∷ byte_at block 1 ∷ byte_at block 2 ∷ byte_at block 3 ∷ byte_at block 4 ∷ byte_at block 5 ∷ byte_at block 6 ∷ byte_at block 7 ∷ []
eight [] h = absurd (omega arith)
eight (a ∷ []) h = absurd (omega arith)
eight (a ∷ b ∷ []) h = absurd (omega arith)
eight (a ∷ b ∷ c ∷ []) h = absurd (omega arith)
eight (a ∷ b ∷ c ∷ d ∷ []) h = absurd (omega arith)
eight (a ∷ b ∷ c ∷ d ∷ e ∷ []) h = absurd (omega arith)
eight (a ∷ b ∷ c ∷ d ∷ e ∷ f ∷ []) h = absurd (omega arith)
eight (a ∷ b ∷ c ∷ d ∷ e ∷ f ∷ g ∷ []) h = absurd (omega arith)
eight (a ∷ b ∷ c ∷ d ∷ e ∷ f ∷ g ∷ i ∷ rest) h = refl

module _ (block : List ℕ) where
  is : (i n : ℕ) → eqb (byte_at block i) n ≡ true → byte_at block i ≡ n
  is i n h = eqb-true (byte_at block i) n h

  header_bytes : header_fits block ≡ true → 8 ≤ length block → take 8 block ≡ 0 ∷ 0xff ∷ 0xff ∷ 0xff ∷ 0xff ∷ 0xff ∷ 0xff ∷ 0 ∷ []
  unfolding header_fits
  header_bytes h n =
      let a = both (eqb (byte_at block 0) 0) _ h in
      let b = both (eqb (byte_at block 1) 0xff) _ a.1 in
      let c = both (eqb (byte_at block 2) 0xff) _ b.1 in
      let d = both (eqb (byte_at block 3) 0xff) _ c.1 in
      let e = both (eqb (byte_at block 4) 0xff) _ d.1 in
      let f = both (eqb (byte_at block 5) 0xff) _ e.1 in
      let g = both (eqb (byte_at block 6) 0xff) _ f.1 in
      eight block n
      ∙ rw (
        is 0 0 a.0,
        is 1 0xff b.0,
        is 2 0xff c.0,
        is 3 0xff d.0,
        is 4 0xff e.0,
        is 5 0xff f.0,
        is 6 0xff g.0,
        is 7 0 g.1,
      )

  pub framed : length_fits block ≡ true → header_fits block ≡ true → sum_fits block ≡ true → Framed block
  unfolding sum_fits
  framed size header sum =
      let n : length block ≡ 128 = eqb-true _ _ size in
      record { size = n; header = header_bytes header (omega arith); sum = eqb-true _ _ sum }

  -- and back
  at_place_lem : (l : List ℕ) → take 8 block ≡ l → (i : ℕ) → i < 8 → byte_at block i ≡ get_or l i 0
  at_place_lem l e i h = sym (get_or-take 8 block i 0 h) ∙ ap (λ (k : List ℕ). get_or k i 0) e

  pub framed_fits : Framed block → Fits block
  unfolding header_fits sum_fits
  framed_fits k =
      let at = at_place_lem (0 ∷ 0xff ∷ 0xff ∷ 0xff ∷ 0xff ∷ 0xff ∷ 0xff ∷ 0 ∷ []) k.header in
      record {
        size = eq-eqb _ _ k.size;
        header =
            rw (
              at 0 (omega arith),
              at 1 (omega arith),
              at 2 (omega arith),
              at 3 (omega arith),
              at 4 (omega arith),
              at 5 (omega arith),
              at 6 (omega arith),
              at 7 (omega arith),
            );
        sum = eq-eqb _ _ k.sum;
      }
