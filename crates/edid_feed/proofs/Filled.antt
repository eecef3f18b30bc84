-- A list written into places, one element after the other.
-- Assumes nothing.
use mathlib.Core.Path.{◌≡◌, refl, sym, ap, ◌∙◌}
use mathlib.Core.List.{List, ◌∷◌, ◌++◌}
use Prim.Native.Nat.{ℕ, suc, ◌+◌, ◌<◌, ◌≤◌}
use native.Mathlib.Omega.{arith}
use native.Mathlib.Numerals.{add-one}
use lib.ListN.{length, get_or, take, drop, set, length-append, length-drop}
use borrow.Author.Tests.{lt-ltb, le-ltb}
use mathlib.Core.Bool.{Bool, true, false}
use lib.Dec.{ltb}
use Rattle.bits.specs.Byte.{pick}
use Rattle.edid_feed.specs.Words.{placed_count, placed}
use lib.Seq.{length-take-le, take-length, take-suc, drop-cons, append_snoc, set_at}

-- of the list i elements stand in the places, which held old; the rest is as it was
pub record Filled (list old now : List ℕ) (i : ℕ) : Type 0 where
  pub within : i ≤ length list
  pub room : length list ≤ length old
  pub filled : now ≡ take i list ++ drop i old

module _ (list old now : List ℕ) (i : ℕ) (d : Filled list old now i) where
  pub kept : length now ≡ length old
  kept =
      ap length d.filled ∙ length-append (take i list) (drop i old)
      ∙ omega (arith, d.within, d.room, length-take-le i list d.within, length-drop i old)

  pub more : i < length list → (v : ℕ) → v ≡ get_or list i 0 → Filled list old (set now i v) (i + 1)
  more h v e =
      let before : now ≡ take i list ++ get_or old i 0 ∷ drop (suc i) old =
      d.filled ∙ ap (λ (l : List ℕ). take i list ++ l) (drop-cons old i 0 (omega (arith, d.room))) in
      let stored : set now i v ≡ take i list ++ v ∷ drop (suc i) old =
      ap (λ (l : List ℕ). set l i v) before ∙ set_at (take i list) (get_or old i 0) (drop (suc i) old) v i (length-take-le i list d.within) in
      let after : take (suc i) list ++ drop (suc i) old ≡ take i list ++ get_or list i 0 ∷ drop (suc i) old =
      ap (λ (l : List ℕ). l ++ drop (suc i) old) (take-suc list i 0 h) ∙ append_snoc (take i list) (get_or list i 0) (drop (suc i) old) in
      record {
        within = omega arith;
        room = d.room;
        filled = stored ∙ rw (add-one, e) (sym after);
      }

  pub all : length list ≤ i → now ≡ list ++ drop (length list) old
  all h =
      let e : i ≡ length list = omega (arith, d.within) in
      d.filled ∙ rw (e, take-length)

-- the places in the end: nothing written, or the whole list
module _ (list places : List ℕ) where
  pub placed_short : length places < length list → (0 ≡ placed_count list places) × (places ≡ placed list places)
  unfolding placed_count placed
  placed_short h = simp (lt-ltb _ _ h) (refl, refl)

  pub placed_whole : length list ≤ length places → (n : ℕ) → n ≡ length list → (now : List ℕ) → now ≡ list ++ drop (length list) places
      → (n ≡ placed_count list places) × (now ≡ placed list places)
  unfolding placed_count placed
  placed_whole h n e now f = simp (le-ltb _ _ h) (e, f)

  pub placed_length : length list ≤ length places → (now : List ℕ) → now ≡ list ++ drop (length list) places → length now ≡ length places
  placed_length h now f = ap length f ∙ length-append list (drop (length list) places) ∙ omega (arith, length-drop (length list) places)

-- what is written is within its places
within_by : (list places : List ℕ) (short : Bool) → pick short 0 (length list) ≤ length (pick short places (list ++ drop (length list) places))
within_by list places true = omega arith
within_by list places false = omega (arith, length-append list (drop (length list) places))

pub placed_within : (list places : List ℕ) (n : ℕ) (now : List ℕ) → n ≡ placed_count list places → now ≡ placed list places → n ≤ length now
unfolding placed_count placed
placed_within list places n now e f = rw (e, f) (within_by list places (ltb (length places) (length list)))
