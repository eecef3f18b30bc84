-- Words written one by one, and what a writing leaves as it was.
-- Assumes nothing.
use mathlib.Core.Bool.{Bool, true, false}
use mathlib.Core.Path.{◌≡◌, refl, ◌∙◌}
use mathlib.Core.List.{List, [], ◌∷◌}
use Prim.Native.Nat.{ℕ, zero, suc, ◌+◌, ◌-◌, ◌/◌, ◌%◌, ◌<◌, ◌≤◌}
use native.Mathlib.Omega.{arith}
use lib.ListN.{length, drop, set, replicate, length-set}
use lib.Seq.{drop-set-lt}
use lib.Dec.{ltb, eqb}
use borrow.Author.Tests.{lt-ltb, le-ltb, eq-eqb, ne_eqb}
use Rattle.bits.specs.Byte.{pick}
use Rattle.vcd_output.specs.Room.{Written, wrote, put, pin_word, pin_words, clock_word}

-- ---- clocks

module _ (due done count : ℕ) (room : List ℕ) where
  pub clock_more : done < due → count < length room
      → put (replicate (due - (done + 1)) clock_word) (set room count clock_word) (count + 1) (done + 1) ≡ put (replicate (due - done) clock_word) room count done
  unfolding put
  clock_more h k = let z : due - done ≡ suc (due - (done + 1)) = omega arith in rw z (simp (lt-ltb _ _ k))

  pub clock_full : done < due → length room ≤ count
      → wrote room (record { count = count; done = done; full = true }) ≡ put (replicate (due - done) clock_word) room count done
  unfolding put
  clock_full h k = let z : due - done ≡ suc (due - (done + 1)) = omega arith in rw z (simp (le-ltb _ _ k))

  pub clock_end : due ≤ done → wrote room (record { count = count; done = 0; full = false }) ≡ put (replicate (due - done) clock_word) room count done
  unfolding put
  clock_end h = let z : due - done ≡ 0 = omega arith in rw z refl

-- ---- pins

module _ (list : ℕ) (high : Bool) (done count : ℕ) (room : List ℕ) where
  pub pin_more : done < 4 → (list % 256 ≡ 0 → ⊥) → count < length room
      → put (pin_words (4 - (done + 1)) (list / 256) high) (set room count (pin_word high (list % 256))) (count + 1) (done + 1) ≡ put (pin_words (4 - done) list high) room count done
  unfolding put pin_words
  pin_more h e k = let z : 4 - done ≡ suc (4 - (done + 1)) = omega arith in rw z (simp (ne_eqb _ _ e, lt-ltb _ _ k))

  pub pin_full : done < 4 → (list % 256 ≡ 0 → ⊥) → length room ≤ count
      → wrote room (record { count = count; done = done; full = true }) ≡ put (pin_words (4 - done) list high) room count done
  unfolding put pin_words
  pin_full h e k = let z : 4 - done ≡ suc (4 - (done + 1)) = omega arith in rw z (simp (ne_eqb _ _ e, le-ltb _ _ k))

  pub pin_none : done < 4 → list % 256 ≡ 0 → wrote room (record { count = count; done = 0; full = false }) ≡ put (pin_words (4 - done) list high) room count done
  unfolding put pin_words
  pin_none h e = let z : 4 - done ≡ suc (4 - (done + 1)) = omega arith in rw z (simp (eq-eqb _ _ e))

  pub pin_end : 4 ≤ done → wrote room (record { count = count; done = 0; full = false }) ≡ put (pin_words (4 - done) list high) room count done
  unfolding put pin_words
  pin_end h = let z : 4 - done ≡ 0 = omega arith in rw z refl

no_pins : (n : ℕ) (high : Bool) → pin_words n 0 high ≡ []
unfolding pin_words
no_pins zero high = refl
no_pins (suc n) high = refl

-- a pin that is passed over
module _ (list : ℕ) (high : Bool) (i done : ℕ) where
  pub pass_more : i < done → i < 4 → (list % 256 ≡ 0 → ⊥)
      → drop (done - (i + 1)) (pin_words (4 - (i + 1)) (list / 256) high) ≡ drop (done - i) (pin_words (4 - i) list high)
  unfolding pin_words
  pass_more h k e =
      let z : 4 - i ≡ suc (4 - (i + 1)) = omega arith in
      let y : done - i ≡ suc (done - (i + 1)) = omega arith in
      rw (z, y) (simp (ne_eqb _ _ e))

  pub pass_none : i < done → i < 4 → list % 256 ≡ 0 → pin_words (4 - done) 0 high ≡ drop (done - i) (pin_words (4 - i) list high)
  unfolding pin_words
  pass_none h k e =
      let z : 4 - i ≡ suc (4 - (i + 1)) = omega arith in
      let y : done - i ≡ suc (done - (i + 1)) = omega arith in
      rw (z, y) (simp (eq-eqb _ _ e) (no_pins (4 - done) high))

  pub pass_end : done ≤ i → i ≤ done → pin_words (4 - done) list high ≡ drop (done - i) (pin_words (4 - i) list high)
  pass_end h k = let z : done - i ≡ 0 = omega arith in let y : i ≡ done = omega arith in rw (z, y) refl

-- a list has no more than four pins
few : (n list : ℕ) (high : Bool) (done : ℕ) → n ≤ done → drop done (pin_words n list high) ≡ []
unfolding pin_words
few zero list high zero h = refl
few zero list high (suc d) h = refl
few (suc n) list high zero h = absurd (omega arith)
few (suc n) list high (suc d) h = few_step n list high d (eqb (list % 256) 0) (few n (list / 256) high d (omega arith))
  where
    few_step : (n list : ℕ) (high : Bool) (d : ℕ) (t : Bool) → drop d (pin_words n (list / 256) high) ≡ []
        → drop (suc d) (pick t [] (pin_word high (list % 256) ∷ pin_words n (list / 256) high)) ≡ []
    few_step n list high d true h = refl
    few_step n list high d false h = h

pub none_left : (list : ℕ) (high : Bool) (done count : ℕ) (room : List ℕ) → 4 < done
    → wrote room (record { count = count; done = 0; full = false }) ≡ put (drop done (pin_words 4 list high)) room count done
unfolding put
none_left list high done count room h = rw (few 4 list high done (omega arith)) refl

-- ---- what a writing leaves as it was

-- the places past the words, and the number of places
pub record Kept (room : List ℕ) (count : ℕ) (w : Written) : Type 0 where
  pub grows : count ≤ w.told.count
  pub past : drop w.told.count w.room ≡ drop w.told.count room
  pub size : length w.room ≡ length room

kept_step : (v : ℕ) (rest room : List ℕ) (count done : ℕ) (t : Bool) → Kept (set room count v) (count + 1) (put rest (set room count v) (count + 1) (done + 1))
    → Kept room count (pick t (put rest (set room count v) (count + 1) (done + 1)) (wrote room (record { count = count; done = done; full = true })))
kept_step v rest room count done true k = record {
  grows = omega arith;
  past = k.past ∙ drop-set-lt (put rest (set room count v) (count + 1) (done + 1)).told.count room count v (omega (arith, k.grows));
  size = k.size ∙ length-set room count v;
}
kept_step v rest room count done false k = record { grows = omega arith; past = refl; size = refl }

pub kept : (words room : List ℕ) (count done : ℕ) → Kept room count (put words room count done)
unfolding put
kept [] room count done = record { grows = omega arith; past = refl; size = refl }
kept (v ∷ rest) room count done = kept_step v rest room count done (ltb count (length room)) (kept rest (set room count v) (count + 1) (done + 1))
