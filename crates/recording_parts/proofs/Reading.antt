-- What the reader of blocks has done after some blocks, and one block more.
-- Assumes nothing.
use mathlib.Core.Path.{◌≡◌, refl, sym, ap, ap₂, ◌∙◌}
use mathlib.Core.Bool.{Bool, true, false, true≢false}
use mathlib.Core.List.{List, [], ◌∷◌, ◌++◌, append-nil, append_assoc}
use Prim.Native.Nat.{ℕ, ◌+◌, ◌*◌, ◌-◌, ◌/◌, ◌<◌, ◌≤◌}
use native.Mathlib.Omega.{arith}
use borrow.Author.Tests.{eq-eqb, ne_eqb, lt-ltb, le-ltb, ltb-true, ltb-false, eqb-true, eqb-false}
use lib.Dec.{eqb, ltb}
use lib.ListN.{length, take, drop, get_or, length-append, length-take, length-drop, take-append-drop}
use lib.Seq.{take-take, drop-drop, get_or-take, take_at, drop_at, length-take-le}
use Rattle.bits.specs.Byte.{pick}
use Rattle.recording_blocks.specs.Bytes.{Bytes, words_of}
use Rattle.recording_blocks.specs.Block.{refusal, number_of, count_of, sum_of, all_words, block_words, fault_of, block_read, places_left}
use Rattle.std.specs.Prelude.{Option, Ok, Err, Some}
use Rattle.recording_blocks.specs.declared.BlockFault.{BlockFault}
use Rattle.recording_blocks.specs.declared.BlockFault.TheVariants.{Places}
use Rattle.recording_blocks.proofs.Refusals.{good}
use Rattle.recording_blocks.proofs.Round.{count_words, number_small, dropped_bytes}
use Rattle.recording_parts.specs.Recording.{blocks_of, read_words, read_number, read_next, fault_at}
use Rattle.recording_parts.specs.declared.BlocksRead.{BlocksRead}
use Rattle.recording_parts.proofs.Pieces.{blocks_cons, blocks_nil}

-- ---- a block is read from the first 512 bytes

shorter : (b : List ℕ) (t : Bool) → ltb (length b) 512 ≡ t → ltb (length (take 512 b)) 512 ≡ t
shorter b true h = lt-ltb (length (take 512 b)) 512 (omega (arith, ltb-true (length b) 512 h, length-take 512 b))
shorter b false h = le-ltb (length (take 512 b)) 512 (omega (arith, ltb-false (length b) 512 h, length-take 512 b))

behind_four : (b : List ℕ) → drop 4 (take 512 b) ≡ take 508 (drop 4 b)
behind_four [] = refl
behind_four (x ∷ []) = refl
behind_four (x ∷ y ∷ []) = refl
behind_four (x ∷ y ∷ z ∷ []) = refl
behind_four (x ∷ y ∷ z ∷ w ∷ rest) = refl

module _ (b : List ℕ) where
  at_first : (i : ℕ) → i < 512 → get_or (take 512 b) i 0 ≡ get_or b i 0
  at_first i h = get_or-take 512 b i 0 h

  count_first : count_of (take 512 b) ≡ count_of b
  unfolding count_of
  count_first = rw (at_first 2 (omega arith), at_first 3 (omega arith))

  all_first : all_words (take 512 b) ≡ all_words b
  unfolding all_words
  all_first = ap (λ (t : List ℕ). words_of (take 504 t)) (behind_four b) ∙ ap words_of (take-take 504 508 (drop 4 b) (omega arith))

  number_first : number_of (take 512 b) ≡ number_of b
  unfolding number_of
  number_first = rw (at_first 0 (omega arith), at_first 1 (omega arith))

  sum_first : sum_of (take 512 b) ≡ sum_of b
  unfolding sum_of
  sum_first = rw (at_first 508 (omega arith), at_first 509 (omega arith), at_first 510 (omega arith), at_first 511 (omega arith))

  pub words_first : block_words (take 512 b) ≡ block_words b
  words_first = ap₂ take count_first all_first

  pub refusal_first : (due : ℕ) → refusal due (take 512 b) ≡ refusal due b
  unfolding refusal
  refusal_first due =
      rw (shorter b (ltb (length b) 512) refl, sum_first, number_first, count_first, all_first, take-take 508 512 b (omega arith))

  read_first : (due : ℕ) (places : List ℕ) → block_read due (take 512 b) places ≡ block_read due b places
  unfolding block_read
  read_first due places = rw (refusal_first due, count_first) refl

  left_first : (due : ℕ) (places : List ℕ) → places_left due (take 512 b) places ≡ places_left due b places
  unfolding places_left
  left_first due places = rw (refusal_first due, count_first, all_first) refl

-- ---- reading a list, by its first block

module _ (due : ℕ) (bytes : List ℕ) (h : 0 < length bytes) where
  pub good_first : refusal due bytes ≡ 0
      → (read_words due (blocks_of bytes) ≡ block_words bytes ++ read_words (due + 1) (blocks_of (drop 512 bytes)))
      × (read_number due (blocks_of bytes) ≡ read_number (due + 1) (blocks_of (drop 512 bytes)))
      × (read_next due (blocks_of bytes) ≡ read_next (due + 1) (blocks_of (drop 512 bytes)))
  unfolding read_words read_number read_next
  good_first e =
      let t : eqb (refusal due (take 512 bytes)) 0 ≡ true = eq-eqb _ _ (refusal_first bytes due ∙ e) in
      rw (blocks_cons bytes h, t, words_first bytes) (refl, refl, refl)

  pub bad_first : (refusal due bytes ≡ 0 → ⊥)
      → (read_words due (blocks_of bytes) ≡ []) × (read_number due (blocks_of bytes) ≡ refusal due bytes) × (read_next due (blocks_of bytes) ≡ due)
  unfolding read_words read_number read_next
  bad_first e =
      let t : eqb (refusal due (take 512 bytes)) 0 ≡ false = ne_eqb _ _ (λ k. e (sym (refusal_first bytes due) ∙ k)) in
      rw (blocks_cons bytes h, t) (refl, refusal_first bytes due, refl)

-- ---- what the reader of a block gave

words_case : (t s : Bool) (k n : ℕ) (f : BlockFault) → pick t (pick s (Err Places) (Ok k)) (Err f) ≡ Ok n → (t ≡ true) × (s ≡ false) × (k ≡ n)
words_case true true k n f e = cc
words_case true false k n f e = (refl, refl, cc)
words_case false s k n f e = cc

fault_case : (t s : Bool) (k : ℕ) (f g : BlockFault) → (t ≡ true → s ≡ false) → pick t (pick s (Err Places) (Ok k)) (Err f) ≡ Err g → (t ≡ false) × (f ≡ g)
fault_case true true k f g h e = absurd (true≢false (h refl))
fault_case true false k f g h e = cc
fault_case false s k f g h e = (refl, cc)

module _ (due : ℕ) (b places : List ℕ) where
  pub gave_words : (n : ℕ) → block_read due b places ≡ Ok n → (refusal due b ≡ 0) × (count_of b ≡ n) × (places_left due b places ≡ block_words b ++ drop (count_of b) places)
  unfolding block_read places_left
  gave_words n e =
      let t = words_case (eqb (refusal due b) 0) (ltb (length places) (count_of b)) (count_of b) n (fault_of (refusal due b)) e in
      (eqb-true _ _ t.0, t.2, rw (t.0, t.1))

  pub gave_fault : (f : BlockFault) → (refusal due b ≡ 0 → 126 ≤ length places) → block_read due b places ≡ Err f
      → (refusal due b ≡ 0 → ⊥) × (fault_of (refusal due b) ≡ f) × (places_left due b places ≡ places)
  unfolding block_read places_left
  gave_fault f h e =
      let room : eqb (refusal due b) 0 ≡ true → ltb (length places) (count_of b) ≡ false =
      λ k. (let z : refusal due b ≡ 0 = eqb-true _ _ k in le-ltb (length places) (count_of b) (omega (arith, h z, (good due b z).counted))) in
      let t = fault_case (eqb (refusal due b) 0) (ltb (length places) (count_of b)) (count_of b) (fault_of (refusal due b)) f room e in
      (eqb-false _ _ t.0, t.1, rw t.0)

-- ---- the blocks up to the byte with index at are read: count words stand in the places, which held old, and next is due

pub record Reading (due : ℕ) (bytes old now : List ℕ) (next count at : ℕ) : Type 0 where
  pub same : length now ≡ length old
  pub inside : at ≤ length bytes
  pub room : 126 * ((length bytes - at) / 512) + count ≤ length old
  pub words : take count now ++ read_words next (blocks_of (drop at bytes)) ≡ read_words due (blocks_of bytes)
  pub number : read_number next (blocks_of (drop at bytes)) ≡ read_number due (blocks_of bytes)
  pub after : read_next next (blocks_of (drop at bytes)) ≡ read_next due (blocks_of bytes)
  pub rest : drop count now ≡ drop count old

-- what one good block more shows
pub record More (due : ℕ) (bytes old new : List ℕ) (next count at n : ℕ) : Type 0 where
  pub fits : at + 512 ≤ length bytes
  pub small : next < 65536
  pub counted : count + n ≤ length old
  pub reading : Reading due bytes old new (next + 1) (count + n) (at + 512)

-- what the reader gives at its end
abbrev pub result : ℕ → ℕ → ℕ → BlocksRead
result count next number = record { count = count; next = next; fault = fault_at number }

abbrev fault_told : ℕ → ℕ → Option BlockFault → BlocksRead
fault_told count next fault = record { count = count; next = next; fault = fault }

pub record Ended (due : ℕ) (bytes old now : List ℕ) (next count number : ℕ) : Type 0 where
  pub same : length now ≡ length old
  pub gives : result count next number ≡ result (length (read_words due (blocks_of bytes))) (read_next due (blocks_of bytes)) (read_number due (blocks_of bytes))
  pub leaves : now ≡ read_words due (blocks_of bytes) ++ drop (length (read_words due (blocks_of bytes))) old

module _ (due : ℕ) (bytes old now : List ℕ) (next count at : ℕ) (d : Reading due bytes old now next count at) where
  count_within : count ≤ length now
  count_within = omega (arith, d.same, d.room)

  -- no block is left to read, or the next one is bad
  ended : (number : ℕ) → read_words next (blocks_of (drop at bytes)) ≡ [] → read_number next (blocks_of (drop at bytes)) ≡ number
      → read_next next (blocks_of (drop at bytes)) ≡ next → Ended due bytes old now next count number
  ended number p q r =
      let all : read_words due (blocks_of bytes) ≡ take count now = sym d.words ∙ ap (λ (t : List ℕ). take count now ++ t) p ∙ append-nil (take count now) in
      let size : length (read_words due (blocks_of bytes)) ≡ count = ap length all ∙ length-take-le count now count_within in
      record {
        same = d.same;
        gives = rw (size, ← d.after, r, ← d.number, q);
        leaves = sym (take-append-drop count now) ∙ ap₂ (λ (x y : List ℕ). x ++ y) (sym all) (d.rest ∙ ap (λ (m : ℕ). drop m old) (sym size));
      }

  pub finished : length bytes ≤ at → Ended due bytes old now next count 0
  unfolding read_words read_number read_next
  finished h =
      let none : blocks_of (drop at bytes) ≡ [] = blocks_nil (drop at bytes) (length-drop at bytes ∙ omega arith) in
      ended 0 (rw none) (rw none) (rw none)

  module _ (h : at < length bytes) (block places : List ℕ) (p : block ≡ take 512 (drop at bytes)) (q : places ≡ drop count now)
      (left new : List ℕ) (u : left ≡ places_left next block places) (v : new ≡ take count now ++ left) where
    some : 0 < length (drop at bytes)
    some = omega (arith, length-drop at bytes)

    given : block_read next (drop at bytes) (drop count now) ≡ block_read next block places
    given = sym (read_first (drop at bytes) next (drop count now)) ∙ ap₂ (block_read next) (sym p) (sym q)

    kept : left ≡ places_left next (drop at bytes) (drop count now)
    kept = u ∙ ap₂ (places_left next) p q ∙ left_first (drop at bytes) next (drop count now)

    -- the next block is bad
    pub refused : (f : BlockFault) → Err f ≡ block_read next block places
        → (length new ≡ length old) × ((record { count = count; next = next; fault = Some f }
        ≡ result (length (read_words due (blocks_of bytes))) (read_next due (blocks_of bytes)) (read_number due (blocks_of bytes)))
        × (new ≡ read_words due (blocks_of bytes) ++ drop (length (read_words due (blocks_of bytes))) old))
    refused f e =
        let enough : refusal next (drop at bytes) ≡ 0 → 126 ≤ length (drop count now) =
        λ z. omega (arith, (good next (drop at bytes) z).full, length-drop at bytes, length-drop count now, d.room, d.same) in
        let t = gave_fault next (drop at bytes) (drop count now) f enough (given ∙ sym e) in
        let same : new ≡ now = v ∙ ap (λ (l : List ℕ). take count now ++ l) (kept ∙ t.2) ∙ take-append-drop count now in
        let b = bad_first next (drop at bytes) some t.0 in
        let done = ended (refusal next (drop at bytes)) b.0 b.1 b.2 in
        let told : fault_at (refusal next (drop at bytes)) ≡ Some f = rw (ne_eqb _ 0 t.0) (ap Some t.1) in
        (ap length same ∙ done.same, (ap (fault_told count next) (sym told) ∙ done.gives, same ∙ done.leaves))

    -- the next block is good
    pub more : Bytes bytes → (n : ℕ) → Ok n ≡ block_read next block places → More due bytes old new next count at n
    more k n e =
        let t = gave_words next (drop at bytes) (drop count now) n (given ∙ sym e) in
        let g = good next (drop at bytes) t.0 in
        let b = block_words (drop at bytes) in
        let size : length b ≡ n = count_words next (drop at bytes) (dropped_bytes at bytes k) t.0 ∙ t.1 in
        let fits : at + 512 ≤ length bytes = omega (arith, g.full, length-drop at bytes) in
        let places-left : count + n ≤ length old = omega (arith, d.room, g.counted, t.1) in
        let front : length (take count now ++ b) ≡ count + n =
        length-append (take count now) b ∙ omega (arith, length-take-le count now count_within, size) in
        let z : new ≡ (take count now ++ b) ++ drop n (drop count now) =
        v
        ∙ ap (λ (l : List ℕ). take count now ++ l) (kept ∙ t.2 ∙ ap (λ (m : ℕ). b ++ drop m (drop count now)) t.1)
        ∙ sym (append_assoc (take count now) b (drop n (drop count now))) in
        let onward : drop 512 (drop at bytes) ≡ drop (at + 512) bytes = drop-drop 512 at bytes in
        let first = good_first next (drop at bytes) some t.0 in
        record {
          fits = fits;
          small = number_small next (drop at bytes) (dropped_bytes at bytes k) t.0;
          counted = places-left;
          reading = record {
            same = ap length z ∙ length-append (take count now ++ b) (drop n (drop count now))
                ∙ omega (arith, front, length-drop n (drop count now), length-drop count now, d.same);
            inside = fits;
            room = omega (arith, d.room, g.counted, t.1);
            words =
                ap (λ (l : List ℕ). l ++ read_words (next + 1) (blocks_of (drop (at + 512) bytes))) (ap (take (count + n)) z ∙ take_at (take count now ++ b) (drop n (drop count now)) (count + n) front)
                ∙ append_assoc (take count now) b (read_words (next + 1) (blocks_of (drop (at + 512) bytes)))
                ∙ ap (λ (xs : List ℕ). take count now ++ (b ++ read_words (next + 1) (blocks_of xs))) (sym onward)
                ∙ ap (λ (l : List ℕ). take count now ++ l) (sym first.0)
                ∙ d.words;
            number = ap (λ (xs : List ℕ). read_number (next + 1) (blocks_of xs)) (sym onward) ∙ sym first.1 ∙ d.number;
            after = ap (λ (xs : List ℕ). read_next (next + 1) (blocks_of xs)) (sym onward) ∙ sym first.2 ∙ d.after;
            rest =
                ap (drop (count + n)) z
                ∙ drop_at (take count now ++ b) (drop n (drop count now)) (count + n) front
                ∙ ap (drop n) d.rest
                ∙ drop-drop n count old;
          };
        }
