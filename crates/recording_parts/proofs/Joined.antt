-- Recordings in parts: the words of all good blocks joined, and where a bad block ends them.
-- Assumes nothing.
use mathlib.Core.Path.{◌≡◌, refl, sym, ap, ap₂, ◌∙◌}
use mathlib.Core.Bool.{true, false}
use mathlib.Core.List.{List, [], ◌∷◌, ◌++◌, map, append_assoc, append-nil}
use Prim.Native.Nat.{ℕ, zero, suc, ◌+◌, ◌*◌, ◌≤◌}
use native.Mathlib.Omega.{arith}
use borrow.Author.Tests.{eq-eqb, ne_eqb}
use lib.Dec.{eqb, eqb-suc-zero}
use lib.ListN.{length, drop, length-append, length-drop}
use lib.Seq.{take-append-le, drop-append-le}
use Rattle.bits.specs.Byte.{pick}
use Rattle.recording_blocks.specs.Block.{block_words, refusal}
use Rattle.recording_blocks.proofs.Refusals.{refusal_range}
use Rattle.recording_parts.specs.Recording.{blocks_of, joined, read_words, read_number, read_next}
use Rattle.recording_parts.proofs.Pieces.{blocks_cons, blocks_nil}
use Rattle.recording_parts.proofs.Round.{accepted_first}

-- ---- accepted blocks: all their words joined, and the numbers stepped by one

pub accepted_words : (due : ℕ) (bs : List (List ℕ)) → read_number due bs ≡ 0 → read_words due bs ≡ joined (map block_words bs)
unfolding read_words joined
accepted_words due [] e = refl
accepted_words due (b ∷ bs) e =
    let first = accepted_first due b bs e in
    rw (eq-eqb _ _ first.0) (ap (λ (t : List ℕ). block_words b ++ t) (accepted_words (due + 1) bs first.1))

pub accepted_next : (due : ℕ) (bs : List (List ℕ)) → read_number due bs ≡ 0 → read_next due bs ≡ due + length bs
unfolding read_next
accepted_next due [] e = omega arith
accepted_next due (b ∷ bs) e =
    let first = accepted_first due b bs e in
    rw (eq-eqb _ _ first.0) (accepted_next (due + 1) bs first.1 ∙ omega arith)

-- ---- blocks in two lists: the first accepted, or not

pub record Onward (due : ℕ) (cs bs : List (List ℕ)) : Type 0 where
  pub words : read_words due (cs ++ bs) ≡ read_words due cs ++ read_words (read_next due cs) bs
  pub number : read_number due (cs ++ bs) ≡ read_number (read_next due cs) bs
  pub next : read_next due (cs ++ bs) ≡ read_next (read_next due cs) bs

pub onward : (due : ℕ) (cs bs : List (List ℕ)) → read_number due cs ≡ 0 → Onward due cs bs
unfolding read_words read_number read_next
onward due [] bs e = record { words = refl; number = refl; next = refl }
onward due (b ∷ cs) bs e =
    let first = accepted_first due b cs e in
    let rest = onward (due + 1) cs bs first.1 in
    record {
      words = rw (eq-eqb _ _ first.0) (ap (λ (t : List ℕ). block_words b ++ t) rest.words ∙ sym (append_assoc (block_words b) (read_words (due + 1) cs) (read_words (read_next (due + 1) cs) bs)));
      number = rw (eq-eqb _ _ first.0) rest.number;
      next = rw (eq-eqb _ _ first.0) rest.next;
    }

pub record Stopped (due : ℕ) (cs bs : List (List ℕ)) : Type 0 where
  pub words : read_words due (cs ++ bs) ≡ read_words due cs
  pub number : read_number due (cs ++ bs) ≡ read_number due cs
  pub next : read_next due (cs ++ bs) ≡ read_next due cs

stopped_by : (due n : ℕ) (b : List ℕ) (cs bs : List (List ℕ)) → refusal due b ≡ n → (read_number due (b ∷ cs) ≡ 0 → ⊥)
    → ((read_number (due + 1) cs ≡ 0 → ⊥) → Stopped (due + 1) cs bs) → Stopped due (b ∷ cs) bs
unfolding read_words read_number read_next
stopped_by due zero b cs bs p h rest =
    let t : eqb (refusal due b) 0 ≡ true = eq-eqb _ _ p in
    let later = rest (λ z. h (rw t z)) in
    record { words = rw t (ap (λ (l : List ℕ). block_words b ++ l) later.words); number = rw t later.number; next = rw t later.next }
stopped_by due (suc n) b cs bs p h rest =
    let t : eqb (refusal due b) 0 ≡ false = rw p (eqb-suc-zero n) in
    record { words = rw t; number = rw t; next = rw t }

pub stopped : (due : ℕ) (cs bs : List (List ℕ)) → (read_number due cs ≡ 0 → ⊥) → Stopped due cs bs
unfolding read_number
stopped due [] bs h = absurd (h refl)
stopped due (b ∷ cs) bs h = stopped_by due (refusal due b) b cs bs refl h (stopped (due + 1) cs bs)

-- a bad block behind good ones: their words, and its number; nothing behind it is looked at
pub bad_block : (due : ℕ) (cs : List (List ℕ)) (b : List ℕ) (rest : List (List ℕ)) → read_number due cs ≡ 0 → (refusal (due + length cs) b ≡ 0 → ⊥)
    → (read_words due (cs ++ (b ∷ rest)) ≡ joined (map block_words cs)) × (read_number due (cs ++ (b ∷ rest)) ≡ refusal (due + length cs) b)
unfolding read_words read_number
bad_block due cs b rest e h =
    let next = accepted_next due cs e in
    let t : eqb (refusal (read_next due cs) b) 0 ≡ false = rw next (ne_eqb _ _ h) in
    let both = onward due cs (b ∷ rest) e in (
      both.words ∙ ap₂ (λ (x y : List ℕ). x ++ y) (accepted_words due cs e) (rw t) ∙ append-nil (joined (map block_words cs)),
      both.number ∙ rw t (ap (λ (n : ℕ). refusal n b) next),
    )

-- the number of a bad block is one of five
by_refusal : (n m : ℕ) → ((n ≡ 0 → ⊥) → (10 ≤ n) × (n ≤ 14)) → ((m ≡ 0 → ⊥) → (10 ≤ m) × (m ≤ 14)) → (pick (eqb n 0) m n ≡ 0 → ⊥)
    → (10 ≤ pick (eqb n 0) m n) × (pick (eqb n 0) m n ≤ 14)
by_refusal zero m f g h = g h
by_refusal (suc n) m f g h =
    let r = f (λ e. omega arith) in
    rw (eqb-suc-zero n) r

pub bad_number : (due : ℕ) (bs : List (List ℕ)) → (read_number due bs ≡ 0 → ⊥) → (10 ≤ read_number due bs) × (read_number due bs ≤ 14)
unfolding read_number
bad_number due [] h = absurd (h refl)
bad_number due (b ∷ bs) h = by_refusal (refusal due b) (read_number (due + 1) bs) (refusal_range due b) (bad_number (due + 1) bs) h

-- ---- bytes in two parts, the first of whole blocks

pub blocks_append : (n : ℕ) (xs ys : List ℕ) → length xs ≡ 512 * n → blocks_of (xs ++ ys) ≡ blocks_of xs ++ blocks_of ys
blocks_append zero [] ys h = rw (blocks_nil [] refl)
blocks_append zero (x ∷ xs) ys h = absurd (omega arith)
blocks_append (suc n) xs ys h =
    blocks_cons (xs ++ ys) (omega (arith, length-append xs ys))
    ∙ ap₂ (λ (x : List ℕ) (r : List (List ℕ)). x ∷ r) (take-append-le 512 xs ys (omega arith))
    (ap blocks_of (drop-append-le 512 xs ys (omega arith)) ∙ blocks_append n (drop 512 xs) ys (length-drop 512 xs ∙ omega arith))
    ∙ ap (λ (t : List (List ℕ)). t ++ blocks_of ys) (sym (blocks_cons xs (omega arith)))
