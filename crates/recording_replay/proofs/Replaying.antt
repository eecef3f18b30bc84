-- The replay of blocks: its refusals, its result and its text.
-- Assumes nothing.
use mathlib.Core.Path.{◌≡◌, refl, sym, ap, ap₂, ◌∙◌}
use mathlib.Core.Bool.{Bool, true, false}
use mathlib.Core.List.{List, [], ◌∷◌, ◌++◌, append-nil, append_assoc}
use Prim.Native.Nat.{ℕ, zero, suc, ◌+◌, ◌*◌, ◌/◌, ◌<◌, ◌≤◌}
use native.Mathlib.Omega.{arith}
use borrow.Author.Tests.{eq-eqb, ne_eqb, lt-ltb, le-ltb, eqb-true}
use lib.Dec.{eqb}
use lib.ListN.{length, take, drop, length-append, length-take, length-drop}
use lib.Seq.{take_at, drop_at, drop-drop}
use Rattle.bits.specs.Byte.{pick}
use Rattle.hex_digits.specs.Hex.{hex_line}
use Rattle.answers.specs.Answer.{answer_word}
use Rattle.chip.specs.declared.Chip.{Chip}
use Rattle.chip_well_formed.specs.WellFormed.{well_formed}
use Rattle.list_call.specs.Run.{advanced, advanced_answers}
use Rattle.list_call.proofs.Runs.{length_advanced_answers}
use Rattle.recording_blocks.specs.Block.{refusal, count_of, all_words, block_words}
use Rattle.recording_blocks.proofs.Refusals.{good}
use Rattle.recording_parts.specs.Recording.{cut, blocks_of, read_words, read_number, read_next, fault_at, number_at, blocks_read, words_left}
use Rattle.recording_parts.specs.declared.BlocksRead.{BlocksRead}
use Rattle.recording_replay.specs.Replay.{words_from, number_from, last_answer, block_answers, hex_lines, block_text, refused_replay, replayed, text_left}
use Rattle.hex_digits.proofs.Line.{length_lines, lines_append}
use Rattle.recording_parts.proofs.Faults.{read_back}

-- ---- the last answer

pub no_last : (number : ℕ) → number ≡ 0 → last_answer number ≡ []
unfolding last_answer
no_last number e = rw (eq-eqb _ _ e)

pub one_last : (number : ℕ) → (number ≡ 0 → ⊥) → last_answer number ≡ answer_word number false 0 0 ∷ []
unfolding last_answer
one_last number e = rw (ne_eqb _ _ e)

-- ---- the text of answers and a number

module _ (xs old now : List ℕ) (number : ℕ) (e : now ≡ hex_lines xs ++ drop (9 * length xs) old) where
  pub text_plain : number ≡ 0 → now ≡ hex_lines (xs ++ last_answer number) ++ drop (length (hex_lines (xs ++ last_answer number))) old
  text_plain h =
      let same : xs ++ last_answer number ≡ xs = ap (λ (t : List ℕ). xs ++ t) (no_last number h) ∙ append-nil xs in
      e ∙ ap (λ (k : ℕ). hex_lines xs ++ drop k old) (sym (length_lines xs)) ∙ ap (λ (t : List ℕ). hex_lines t ++ drop (length (hex_lines t)) old) (sym same)

  pub lines_kept : 9 * length xs ≤ length old → length now ≡ length old
  lines_kept h =
      ap length e ∙ length-append (hex_lines xs) (drop (9 * length xs) old) ∙ omega (arith, length_lines xs, length-drop (9 * length xs) old)

  pub text_ended : (number ≡ 0 → ⊥) → 9 * length xs + 9 ≤ length now → (a : ℕ) → a ≡ answer_word number false 0 0 → (new : List ℕ)
      → new ≡ take (9 * length xs) now ++ (hex_line a ++ drop (9 * length xs + 9) now)
      → new ≡ hex_lines (xs ++ last_answer number) ++ drop (length (hex_lines (xs ++ last_answer number))) old
  unfolding hex_lines
  text_ended h room a p new z =
      let at = 9 * length xs in
      let lines : hex_lines (xs ++ last_answer number) ≡ hex_lines xs ++ hex_line a =
      ap (λ (t : List ℕ). hex_lines (xs ++ t)) (one_last number h ∙ ap (λ (n : ℕ). n ∷ []) (sym p))
      ∙ lines_append xs (a ∷ [])
      ∙ ap (λ (t : List ℕ). hex_lines xs ++ t) (append-nil (hex_line a)) in
      let size : length (hex_lines (xs ++ last_answer number)) ≡ at + 9 =
      length_lines (xs ++ last_answer number)
      ∙ omega (arith, length-append xs (last_answer number), ap length (one_last number h)) in
      let front : take at now ≡ hex_lines xs = ap (take at) e ∙ take_at (hex_lines xs) (drop at old) at (length_lines xs) in
      let back : drop (at + 9) now ≡ drop (at + 9) old =
      sym (drop-drop 9 at now) ∙ ap (λ (t : List ℕ). drop 9 (drop at t)) e ∙ ap (drop 9) (drop_at (hex_lines xs) (drop at old) at (length_lines xs)) ∙ drop-drop 9 at old in
      z
      ∙ ap₂ (λ (x y : List ℕ). x ++ (hex_line a ++ y)) front back
      ∙ sym (append_assoc (hex_lines xs) (hex_line a) (drop (at + 9) old))
      ∙ ap₂ (λ (x : List ℕ) (k : ℕ). x ++ drop k old) (sym lines) (sym size)

-- the room that they take
pub room_lines : (xs : List ℕ) (number : ℕ) → length (hex_lines (xs ++ last_answer number)) ≡ 9 * length xs + 9 * length (last_answer number)
room_lines xs number = length_lines (xs ++ last_answer number) ∙ omega (arith, length-append xs (last_answer number))

-- ---- a block has at most 126 words

bounded_by : (due : ℕ) (b rest : List ℕ) (n : ℕ) (good? : Bool) → eqb (refusal due b) 0 ≡ good? → (refusal due b ≡ 0 → length (block_words b) + length rest ≤ n)
    → length (pick good? (block_words b ++ rest) []) ≤ n
bounded_by due b rest n true e h = omega (arith, length-append (block_words b) rest, h (eqb-true _ _ e))
bounded_by due b rest n false e h = omega arith

pub words_bounded : (due n : ℕ) (bytes : List ℕ) → length (read_words due (cut 512 n bytes)) ≤ 126 * (length bytes / 512)
unfolding read_words cut
words_bounded due zero bytes = omega arith
words_bounded due (suc n) bytes =
    bounded_by due (take 512 bytes) (read_words (due + 1) (cut 512 n (drop 512 bytes))) (126 * (length bytes / 512)) (eqb (refusal due (take 512 bytes)) 0) refl
    (λ e. let g = good due (take 512 bytes) e in
    omega (
      arith,
      g.full,
      g.counted,
      length-take 512 bytes,
      length-drop 512 bytes,
      length-take (count_of (take 512 bytes)) (all_words (take 512 bytes)),
      words_bounded (due + 1) n (drop 512 bytes),
    ))

-- ---- the refusals

module _ (c : Chip) (due : ℕ) (bytes places : List ℕ) where
  pub gives_eight : well_formed c ≡ false → (refused_replay c due 8 ≡ replayed c due bytes places) × (places ≡ text_left c due bytes places)
  unfolding replayed text_left
  gives_eight t = rw t (refl, refl)

  pub gives_seven : well_formed c ≡ true → 32 < length bytes / 512 → (refused_replay c due 7 ≡ replayed c due bytes places) × (places ≡ text_left c due bytes places)
  unfolding replayed text_left
  gives_seven t h = rw (t, lt-ltb _ _ h) (refl, refl)

  -- ---- the blocks read into places of their own, the room that the text takes

  module _ (t : well_formed c ≡ true) (h : length bytes / 512 ≤ 32) (zeros : List ℕ) (n : length zeros ≡ 4032)
      (r : BlocksRead) (w : List ℕ) (e : (r ≡ blocks_read due bytes zeros) × (w ≡ words_left due bytes zeros)) (num : ℕ) (v : num ≡ number_at r.fault) where
    pub few : length (words_from due bytes) ≤ 4032
    unfolding blocks_of
    few = omega (arith, words_bounded due ((length bytes + 511) / 512) bytes)

    pub result : r ≡ record { count = length (words_from due bytes); next = read_next due (blocks_of bytes); fault = fault_at (number_from due bytes) }
    unfolding blocks_read
    result = e.0 ∙ rw (le-ltb (length zeros) (126 * (length bytes / 512)) (omega (arith, n)))

    left : w ≡ words_from due bytes ++ drop (length (words_from due bytes)) zeros
    unfolding words_left
    left = e.1 ∙ rw (le-ltb (length zeros) (126 * (length bytes / 512)) (omega (arith, n)))

    pub counted : r.count ≡ length (words_from due bytes)
    counted = ap (λ (x : BlocksRead). x.count) result

    pub numbered : num ≡ number_from due bytes
    numbered = v ∙ ap (λ (x : BlocksRead). number_at x.fault) result ∙ read_back due (blocks_of bytes)

    pub size_kept : length w ≡ 4032
    size_kept =
        ap length left
        ∙ length-append (words_from due bytes) (drop (length (words_from due bytes)) zeros)
        ∙ omega (arith, length-drop (length (words_from due bytes)) zeros, n, few)

    pub count_fits : r.count ≤ 4032
    count_fits = omega (arith, counted, few)

    pub words_read : take r.count w ≡ words_from due bytes
    words_read = ap₂ take counted left ∙ take_at (words_from due bytes) (drop (length (words_from due bytes)) zeros) (length (words_from due bytes)) refl

    module _ (size : ℕ) (z : size ≡ 9 * (r.count + length (last_answer num))) where
      pub size_text : size ≡ length (block_text c due bytes)
      unfolding block_text block_answers
      size_text =
          z
          ∙ ap₂ (λ (x y : ℕ). 9 * (x + length (last_answer y))) counted numbered
          ∙ ap (λ (m : ℕ). 9 * (m + length (last_answer (number_from due bytes)))) (sym (length_advanced_answers c (words_from due bytes)))
          ∙ ap (λ (m : ℕ). 9 * m) (sym (length-append (advanced_answers c (words_from due bytes)) (last_answer (number_from due bytes))))
          ∙ sym (length_lines (advanced_answers c (words_from due bytes) ++ last_answer (number_from due bytes)))

      pub no_room : length places < size → (refused_replay c due 7 ≡ replayed c due bytes places) × (places ≡ text_left c due bytes places)
      unfolding replayed text_left
      no_room k =
          let short = lt-ltb (length places) (length (block_text c due bytes)) (rw size_text at k) in
          rw (t, le-ltb 32 (length bytes / 512) h, short) (refl, refl)

      module _ (k : size ≤ length places) (blank : List ℕ) (m : length blank ≡ 4032) (after : Chip) (answers : List ℕ)
          (u : (after ≡ advanced c (take r.count w)) × (answers ≡ advanced_answers c (take r.count w) ++ drop (length (take r.count w)) blank)) where
        given : answers ≡ advanced_answers c (words_from due bytes) ++ drop (length (words_from due bytes)) blank
        given = u.1 ∙ ap (λ (ws : List ℕ). advanced_answers c ws ++ drop (length ws) blank) words_read

        pub answers_kept : length answers ≡ 4032
        answers_kept =
            ap length given
            ∙ length-append (advanced_answers c (words_from due bytes)) (drop (length (words_from due bytes)) blank)
            ∙ omega (arith, length_advanced_answers c (words_from due bytes), length-drop (length (words_from due bytes)) blank, m, few)

        answers_read : take r.count answers ≡ advanced_answers c (words_from due bytes)
        answers_read =
            ap₂ take counted given
            ∙ take_at (advanced_answers c (words_from due bytes)) (drop (length (words_from due bytes)) blank) (length (words_from due bytes)) (length_advanced_answers c (words_from due bytes))

        pub same_text : hex_lines (take r.count answers ++ last_answer num) ≡ block_text c due bytes
        unfolding block_text block_answers
        same_text = ap₂ (λ (x : List ℕ) (y : ℕ). hex_lines (x ++ last_answer y)) answers_read numbered

        pub text_fits : length (hex_lines (take r.count answers ++ last_answer num)) ≤ length places
        text_fits = rw (same_text, ← size_text) k

        pub done : (new : List ℕ) → new ≡ hex_lines (take r.count answers ++ last_answer num) ++ drop (length (hex_lines (take r.count answers ++ last_answer num))) places
            → (record { chip = after; next = r.next; count = size; number = num } ≡ replayed c due bytes places) × (new ≡ text_left c due bytes places)
        unfolding replayed text_left
        done new y =
            let enough = le-ltb (length places) (length (block_text c due bytes)) (rw size_text at k) in
            let chip : after ≡ advanced c (words_from due bytes) = u.0 ∙ ap (advanced c) words_read in
            rw (t, le-ltb 32 (length bytes / 512) h, enough) (
              rw (chip, numbered, size_text, result),
              y ∙ ap (λ (l : List ℕ). l ++ drop (length l) places) same_text,
            )
