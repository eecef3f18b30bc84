-- The text of a stream: its length, and a stream answered in blocks of whole words.
-- Assumes nothing.
use mathlib.Core.Path.{◌≡◌, refl, sym, ap, ap₂, ◌∙◌}
use mathlib.Core.Bool.{Bool, true, false}
use mathlib.Core.List.{List, [], ◌++◌, append-nil, append_assoc}
use Prim.Native.Nat.{ℕ, zero, suc, ◌+◌, ◌*◌, ◌/◌, ◌%◌, ◌<◌, ◌≤◌}
use native.Mathlib.Omega.{arith}
use borrow.Author.Tests.{lt-ltb, le-ltb, eq-eqb, ne_eqb}
use lib.Dec.{eqb, ltb, eqb-suc-zero}
use lib.ListN.{length, take, drop, length-append, length-drop}
use lib.Seq.{take_at, drop_at, drop-drop}
use Rattle.bits.specs.Byte.{pick}
use Rattle.chip.specs.declared.Chip.{Chip}
use Rattle.list_call.specs.Run.{advanced, advanced_answers}
use Rattle.list_call.proofs.Runs.{advanced_append, advanced_answers_append, length_advanced_answers}
use Rattle.replay_text.specs.declared.Answered.{Answered}
use Rattle.hex_digits.specs.Hex.{hex_line}
use Rattle.hex_digits.proofs.Line.{length_line, length_lines, lines_append}
use Rattle.recording_blocks.specs.Bytes.{words_of}
use Rattle.replay_text.specs.Text.{hex_lines, left_over, left_over_answer, replay_text, answered, answered_text}
use Rattle.recording_blocks.proofs.Words.{length_words}
use Rattle.replay_text.proofs.Words.{words_append}

-- the line for bytes left over, by how many they are
length_left : (a n : ℕ) → n < 4 → length (pick (eqb n 0) [] (hex_line a)) ≡ 9 * ((n + 3) / 4)
length_left a zero h = refl
length_left a (suc n) h = rw (eqb-suc-zero n) (length_line a ∙ omega arith)

module _ (c : Chip) (bytes : List ℕ) where
  pub length_answered : length (hex_lines (advanced_answers c (words_of bytes))) ≡ 9 * (length bytes / 4)
  length_answered = length_lines (advanced_answers c (words_of bytes)) ∙ ap (λ (n : ℕ). 9 * n) (length_advanced_answers c (words_of bytes) ∙ length_words bytes)

  -- nine bytes for each word, whole or not
  pub length_text : length (replay_text c bytes) ≡ 9 * (length bytes / 4 + (length bytes % 4 + 3) / 4)
  unfolding replay_text left_over
  length_text =
      length-append (hex_lines (advanced_answers c (words_of bytes))) (left_over (advanced c (words_of bytes)) bytes)
      ∙ omega (arith, length_answered, length_left (left_over_answer (advanced c (words_of bytes))) (length bytes % 4) (omega arith))

  -- the text of whole words
  pub text_whole : length bytes % 4 ≡ 0 → replay_text c bytes ≡ hex_lines (advanced_answers c (words_of bytes))
  unfolding replay_text left_over
  text_whole h = simp (eq-eqb _ _ h, append-nil)

  -- the text with bytes left over
  pub text_left_lem : (length bytes % 4 ≡ 0 → ⊥)
      → replay_text c bytes ≡ hex_lines (advanced_answers c (words_of bytes)) ++ hex_line (left_over_answer (advanced c (words_of bytes)))
  unfolding replay_text left_over
  text_left_lem h = simp (ne_eqb _ _ h)

  -- the lines put over the start of a list keep its length
  pub length_kept : (old : List ℕ) → 9 * (length bytes / 4) ≤ length old
      → length (hex_lines (advanced_answers c (words_of bytes)) ++ drop (9 * (length bytes / 4)) old) ≡ length old
  length_kept old h =
      length-append (hex_lines (advanced_answers c (words_of bytes))) (drop (9 * (length bytes / 4)) old)
      ∙ omega (arith, length_answered, length-drop (9 * (length bytes / 4)) old)

  -- a last line, put after those of the whole words
  pub line_left : (old now new : List ℕ) (a : ℕ) → (length bytes % 4 ≡ 0 → ⊥)
      → now ≡ hex_lines (advanced_answers c (words_of bytes)) ++ drop (9 * (length bytes / 4)) old
      → a ≡ left_over_answer (advanced c (words_of bytes))
      → new ≡ take (9 * (length bytes / 4)) now ++ (hex_line a ++ drop (9 * (length bytes / 4) + 9) now)
      → new ≡ replay_text c bytes ++ drop (9 * (length bytes / 4) + 9) old
  line_left old now new a h p q z =
      let at = 9 * (length bytes / 4) in
      let lines = hex_lines (advanced_answers c (words_of bytes)) in
      let front : take at now ≡ lines = ap (take at) p ∙ take_at lines (drop at old) at length_answered in
      let back : drop (at + 9) now ≡ drop (at + 9) old =
      sym (drop-drop 9 at now) ∙ ap (λ (t : List ℕ). drop 9 (drop at t)) p ∙ ap (drop 9) (drop_at lines (drop at old) at length_answered) ∙ drop-drop 9 at old in
      z
      ∙ ap₂ (λ (s t : List ℕ). s ++ (hex_line a ++ t)) front back
      ∙ sym (append_assoc lines (hex_line a) (drop (at + 9) old))
      ∙ ap (λ (t : List ℕ). t ++ drop (at + 9) old) (ap (λ (n : ℕ). lines ++ hex_line n) q ∙ sym (text_left_lem h))

abbrev block : Chip → ℕ → Answered
block c n = record { chip = c; count = n }

-- a block and the places for its text: too few places; whole words; bytes left over
module _ (c : Chip) (bytes old : List ℕ) where
  pub block_short : length old / 9 < length bytes / 4 + (length bytes % 4 + 3) / 4 → (block c 0 ≡ answered c bytes old) × (old ≡ answered_text c bytes old)
  unfolding answered answered_text
  block_short h =
      let short : length old < length (replay_text c bytes) = omega (arith, length_text c bytes) in
      simp (lt-ltb _ _ short) (refl, refl)

  module _ (fits : length bytes / 4 + (length bytes % 4 + 3) / 4 ≤ length old / 9) (s : Chip) (now : List ℕ)
      (e : (s ≡ advanced c (words_of bytes)) × (now ≡ hex_lines (advanced_answers c (words_of bytes)) ++ drop (9 * (length bytes / 4)) old)) where
    room : length (replay_text c bytes) ≤ length old
    room = omega (arith, length_text c bytes)

    pub block_length : length now ≡ length old
    block_length = ap length e.1 ∙ length_kept c bytes old (omega arith)

    pub block_whole : length bytes % 4 ≡ 0 → (block s (9 * (length bytes / 4)) ≡ answered c bytes old) × (now ≡ answered_text c bytes old)
    unfolding answered answered_text
    block_whole h =
        let count : 9 * (length bytes / 4) ≡ length (replay_text c bytes) = omega (arith, length_text c bytes) in
        simp (le-ltb _ _ room)
        (ap₂ block e.0 count, e.1 ∙ ap₂ (λ (t : List ℕ) (k : ℕ). t ++ drop k old) (sym (text_whole c bytes h)) count)

    pub block_left : (length bytes % 4 ≡ 0 → ⊥) → (a : ℕ) → a ≡ left_over_answer s → (new : List ℕ)
        → new ≡ take (9 * (length bytes / 4)) now ++ (hex_line a ++ drop (9 * (length bytes / 4) + 9) now)
        → (block s (9 * (length bytes / 4) + 9) ≡ answered c bytes old) × (new ≡ answered_text c bytes old)
    unfolding answered answered_text
    block_left h a p new q =
        let count : 9 * (length bytes / 4) + 9 ≡ length (replay_text c bytes) = omega (arith, h, length_text c bytes) in
        simp (le-ltb _ _ room) (
          ap₂ block e.0 count,
          line_left c bytes old now new a h e.1 (p ∙ ap left_over_answer e.0) q ∙ ap (λ (k : ℕ). replay_text c bytes ++ drop k old) count,
        )

-- the text of a stream in two blocks, the first of whole words: the text of the second block is from the chip that the first left
pub blocks : (c : Chip) (xs ys : List ℕ) → length xs % 4 ≡ 0
    → replay_text c (xs ++ ys) ≡ replay_text c xs ++ replay_text (advanced c (words_of xs)) ys
unfolding replay_text left_over
blocks c xs ys h =
    let d = advanced c (words_of xs) in
    let left : length (xs ++ ys) % 4 ≡ length ys % 4 = omega (arith, length-append xs ys) in
    rw (words_append xs ys h, advanced_append c (words_of xs) (words_of ys), advanced_answers_append c (words_of xs) (words_of ys), left)
    (ap (λ (t : List ℕ). t ++ left_over (advanced d (words_of ys)) ys) (lines_append (advanced_answers c (words_of xs)) (advanced_answers d (words_of ys)))
    ∙ append_assoc (hex_lines (advanced_answers c (words_of xs))) (hex_lines (advanced_answers d (words_of ys))) (left_over (advanced d (words_of ys)) ys)
    ∙ ap (λ (t : List ℕ). t ++ (hex_lines (advanced_answers d (words_of ys)) ++ left_over (advanced d (words_of ys)) ys)) (sym (text_whole c xs h)))

-- the text written is within its places
count_of : (c d : Chip) (text old : List ℕ) (short : Bool)
    → (pick short (block c 0) (block d (length text))).count ≤ length (pick short old (text ++ drop (length text) old))
count_of c d text old true = omega arith
count_of c d text old false = omega (arith, length-append text (drop (length text) old))

pub count_within : (c : Chip) (bytes old new : List ℕ) (r : Answered) → r ≡ answered c bytes old → new ≡ answered_text c bytes old → r.count ≤ length new
unfolding answered answered_text
count_within c bytes old new r p q =
    rw (p, q) (count_of c (advanced c (words_of bytes)) (replay_text c bytes) old (ltb (length old) (length (replay_text c bytes))))
