-- A recording replayed: one list call on the words of all its blocks, the number of a bad block behind the answers of those before
-- it, and a recording in parts.
-- Assumes nothing.
use mathlib.Core.Path.{◌≡◌, refl, sym, ap, ap₂, ◌∙◌}
use mathlib.Core.Bool.{Bool, true, false}
use mathlib.Core.List.{List, [], ◌∷◌, ◌++◌, map, append-nil, append_assoc}
use Prim.Native.Nat.{ℕ, ◌+◌, ◌*◌, ◌/◌, ◌≤◌}
use native.Mathlib.Omega.{arith}
use lib.Dec.{ltb}
use lib.ListN.{length, take, drop, length-append}
use lib.Seq.{take_at}
use Rattle.bits.specs.Byte.{pick}
use Rattle.hex_digits.specs.Hex.{hex_line}
use Rattle.answers.specs.Answer.{answer_word}
use Rattle.chip.specs.declared.Chip.{Chip}
use Rattle.chip_well_formed.specs.WellFormed.{well_formed}
use Rattle.list_call.specs.Run.{advanced, advanced_answers, run, run_answers}
use Rattle.list_call.proofs.Runs.{advanced_append, advanced_answers_append, length_advanced_answers}
use Rattle.recording_blocks.specs.Block.{block_words, refusal}
use Rattle.recording_parts.specs.Recording.{blocks_of, joined, recording_of, read_words, read_number, read_next}
use Rattle.recording_parts.proofs.Round.{read_written}
use Rattle.recording_parts.proofs.Joined.{accepted_words, onward, stopped, bad_block, blocks_append}
use Rattle.recording_replay.specs.Replay.{words_from, number_from, last_answer, block_answers, hex_lines, block_text, refused_replay, replayed, text_left}
use Rattle.recording_replay.specs.declared.Replayed.{Replayed}
use Rattle.hex_digits.proofs.Line.{lines_append}
use Rattle.recording_replay.proofs.Calls.{call_chip, call_answers}
use Rattle.recording_replay.proofs.Replaying.{no_last, one_last}

-- ---- the list call

-- the answers to a recording are those of the list call on the words of its good blocks, and the last answer; the chip is the
-- one that the list call leaves
pub by_list_call : (c : Chip) (due : ℕ) (bytes places : List ℕ) → well_formed c ≡ true → length (words_from due bytes) ≤ length places
    → (block_answers c due bytes ≡ take (length (words_from due bytes)) (run_answers c (words_from due bytes) places) ++ last_answer (number_from due bytes))
    × (advanced c (words_from due bytes) ≡ (run c (words_from due bytes) places).chip)
unfolding block_answers
by_list_call c due bytes places t h =
    let ws = words_from due bytes in (
      ap (λ (l : List ℕ). l ++ last_answer (number_from due bytes))
          (sym (ap (take (length ws)) (call_answers c ws places t h) ∙ take_at (advanced_answers c ws) (drop (length ws) places) (length ws) (length_advanced_answers c ws))),
      sym (call_chip c ws places t h),
    )

-- an accepted recording: the words of all its blocks, joined, and no last answer
pub accepted_answers : (c : Chip) (bytes : List ℕ) → number_from 0 bytes ≡ 0
    → (block_answers c 0 bytes ≡ advanced_answers c (joined (map block_words (blocks_of bytes)))) × (words_from 0 bytes ≡ joined (map block_words (blocks_of bytes)))
unfolding block_answers
accepted_answers c bytes e =
    let all = accepted_words 0 (blocks_of bytes) e in
    (ap₂ (λ (x y : List ℕ). x ++ y) (ap (advanced_answers c) all) (no_last (number_from 0 bytes) e) ∙ append-nil (advanced_answers c (joined (map block_words (blocks_of bytes)))), all)

-- what was recorded is replayed: the answers are those to the words
pub recorded_answers : (c : Chip) (ws : List ℕ) → block_answers c 0 (recording_of ws) ≡ advanced_answers c ws
unfolding block_answers
recorded_answers c ws =
    let back = read_written ws in
    ap₂ (λ (x y : List ℕ). x ++ y) (ap (advanced_answers c) back.0) (no_last (number_from 0 (recording_of ws)) back.1) ∙ append-nil (advanced_answers c ws)

-- ---- a bad block

-- the answers of the good blocks before it, then a word with its number and all else zero; one of five numbers
pub refused_answers : (c : Chip) (bytes : List ℕ) (good : List (List ℕ)) (b : List ℕ) (rest : List (List ℕ)) → blocks_of bytes ≡ good ++ (b ∷ rest)
    → read_number 0 good ≡ 0 → (refusal (length good) b ≡ 0 → ⊥)
    → block_answers c 0 bytes ≡ advanced_answers c (joined (map block_words good)) ++ (refusal (length good) b * 16777216 ∷ [])
unfolding block_answers
refused_answers c bytes good b rest p e h =
    let n = refusal (length good) b in
    let first : 0 + length good ≡ length good = omega arith in
    let same : refusal (0 + length good) b ≡ n = ap (λ (k : ℕ). refusal k b) first in
    let bad = bad_block 0 good b rest e (λ q. h (sym same ∙ q)) in
    let word : answer_word n false 0 0 ≡ n * 16777216 = omega arith in
    ap₂ (λ (x : List ℕ) (y : ℕ). advanced_answers c x ++ last_answer y) (ap (read_words 0) p ∙ bad.0) (ap (read_number 0) p ∙ bad.1 ∙ same)
    ∙ ap (λ (t : List ℕ). advanced_answers c (joined (map block_words good)) ++ t) (one_last n h ∙ ap (λ (k : ℕ). k ∷ []) word)

-- the last line of a recording with a wrong sum
pub wrong_sum_line : hex_line (answer_word 11 false 0 0) ≡ 48 ∷ 66 ∷ 48 ∷ 48 ∷ 48 ∷ 48 ∷ 48 ∷ 48 ∷ 10 ∷ []
unfolding hex_line
wrong_sum_line = refl

-- ---- a recording in parts, the first of whole blocks

module _ (c : Chip) (due n : ℕ) (xs ys : List ℕ) (h : length xs ≡ 512 * n) where
  -- an accepted part: the next goes on from the chip and the number that it left
  pub parts_answers : number_from due xs ≡ 0
      → (block_answers c due (xs ++ ys) ≡ block_answers c due xs ++ block_answers (advanced c (words_from due xs)) (read_next due (blocks_of xs)) ys)
      × (advanced c (words_from due (xs ++ ys)) ≡ advanced (advanced c (words_from due xs)) (words_from (read_next due (blocks_of xs)) ys))
  unfolding block_answers
  parts_answers e =
      let o = onward due (blocks_of xs) (blocks_of ys) e in
      let b = blocks_append n xs ys h in
      let ws = words_from due xs in
      let vs = words_from (read_next due (blocks_of xs)) ys in
      let last = last_answer (number_from (read_next due (blocks_of xs)) ys) in
      let words : words_from due (xs ++ ys) ≡ ws ++ vs = ap (read_words due) b ∙ o.words in (
        ap₂ (λ (x : List ℕ) (y : ℕ). advanced_answers c x ++ last_answer y) words (ap (read_number due) b ∙ o.number)
            ∙ ap (λ (t : List ℕ). t ++ last) (advanced_answers_append c ws vs)
            ∙ append_assoc (advanced_answers c ws) (advanced_answers (advanced c ws) vs) last
            ∙ ap (λ (t : List ℕ). t ++ (advanced_answers (advanced c ws) vs ++ last))
            (sym (ap (λ (t : List ℕ). advanced_answers c ws ++ t) (no_last (number_from due xs) e) ∙ append-nil (advanced_answers c ws))),
        ap (advanced c) words ∙ advanced_append c ws vs,
      )

  pub parts_text_lem : number_from due xs ≡ 0
      → block_text c due (xs ++ ys) ≡ block_text c due xs ++ block_text (advanced c (words_from due xs)) (read_next due (blocks_of xs)) ys
  unfolding block_text
  parts_text_lem e =
      ap hex_lines (parts_answers e).0 ∙ lines_append (block_answers c due xs) (block_answers (advanced c (words_from due xs)) (read_next due (blocks_of xs)) ys)

  -- a bad block ends it: the next part is not looked at
  pub ended_answers : (number_from due xs ≡ 0 → ⊥)
      → (block_answers c due (xs ++ ys) ≡ block_answers c due xs) × (advanced c (words_from due (xs ++ ys)) ≡ advanced c (words_from due xs))
  unfolding block_answers
  ended_answers e =
      let s = stopped due (blocks_of xs) (blocks_of ys) e in
      let b = blocks_append n xs ys h in
      let ws : words_from due (xs ++ ys) ≡ words_from due xs = ap (read_words due) b ∙ s.words in (
        ap₂ (λ (x : List ℕ) (y : ℕ). advanced_answers c x ++ last_answer y) ws (ap (read_number due) b ∙ s.number),
        ap (advanced c) ws,
      )

-- ---- the text written is within its places

count_by : (well many short : Bool) (c d : Chip) (due next number : ℕ) (text places : List ℕ)
    → (pick well (pick many (refused_replay c due 7) (pick short (refused_replay c due 7) (record { chip = d; next = next; count = length text; number = number }))) (refused_replay c due 8)).count
    ≤ length (pick well (pick many places (pick short places (text ++ drop (length text) places))) places)
count_by false many short c d due next number text places = omega arith
count_by true true short c d due next number text places = omega arith
count_by true false true c d due next number text places = omega arith
count_by true false false c d due next number text places = omega (arith, length-append text (drop (length text) places))

pub count_within : (c : Chip) (due : ℕ) (bytes places new : List ℕ) (r : Replayed) → r ≡ replayed c due bytes places → new ≡ text_left c due bytes places → r.count ≤ length new
unfolding replayed text_left
count_within c due bytes places new r p q =
    rw (p, q) (count_by (well_formed c) (ltb 32 (length bytes / 512)) (ltb (length places) (length (block_text c due bytes))) c (advanced c (words_from due bytes)) due
    (read_next due (blocks_of bytes)) (number_from due bytes) (block_text c due bytes) places)
