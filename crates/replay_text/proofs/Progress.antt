-- A stream answered part by part: what stands in the text, and what is left to answer.
-- Assumes nothing.
use mathlib.Core.Path.{◌≡◌, refl, sym, ap, ap₂, ◌∙◌}
use mathlib.Core.List.{List, [], ◌++◌, append-nil, append_assoc}
use Prim.Native.Nat.{ℕ, ◌+◌, ◌*◌, ◌/◌, ◌≤◌, ◌<◌, min}
use native.Mathlib.Omega.{arith}
use lib.ListN.{length, take, drop, length-append, length-drop, take-append-drop}
use lib.Seq.{length-take-le, take_at, drop_at, drop-drop}
use Rattle.std.proofs.Common.{⊎_elim}
use Rattle.std.proofs.lemmas.Bool.{cases_lt}
use Rattle.std.proofs.lemmas.List.{nil_from_length}
use Rattle.chip.specs.declared.Chip.{Chip}
use Rattle.list_call.specs.Run.{advanced, advanced_answers}
use Rattle.list_call.proofs.Runs.{advanced_append, advanced_answers_append, length_advanced_answers}
use Rattle.hex_digits.proofs.Line.{length_lines, lines_append}
use Rattle.recording_blocks.specs.Bytes.{words_of}
use Rattle.recording_blocks.proofs.Words.{length_words}
use Rattle.replay_text.specs.Text.{hex_lines}
use Rattle.replay_text.proofs.Words.{words_append}

-- of bytes answered from a chip, rest is left: the chip is c, and the text holds the lines so far in its first at bytes, and held old
pub record Progress (bytes old : List ℕ) (start : Chip) (rest now : List ℕ) (c : Chip) (at : ℕ) : Type 0 where
  pub same : length now ≡ length old
  pub room : at + 9 * (length rest / 4) ≡ 9 * (length bytes / 4)
  pub chip : advanced c (words_of rest) ≡ advanced start (words_of bytes)
  pub text : take at now ++ hex_lines (advanced_answers c (words_of rest)) ≡ hex_lines (advanced_answers start (words_of bytes))
  pub kept : drop at now ≡ drop at old

-- a part of 4,096 bytes, or the last: its words are the first of those left
module _ (rest part more : List ℕ) (e : rest ≡ part ++ more) (n : length part ≡ min 4096 (length rest)) where
  pub part_sizes : length rest / 4 ≡ length part / 4 + length more / 4
  part_sizes = omega (arith, ap length e ∙ length-append part more)

  pub part_words : words_of rest ≡ words_of part ++ words_of more
  unfolding words_of
  part_words =
      ⊎_elim (λ (h : length rest < 4096).
      let none : more ≡ [] = nil_from_length more (omega (arith, ap length e ∙ length-append part more)) in
      ap words_of (e ∙ ap (λ (l : List ℕ). part ++ l) none ∙ append-nil part)
      ∙ sym (append-nil (words_of part))
      ∙ ap (λ (l : List ℕ). words_of part ++ words_of l) (sym none))
      (λ (h : 4096 ≤ length rest). ap words_of e ∙ words_append part more (omega arith))
      (cases_lt (length rest) 4096)

module _ (bytes old : List ℕ) (start : Chip) (room : 9 * (length bytes / 4) ≤ length old) where
  pub begun : Progress bytes old start bytes old start 0
  begun = record { same = refl; room = omega arith; chip = refl; text = refl; kept = refl }

  module _ (rest now : List ℕ) (c : Chip) (at : ℕ) (d : Progress bytes old start rest now c at) where
    pub within : at ≤ length now
    within = omega (arith, d.room, d.same)

    -- one part more
    module _ (part more : List ℕ) (e : rest ≡ part ++ more) (n : length part ≡ min 4096 (length rest)) where
      pub fits : 9 * (length part / 4) ≤ length (drop at now)
      fits = omega (arith, part_sizes rest part more e n, d.room, d.same, length-drop at now)

      pub next : (d' : Chip) → d' ≡ advanced c (words_of part)
          → (new : List ℕ) → new ≡ take at now ++ (hex_lines (advanced_answers c (words_of part)) ++ drop (9 * (length part / 4)) (drop at now))
          → Progress bytes old start more new d' (at + 9 * (length part / 4))
      next d' p new z =
          let sizes = part_sizes rest part more e n in
          let words = part_words rest part more e n in
          let lines = hex_lines (advanced_answers c (words_of part)) in
          let size : length lines ≡ 9 * (length part / 4) =
          length_lines (advanced_answers c (words_of part)) ∙ ap (λ (m : ℕ). 9 * m) (length_advanced_answers c (words_of part) ∙ length_words part) in
          let front : length (take at now ++ lines) ≡ at + 9 * (length part / 4) =
          length-append (take at now) lines ∙ omega (arith, size, length-take-le at now within) in
          let apart : new ≡ (take at now ++ lines) ++ drop (9 * (length part / 4)) (drop at now) = z ∙ sym (append_assoc (take at now) lines (drop (9 * (length part / 4)) (drop at now))) in
          record {
            same = ap length apart ∙ length-append (take at now ++ lines) (drop (9 * (length part / 4)) (drop at now))
                ∙ omega (arith, front, length-drop (9 * (length part / 4)) (drop at now), length-drop at now, d.same, sizes, d.room);
            room = omega (arith, sizes, d.room);
            chip = ap (λ (x : Chip). advanced x (words_of more)) p ∙ sym (advanced_append c (words_of part) (words_of more)) ∙ ap (advanced c) (sym words) ∙ d.chip;
            text =
                ap₂ (λ (l : List ℕ) (x : Chip). l ++ hex_lines (advanced_answers x (words_of more)))
                (ap (take (at + 9 * (length part / 4))) apart ∙ take_at (take at now ++ lines) (drop (9 * (length part / 4)) (drop at now)) (at + 9 * (length part / 4)) front) p
                ∙ append_assoc (take at now) lines (hex_lines (advanced_answers (advanced c (words_of part)) (words_of more)))
                ∙ ap (λ (l : List ℕ). take at now ++ l)
                (sym (lines_append (advanced_answers c (words_of part)) (advanced_answers (advanced c (words_of part)) (words_of more)))
                ∙ ap hex_lines (sym (advanced_answers_append c (words_of part) (words_of more)))
                ∙ ap (λ (ws : List ℕ). hex_lines (advanced_answers c ws)) (sym words))
                ∙ d.text;
            kept =
                ap (drop (at + 9 * (length part / 4))) apart
                ∙ drop_at (take at now ++ lines) (drop (9 * (length part / 4)) (drop at now)) (at + 9 * (length part / 4)) front
                ∙ ap (drop (9 * (length part / 4))) d.kept
                ∙ drop-drop (9 * (length part / 4)) at old
                ∙ ap (λ (m : ℕ). drop m old) (omega arith);
          }

    -- nothing is left
    pub ended : rest ≡ [] → (c ≡ advanced start (words_of bytes)) × (now ≡ hex_lines (advanced_answers start (words_of bytes)) ++ drop (9 * (length bytes / 4)) old)
    unfolding words_of hex_lines
    ended none =
        let end : at ≡ 9 * (length bytes / 4) = omega (arith, ap length none, d.room) in (
          rw none at d.chip,
          sym (take-append-drop at now)
              ∙ ap₂ (λ (l r : List ℕ). l ++ r) (sym (append-nil (take at now)) ∙ (rw none at d.text)) (d.kept ∙ ap (λ (m : ℕ). drop m old) end),
        )
