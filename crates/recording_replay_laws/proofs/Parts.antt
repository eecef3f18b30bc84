-- The parts join: what is printed for them is the text of the whole recording, whatever its length.
-- Assumes nothing.
use Prim.Native.Nat.{ℕ, ◌+◌, ◌*◌, ◌/◌, ◌≤◌}
use mathlib.Core.Path.{◌≡◌, refl, sym, ap, ap₂, ◌∙◌}
use mathlib.Core.Bool.{Bool, true, false}
use mathlib.Core.List.{List, [], ◌∷◌, ◌++◌, append-nil}
use native.Mathlib.Omega.{arith}
use borrow.Author.Tests.{le-ltb, eqb-true, eqb-false}
use lib.Dec.{eqb, ltb}
use lib.ListN.{length, take, drop, length-append}
use lib.Seq.{take_at}
use Rattle.bits.specs.Byte.{pick}
use Rattle.bits.proofs.Level.{pick_by}
use Rattle.chip.specs.declared.Chip.{Chip}
use Rattle.chip_well_formed.specs.WellFormed.{well_formed}
use Rattle.events.specs.Word.{decode}
use Rattle.step.specs.Step.{advance}
use Rattle.list_call.specs.Run.{advanced, advanced_answers}
use Rattle.list_call.proofs.Runs.{length_advanced_answers}
use Rattle.chip_laws.proofs.WellFormed.{advance_well_formed}
use Rattle.recording_parts.specs.Recording.{cut, blocks_of, joined, read_words, read_number, read_next}
use Rattle.recording_replay.specs.declared.Replayed.{Replayed}
use Rattle.recording_replay.specs.Replay.{words_from, number_from, last_answer, block_answers, hex_lines, block_text, refused_replay, replayed, text_left}
use Rattle.recording_replay.proofs.Replaying.{no_last, one_last, room_lines, words_bounded}
use Rattle.recording_replay.proofs.Recordings.{parts_text_lem, ended_answers}
use Rattle.recording_replay_laws.specs.Parts.{part_bytes, part_text, printed, Parts, none, last, more}

-- ---- the chip stays well formed

advanced_well_formed : (c : Chip) (ws : List ℕ) → well_formed c ≡ true → well_formed (advanced c ws) ≡ true
advanced_well_formed c [] t = t
advanced_well_formed c (w ∷ ws) t = advanced_well_formed (advance c (decode w)).chip ws (advance_well_formed c w t)

-- ---- the text of a part has room

last_short : (number : ℕ) → length (last_answer number) ≤ 1
unfolding last_answer
last_short number = pick_by (λ (l : List ℕ). length l ≤ 1) (eqb number 0) (λ _. omega arith) (λ _. omega arith)

text_bounded : (c : Chip) (due : ℕ) (bytes : List ℕ) → length bytes ≤ part_bytes → length (block_text c due bytes) ≤ part_text
unfolding block_text block_answers blocks_of
text_bounded c due bytes h =
    let ws : List ℕ = words_from due bytes in
    let number : ℕ = number_from due bytes in
    omega (
      arith,
      h,
      room_lines (advanced_answers c ws) number,
      length_advanced_answers c ws,
      words_bounded due ((length bytes + 511) / 512) bytes,
      last_short number,
    )

-- ---- one part

module _ (places : List ℕ) (room : part_text ≤ length places) (c : Chip) (due : ℕ) (part : List ℕ) (t : well_formed c ≡ true) (h : length part ≤ part_bytes) where
  few : ltb 32 (length part / 512) ≡ false
  few = le-ltb 32 (length part / 512) (omega (arith, h))

  fits : ltb (length places) (length (block_text c due part)) ≡ false
  fits = le-ltb (length places) (length (block_text c due part)) (omega (arith, room, text_bounded c due part h))

  part_replayed : replayed c due part places
      ≡ record { chip = advanced c (words_from due part); next = read_next due (blocks_of part); count = length (block_text c due part); number = number_from due part }
  unfolding replayed
  part_replayed = rw (t, few, fits)

  part_text_lem : take (replayed c due part places).count (text_left c due part places) ≡ block_text c due part
  unfolding text_left
  part_text_lem =
      rw (part_replayed, t, few, fits) (take_at (block_text c due part) (drop (length (block_text c due part)) places) (length (block_text c due part)) refl)

  -- what is printed, in the terms of the recording
  abbrev Onward : List (List ℕ) → List ℕ
  Onward rest = pick (eqb (number_from due part) 0) (printed places (advanced c (words_from due part)) (read_next due (blocks_of part)) rest) []

  part_printed : (rest : List (List ℕ)) → printed places c due (part ∷ rest) ≡ block_text c due part ++ Onward rest
  unfolding printed
  part_printed rest = rw (part_text_lem, part_replayed)

-- ---- all of them

empty_text : (c : Chip) (due : ℕ) → block_text c due [] ≡ []
unfolding block_text block_answers blocks_of cut read_words read_number last_answer hex_lines
empty_text c due = refl

onward_or_ended : (places : List ℕ) (c : Chip) (due : ℕ) (part ys : List ℕ) (rest : List (List ℕ)) (good : Bool) → eqb (number_from due part) 0 ≡ good → length part ≡ part_bytes
    → printed places (advanced c (words_from due part)) (read_next due (blocks_of part)) rest ≡ block_text (advanced c (words_from due part)) (read_next due (blocks_of part)) ys
    → block_text c due part ++ pick good (printed places (advanced c (words_from due part)) (read_next due (blocks_of part)) rest) [] ≡ block_text c due (part ++ ys)
unfolding block_text
onward_or_ended places c due part ys rest true e h q =
    ap (λ (l : List ℕ). block_text c due part ++ l) q ∙ sym (parts_text_lem c due 32 part ys h (eqb-true (number_from due part) 0 e))
onward_or_ended places c due part ys rest false e h q =
    append-nil (block_text c due part) ∙ sym (ap hex_lines (ended_answers c due 32 part ys h (eqb-false (number_from due part) 0 e)).0)

-- the parts of a recording print the text of the recording
pub parts_join : (places : List ℕ) → part_text ≤ length places → {parts : List (List ℕ)} → Parts parts → (c : Chip) (due : ℕ) → well_formed c ≡ true
    → printed places c due parts ≡ block_text c due (joined parts)
unfolding printed joined
parts_join places room none c due t = sym (empty_text c due)
parts_join places room (last {part} h) c due t =
    part_printed places room c due part t h []
    ∙ ap (λ (l : List ℕ). block_text c due part ++ l) (nothing (eqb (number_from due part) 0))
    ∙ append-nil (block_text c due part)
    ∙ ap (block_text c due) (sym (append-nil part))
  where
    nothing : (good : Bool) → pick good (printed places (advanced c (words_from due part)) (read_next due (blocks_of part)) []) [] ≡ []
    nothing true = refl
    nothing false = refl
parts_join places room (more {part} {rest} h p) c due t =
    let d : Chip = advanced c (words_from due part) in
    part_printed places room c due part t (omega (arith, h)) rest
    ∙ onward_or_ended places c due part (joined rest) rest (eqb (number_from due part) 0) refl h
    (parts_join places room p d (read_next due (blocks_of part)) (advanced_well_formed c (words_from due part) t))
