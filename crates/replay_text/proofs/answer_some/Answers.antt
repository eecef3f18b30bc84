-- `replay_text::answer_some` meets its contract.
-- Assumes nothing.
use mathlib.Core.Path.{◌≡◌, sym, ap, ap₂, ◌∙◌}
use mathlib.Core.List.{List, ◌++◌}
use Prim.Native.Nat.{ℕ, ◌*◌, ◌/◌, ◌≤◌}
use native.Mathlib.Omega.{arith}
use lib.ListN.{length, take, drop, replicate, length-replicate}
use lib.Seq.{length-take-le}
use Rattle.list_call.specs.declared.RunResult.{RunResult}
use Rattle.replay_text.specs.Text.{hex_lines}
use Rattle.replay_text.proofs.Some.{held_length, chip_after_lem, answers_length, answers_read}
use Rattle.replay_text.proofs.answer_some.Goals as goal

-- the places for words, or for their answers
abbrev places : List ℕ
places = replicate 1024 0

room : (n : ℕ) → n ≤ 4096 → n / 4 ≤ length places
room n h = omega (arith, length-replicate {A = ℕ} 1024 0)

pub slice_bounds-advance_all-end : goal.slice_bounds-advance_all-end
slice_bounds-advance_all-end c =
    let bytes = c.args.bytes.now in
    let fits = room (length bytes) c.requires.0 in
    sym (length-take-le (length bytes / 4) c.read_words.new.words (omega (arith, fits, held_length bytes places _ fits c.read_words.ensures)))

pub slice_bounds-put_lines-end : goal.slice_bounds-put_lines-end
slice_bounds-put_lines-end c =
    let bytes = c.args.bytes.now in
    let fits = room (length bytes) c.requires.0 in
    let given = c.advance_all-done.new.answers in
    sym (length-take-le (length bytes / 4) given (omega (arith, fits, answers_length bytes places _ fits c.read_words.ensures c.args.c places fits given c.advance_all-done.ensures.1)))

pub returns : goal.returns
returns c =
    let bytes = c.args.bytes.now in
    let fits = room (length bytes) c.requires.0 in
    let given = c.advance_all-done.new.answers in
    let written = c.advance_all-done.ensures.1 in
    let enough : length bytes / 4 ≤ length given = omega (arith, fits, answers_length bytes places _ fits c.read_words.ensures c.args.c places fits given written) in
    let size : length (take (length bytes / 4) given) ≡ length bytes / 4 = length-take-le (length bytes / 4) given enough in (
      ap (λ (x : RunResult). x.chip) c.advance_all-done.ensures.0 ∙ chip_after_lem bytes places _ fits c.read_words.ensures c.args.c places fits,
      c.put_lines.ensures.fits (omega (arith, size, c.requires.1))
          ∙ ap₂ (λ (l : List ℕ) (n : ℕ). hex_lines l ++ drop (9 * n) c.args.text.now)
          (answers_read bytes places _ fits c.read_words.ensures c.args.c places fits given written) size,
    )
