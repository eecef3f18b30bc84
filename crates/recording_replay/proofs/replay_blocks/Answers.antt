-- `recording_replay::replay_blocks` meets its contract.
-- Assumes nothing.
-- once the blocks are read: the state is well formed, and there are places for the words of all of them
-- once they are answered
use mathlib.Core.Path.{◌≡◌, sym, ◌∙◌}
use mathlib.Core.Bool.{true}
use Prim.Native.Nat.{◌≤◌}
use native.Mathlib.Omega.{arith}
use lib.ListN.{length}
use lib.Seq.{length-take-le}
use Rattle.chip_well_formed.specs.WellFormed.{well_formed}
use Rattle.recording_replay.proofs.Replaying.{gives_eight, gives_seven, size_kept, count_fits, no_room, answers_kept, text_fits, done}
use Rattle.recording_replay.proofs.replay_blocks.Goals as goal

pub returns-then-bytes-gt32 : goal.returns-then-bytes-gt32
returns-then-bytes-gt32 c = gives_seven _ _ _ _ (sym c.well_formed-2.ensures ∙ c.if-well_formed.true) c.if-bytes-gt32.true

pub text_length-size-requires : goal.text_length-size-requires
text_length-size-requires c = (count_fits _ _ _ c.args.text.now (sym c.well_formed-2.ensures ∙ c.if-well_formed.true) c.if-bytes-gt32.false _ (sym c.places-words.ensures) _ _ c.read_blocks-read.ensures _ c.number_of-number.ensures)

pub returns-then-text-size : goal.returns-then-text-size
returns-then-text-size c = no_room _ _ _ _ (sym c.well_formed-2.ensures ∙ c.if-well_formed.true) c.if-bytes-gt32.false _ (sym c.places-words.ensures) _ _ c.read_blocks-read.ensures _ c.number_of-number.ensures _ c.text_length-size.ensures c.if-text-size.true

pub slice_bounds-words-end : goal.slice_bounds-words-end
slice_bounds-words-end c = omega (arith, (count_fits _ _ _ c.args.text.now (sym c.well_formed-2.ensures ∙ c.if-well_formed.true) c.if-bytes-gt32.false _ (sym c.places-words.ensures) _ _ c.read_blocks-read.ensures _ c.number_of-number.ensures), (size_kept _ _ _ c.args.text.now (sym c.well_formed-2.ensures ∙ c.if-well_formed.true) c.if-bytes-gt32.false _ (sym c.places-words.ensures) _ _ c.read_blocks-read.ensures _ c.number_of-number.ensures))

pub slice_bounds-answer_words-end : goal.slice_bounds-answer_words-end
slice_bounds-answer_words-end c = sym (length-take-le c.read_blocks-read.result.count c.read_blocks-read.new.words (omega (arith, (count_fits _ _ _ c.args.text.now (sym c.well_formed-2.ensures ∙ c.if-well_formed.true) c.if-bytes-gt32.false _ (sym c.places-words.ensures) _ _ c.read_blocks-read.ensures _ c.number_of-number.ensures), (size_kept _ _ _ c.args.text.now (sym c.well_formed-2.ensures ∙ c.if-well_formed.true) c.if-bytes-gt32.false _ (sym c.places-words.ensures) _ _ c.read_blocks-read.ensures _ c.number_of-number.ensures))))

pub answer_words-after-requires : goal.answer_words-after-requires
answer_words-after-requires c = (
  (sym c.well_formed-2.ensures ∙ c.if-well_formed.true),
  omega (arith, (count_fits _ _ _ c.args.text.now (sym c.well_formed-2.ensures ∙ c.if-well_formed.true) c.if-bytes-gt32.false _ (sym c.places-words.ensures) _ _ c.read_blocks-read.ensures _ c.number_of-number.ensures), c.places-answers.ensures, length-take-le c.read_blocks-read.result.count c.read_blocks-read.new.words (omega (arith, (count_fits _ _ _ c.args.text.now (sym c.well_formed-2.ensures ∙ c.if-well_formed.true) c.if-bytes-gt32.false _ (sym c.places-words.ensures) _ _ c.read_blocks-read.ensures _ c.number_of-number.ensures), (size_kept _ _ _ c.args.text.now (sym c.well_formed-2.ensures ∙ c.if-well_formed.true) c.if-bytes-gt32.false _ (sym c.places-words.ensures) _ _ c.read_blocks-read.ensures _ c.number_of-number.ensures)))),
)

pub slice_bounds-answers-end : goal.slice_bounds-answers-end
slice_bounds-answers-end c = omega (arith, (count_fits _ _ _ c.args.text.now (sym c.well_formed-2.ensures ∙ c.if-well_formed.true) c.if-bytes-gt32.false _ (sym c.places-words.ensures) _ _ c.read_blocks-read.ensures _ c.number_of-number.ensures), (answers_kept _ _ _ c.args.text.now (sym c.well_formed-2.ensures ∙ c.if-well_formed.true) c.if-bytes-gt32.false _ (sym c.places-words.ensures) _ _ c.read_blocks-read.ensures _ c.number_of-number.ensures _ c.text_length-size.ensures c.if-text-size.false _ (sym c.places-answers.ensures) _ _ c.answer_words-after.ensures))

pub slice_bounds-put_text-end : goal.slice_bounds-put_text-end
slice_bounds-put_text-end c = sym (length-take-le c.read_blocks-read.result.count c.answer_words-after.new.answers (omega (arith, (count_fits _ _ _ c.args.text.now (sym c.well_formed-2.ensures ∙ c.if-well_formed.true) c.if-bytes-gt32.false _ (sym c.places-words.ensures) _ _ c.read_blocks-read.ensures _ c.number_of-number.ensures), (answers_kept _ _ _ c.args.text.now (sym c.well_formed-2.ensures ∙ c.if-well_formed.true) c.if-bytes-gt32.false _ (sym c.places-words.ensures) _ _ c.read_blocks-read.ensures _ c.number_of-number.ensures _ c.text_length-size.ensures c.if-text-size.false _ (sym c.places-answers.ensures) _ _ c.answer_words-after.ensures))))

pub put_text-requires : goal.put_text-requires
put_text-requires c = text_fits _ _ _ c.args.text.now (sym c.well_formed-2.ensures ∙ c.if-well_formed.true) c.if-bytes-gt32.false _ (sym c.places-words.ensures) _ _ c.read_blocks-read.ensures _ c.number_of-number.ensures _ c.text_length-size.ensures
    c.if-text-size.false _ (sym c.places-answers.ensures) _ _ c.answer_words-after.ensures

pub returns-then-well_formed : goal.returns-then-well_formed
returns-then-well_formed c = done _ _ _ _ (sym c.well_formed-2.ensures ∙ c.if-well_formed.true) c.if-bytes-gt32.false _ (sym c.places-words.ensures) _ _ c.read_blocks-read.ensures _ c.number_of-number.ensures _ c.text_length-size.ensures
    c.if-text-size.false _ (sym c.places-answers.ensures) _ _ c.answer_words-after.ensures _ c.put_text.ensures

pub returns : goal.returns
returns c = gives_eight _ _ _ _ (sym c.well_formed-2.ensures ∙ c.if-well_formed.false)
