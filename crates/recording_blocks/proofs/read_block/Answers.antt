-- `recording_blocks::read_block` meets its contract.
-- Assumes nothing.
use native.Mathlib.Omega.{arith}
use Rattle.std.proofs.lemmas.Result.{err_from_is_err_and}
use Rattle.recording_blocks.proofs.Words.{all_front}
use Rattle.recording_blocks.proofs.Refusals.{good, accepted, read_refused, read_seven, read_words_lem, read_case}
use Rattle.recording_blocks.proofs.read_block.Goals as goal

pub returns-in_err-count : goal.returns-in_err-count
returns-in_err-count c =
    let p = err_from_is_err_and c.from_residual.result c.from_residual.ensures.1 in
    rw (p.1, p.2) (read_case _ _ _ _ _ (read_refused _ _ _ _ (c.in_err-count.ensures)))

pub returns-then-words-count : goal.returns-then-words-count
returns-then-words-count c = read_case _ _ _ _ _ (read_seven _ _ _ _ (c.in_ok-count.ensures) c.if-words-count.true)

pub slice_bounds-read_words-end : goal.slice_bounds-read_words-end
slice_bounds-read_words-end c =
    let full = (good _ _ (accepted _ _ c.args.words.now _ c.in_ok-count.ensures).0).full in
    omega (arith, full)

pub returns : goal.returns
returns c =
    let counted = c.in_ok-count.ensures in
    let g = accepted _ _ c.args.words.now _ counted in
    let full = (good _ _ g.0).full in
    let few = (good _ _ g.0).counted in
    read_case _ _ _ _ _ (read_words_lem _ _ _ _ counted c.if-words-count.false _
    (all_front c.args.bytes.now full c.args.words.now _ _ (omega (arith, few, g.1)) c.if-words-count.false c.read_words.ensures))
