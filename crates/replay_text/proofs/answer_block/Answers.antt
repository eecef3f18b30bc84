-- `replay_text::answer_block` meets its contract.
-- Assumes nothing.
use native.Mathlib.Omega.{arith}
use mathlib.Core.Path.{ap}
use lib.ListN.{length, length-drop}
use Rattle.list_laws.proofs.Place.{tail_all}
use Prim.Native.Nat.{◌*◌, ◌/◌}
use Rattle.replay_text.proofs.Stream.{block_short, block_length, block_whole, block_left}
use Rattle.hex_digits.proofs.Line.{line_put}
use Rattle.replay_text.proofs.answer_block.Goals as goal

pub returns-then-text-whole : goal.returns-then-text-whole
returns-then-text-whole c = block_short _ _ _ c.if-text-whole.true

pub returns-then-rest-eq0 : goal.returns-then-rest-eq0
returns-then-rest-eq0 c = block_whole _ _ _ c.if-text-whole.false _ _ c.answer_words-c.ensures c.if-rest-eq0.true

pub returns : goal.returns
returns c =
    let kept = block_length _ _ _ c.if-text-whole.false _ _ c.answer_words-c.ensures in
    let now = c.answer_words-c.new.text in
    let at = 9 * (length c.args.bytes.now / 4) in
    let line = c.put_lines.ensures.fits (omega (arith, kept, c.if-text-whole.false, c.if-rest-eq0.false, ap length (tail_all now at), length-drop at now)) in
    block_left _ _ _ c.if-text-whole.false _ _ c.answer_words-c.ensures c.if-rest-eq0.false _ c.left_over_answer.ensures _ (line_put now _ at _ line)
