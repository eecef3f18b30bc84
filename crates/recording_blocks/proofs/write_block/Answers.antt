-- `recording_blocks::write_block` meets its contract.
-- Assumes nothing.
use mathlib.Core.Path.{refl, sym}
use native.Mathlib.Omega.{arith}
use borrow.Author.Tests.{lt-ltb, le-ltb, eq-eqb, ne_eqb}
use lib.Seq.{length-take-le}
use Rattle.recording_blocks.specs.Block.{write_number, area_left}
use Rattle.recording_blocks.proofs.Parts.{front_size, block_put}
use Rattle.recording_blocks.proofs.write_block.Goals as goal

pub returns-then-words-gt-WORDS : goal.returns-then-words-gt-WORDS
unfolding write_number area_left
returns-then-words-gt-WORDS c = simp (lt-ltb _ _ c.if-words-gt-WORDS.true) (refl, refl)

pub returns-then-area-ne512 : goal.returns-then-area-ne512
unfolding write_number area_left
returns-then-area-ne512 c = simp (ne_eqb _ _ c.if-area-ne512.true, le-ltb _ _ c.if-words-gt-WORDS.false) (refl, refl)

pub slice_bounds-sum-end-2 : goal.slice_bounds-sum-end-2
slice_bounds-sum-end-2 c = sym (length-take-le 508 c.put_front.new.area (omega (arith, front_size c.args.area.now c.args.words.now _ c.args.number c.if-words-gt-WORDS.false c.if-area-ne512.false c.put_front.ensures)))

pub sum-total-requires : goal.sum-total-requires
sum-total-requires c = omega (arith, length-take-le 508 c.put_front.new.area (omega (arith, front_size c.args.area.now c.args.words.now _ c.args.number c.if-words-gt-WORDS.false c.if-area-ne512.false c.put_front.ensures)))

pub returns : goal.returns
unfolding write_number area_left
returns c = simp (eq-eqb _ _ c.if-area-ne512.false, le-ltb _ _ c.if-words-gt-WORDS.false)
    (refl, block_put c.args.area.now c.args.words.now _ _ c.args.number _ c.if-words-gt-WORDS.false c.if-area-ne512.false c.put_front.ensures c.sum-total.ensures c.put_four.ensures)
