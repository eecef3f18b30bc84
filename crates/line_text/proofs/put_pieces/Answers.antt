-- `line_text::put_pieces` meets its contract: the tokens so far stand in the buffer.
-- Assumes nothing.
use native.Mathlib.Omega.{arith}
use Rattle.line_text.proofs.Parts.{standing_first, standing_size, standing_next, standing_last}
use Rattle.line_text.proofs.put_pieces.Goals as goal

pub loop-v-init : goal.loop-v-init
loop-v-init c = standing_first _ _

pub put_piece-at-requires : goal.put_piece-at-requires
put_piece-at-requires c =
    let n = standing_size c.loop-v.invariant c.requires in
    omega (arith, c.loop-v.invariant.room)

pub loop-v-preserved : goal.loop-v-preserved
loop-v-preserved c = standing_next (omega arith) c.requires c.loop-v.invariant c.put_piece-at.ensures

pub shape_of-buf : goal.shape_of-buf
shape_of-buf c = standing_size c.loop-v.invariant c.requires

pub returns : goal.returns
returns c = standing_last (omega arith) c.loop-v.invariant
