-- `line_text::put_piece` meets its contract.
-- Assumes nothing.
use mathlib.Core.Path.{◌∙◌}
use native.Mathlib.Omega.{arith}
use lib.ListN.{length-set}
use Rattle.line_text.proofs.Parts.{put_size, piece_none, piece_some, written_length}
use Rattle.line_text.proofs.put_piece.Goals as goal

pub returns-then-v-eq0 : goal.returns-then-v-eq0
returns-then-v-eq0 c = piece_none _ _ _ c.if-v-eq0.true

pub put-requires : goal.put-requires
put-requires c = omega (arith, length-set c.args.buf.now c.args.at 32)

pub shape_of-buf : goal.shape_of-buf
shape_of-buf c =
    let n = length-set c.args.buf.now c.args.at 32 in
    put_size c.put.ensures (omega (arith, written_length 8 c.args.v)) ∙ n

pub returns : goal.returns
returns c = piece_some _ _ _ _ _ c.if-v-eq0.false c.requires c.put.ensures
