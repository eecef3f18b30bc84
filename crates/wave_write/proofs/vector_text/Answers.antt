-- `wave_write::vector_text` meets its contract.
-- Assumes nothing.
use native.Mathlib.Omega.{arith}
use mathlib.Core.Path.{◌≡◌, ◌∙◌}
use lib.ListN.{length, length-set}
use Rattle.wave_write.proofs.Laws.{wrote_one, wrote_then, binary_length, vector_text}
use Rattle.wave_write.proofs.vector_text.Goals as goal

pub bits-m-requires : goal.bits-m-requires
bits-m-requires c = simp length-set (omega (arith, c.width_of.ensures.1))

pub three_bytes-requires : goal.three_bytes-requires
three_bytes-requires c =
    let call = c.bits-m in
    let size : length call.new.out ≡ length c.args.out.now = simp length-set at call.auto.out in
    omega (arith, call.ensures.to, binary_length c.width_of.result c.aligned.result, c.width_of.ensures.1)

pub shape_of-out : goal.shape_of-out
shape_of-out c = simp length-set at (c.three_bytes.auto.out ∙ c.bits-m.auto.out)

pub returns : goal.returns
returns c = rw (vector_text, ← c.width_of.ensures.0, ← c.aligned.ensures)
    (wrote_then (wrote_one _ _ 98) (wrote_then c.bits-m.ensures c.three_bytes.ensures))
