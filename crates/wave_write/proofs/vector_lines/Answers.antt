-- `wave_write::vector_lines` meets its contract.
-- Assumes nothing.
use native.Mathlib.Omega.{arith}
use Prim.Native.Nat.{◌-◌}
use Rattle.wave_write.proofs.Laws.{vectors_begin, vectors_more, vectors_end}
use Rattle.wave_write.proofs.vector_lines.Goals as goal

pub loop-k-init : goal.loop-k-init
loop-k-init c = vectors_begin _ _ _ _

pub vector_line-i-requires : goal.vector_line-i-requires
vector_line-i-requires c =
    let l = c.loop-k.invariant in (omega (arith, l.size, l.place, l.most), omega arith)

pub loop-k-preserved : goal.loop-k-preserved
loop-k-preserved c = vectors_more c.loop-k.invariant (omega arith) c.vector_line-i.ensures

pub shape_of-out : goal.shape_of-out
shape_of-out c = c.loop-k.invariant.size

pub returns : goal.returns
returns c = vectors_end c.loop-k.invariant (omega arith)
