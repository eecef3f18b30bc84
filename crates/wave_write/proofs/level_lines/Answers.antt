-- `wave_write::level_lines` meets its contract.
-- Assumes nothing.
use native.Mathlib.Omega.{arith}
use Prim.Native.Nat.{◌-◌}
use Rattle.wave_write.proofs.Laws.{levels_begin, levels_more, levels_end}
use Rattle.wave_write.proofs.level_lines.Goals as goal

pub loop-k-init : goal.loop-k-init
loop-k-init c = levels_begin _ _ _ _

pub level_line-i-requires : goal.level_line-i-requires
level_line-i-requires c =
    let l = c.loop-k.invariant in (omega (arith, l.size, l.place, l.most), omega arith)

pub loop-k-preserved : goal.loop-k-preserved
loop-k-preserved c = levels_more c.loop-k.invariant (omega arith) c.level_line-i.ensures

pub shape_of-out : goal.shape_of-out
shape_of-out c = c.loop-k.invariant.size

pub returns : goal.returns
returns c = levels_end c.loop-k.invariant (omega arith)
