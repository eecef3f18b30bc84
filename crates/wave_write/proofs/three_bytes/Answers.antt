-- `wave_write::three_bytes` meets its contract.
-- Assumes nothing.
use native.Mathlib.Omega.{arith}
use lib.ListN.{length-set}
use Rattle.wave_write.proofs.Laws.{wrote_three}
use Rattle.wave_write.proofs.three_bytes.Goals as goal

pub bounds-out-from-2 : goal.bounds-out-from-2
bounds-out-from-2 c = simp length-set (omega arith)

pub bounds-out-from-3 : goal.bounds-out-from-3
bounds-out-from-3 c = simp length-set (omega arith)

pub returns : goal.returns
returns c = wrote_three _ _ _ _ _
