-- `wave_write::first_line` meets its contract.
-- Assumes nothing.
use native.Mathlib.Omega.{arith}
use lib.ListN.{length-set}
use Rattle.wave_write.proofs.Laws.{wrote_five, first_text}
use Rattle.wave_write.proofs.first_line.Goals as goal

pub bounds-out-from-2 : goal.bounds-out-from-2
bounds-out-from-2 c = simp length-set (omega arith)

pub bounds-out-from-3 : goal.bounds-out-from-3
bounds-out-from-3 c = simp length-set (omega arith)

pub bounds-out-from-4 : goal.bounds-out-from-4
bounds-out-from-4 c = simp length-set (omega arith)

pub bounds-out-from-5 : goal.bounds-out-from-5
bounds-out-from-5 c = simp length-set (omega arith)

pub returns : goal.returns
returns c = rw (first_text, ← c.level_digit.ensures) (wrote_five _ _ 98 _ 32 _ 10)
