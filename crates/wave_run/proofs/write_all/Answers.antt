-- `wave_run::write_all` meets its contract.
-- Assumes nothing.
use Prim.Native.Nat.{◌-◌}
use native.Mathlib.Omega.{arith}
use Rattle.wave_run.proofs.Blocks.{begun, more, all}
use Rattle.wave_run.proofs.write_all.Goals as goal

pub loop-word-init : goal.loop-word-init
loop-word-init c = begun _ _ _

pub loop-word-preserved : goal.loop-word-preserved
loop-word-preserved c =
    let done = c.advance_word-done.ensures in
    more c.loop-word.invariant (omega arith) c.requires _ done.0 _ done.1 _ c.watch_core-watch.ensures _ _ c.write_event-put.ensures

pub shape_of-out : goal.shape_of-out
shape_of-out c = c.loop-word.invariant.size

pub returns : goal.returns
returns c = all c.loop-word.invariant (omega arith)
