-- `wave_run::start` meets its contract.
-- Assumes nothing.
use mathlib.Core.Path.{refl}
use Rattle.wave_run.specs.Run.{start}
use Rattle.wave_run.proofs.start.Goals as goal

pub returns : goal.returns
unfolding start
returns c = rw c.watch.ensures refl
