-- `wave_run::begin` meets its contract.
-- Assumes nothing.
use Rattle.wave_run.proofs.begin.Goals as goal

pub returns : goal.returns
returns c = rw (c.pins.ensures, c.watch.ensures) at c.begin.ensures
