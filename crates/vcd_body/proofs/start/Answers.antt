-- `vcd_body::start` meets its contract.
-- Assumes nothing.
use mathlib.Core.Path.{refl}
use Rattle.vcd_body.proofs.start.Goals as goal

pub returns : goal.returns
returns c = refl
