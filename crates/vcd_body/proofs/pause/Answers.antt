-- `vcd_body::pause` meets its contract.
-- Assumes nothing.
use mathlib.Core.Path.{refl}
use Rattle.vcd_body.proofs.pause.Goals as goal

pub returns : goal.returns
returns c = refl
