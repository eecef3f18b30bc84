-- `vcd::too_many` meets its contract.
-- Assumes nothing.
use mathlib.Core.Path.{refl}
use Rattle.vcd.proofs.too_many.Goals as goal

pub returns : goal.returns
returns c = refl
