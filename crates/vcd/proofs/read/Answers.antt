-- `vcd::read` meets its contract.
-- Assumes nothing.
use mathlib.Core.Path.{refl, ◌∙◌}
use Rattle.vcd.proofs.read.Goals as goal

pub returns : goal.returns
returns c = c.read_more.ensures ∙ rw c.start.ensures refl
