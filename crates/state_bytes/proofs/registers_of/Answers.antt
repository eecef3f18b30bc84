-- `state_bytes::registers_of` meets its contract.
-- Assumes nothing.
use mathlib.Core.Path.{◌∙◌}
use native.Mathlib.Omega.{arith}
use Rattle.state_bytes.proofs.Laid.{end_copied}
use Rattle.state_bytes.proofs.registers_of.Goals as goal

pub returns : goal.returns
returns c = (c.copy.ensures.fits (omega arith)).1 ∙ end_copied c.args.area.now _ 90 (omega arith) (omega arith)
