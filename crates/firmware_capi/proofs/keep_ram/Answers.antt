-- `firmware_capi::keep_ram` meets its contract.
-- Assumes nothing.
use mathlib.Core.Path.{◌∙◌}
use native.Mathlib.Omega.{arith}
use Rattle.state_area.proofs.Accepted.{copied_over}
use Rattle.firmware_capi.proofs.keep_ram.Goals as goal

pub returns : goal.returns
returns c = (c.copy.ensures.fits (omega arith)).1 ∙ copied_over _ _ (omega arith)
