-- `firmware_capi::keep_chip` meets its contract.
-- Assumes nothing.
use mathlib.Core.Path.{◌∙◌}
use Rattle.firmware_capi.proofs.Calls.{put_sized}
use Rattle.firmware_capi.proofs.keep_chip.Goals as goal

pub returns : goal.returns
returns c = c.put.ensures ∙ put_sized _ _ c.requires
