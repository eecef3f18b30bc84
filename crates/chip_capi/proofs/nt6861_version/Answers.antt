-- `chip_capi::nt6861_version` meets its contract.
-- Assumes nothing.
use mathlib.Core.Path.{refl}
use Rattle.chip_capi.proofs.nt6861_version.Goals as goal

pub returns : goal.returns
returns c = refl
