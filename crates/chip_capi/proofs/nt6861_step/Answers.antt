-- `chip_capi::nt6861_step` meets its contract.
-- Assumes nothing.
use Rattle.chip_capi.proofs.nt6861_step.Goals as goal

pub returns : goal.returns
returns c = c.step.ensures
