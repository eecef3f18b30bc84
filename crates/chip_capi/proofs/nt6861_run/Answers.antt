-- `chip_capi::nt6861_run` meets its contract.
-- Assumes nothing.
use Rattle.chip_capi.proofs.nt6861_run.Goals as goal

pub returns : goal.returns
returns c = c.run.ensures
