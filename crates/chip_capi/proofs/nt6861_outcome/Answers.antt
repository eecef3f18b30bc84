-- `chip_capi::nt6861_outcome` meets its contract.
-- Assumes nothing.
use Rattle.chip_capi.proofs.nt6861_outcome.Goals as goal

pub returns : goal.returns
returns c = c.called_by.ensures
