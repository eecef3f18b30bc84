-- `chip_capi::nt6861_rate` meets its contract.
-- Assumes nothing.
use Rattle.chip_capi.proofs.nt6861_rate.Goals as goal

pub returns : goal.returns
returns c = c.rate.ensures
