-- `chip_capi::nt6861_fresh` meets its contract.
-- Assumes nothing.
use Rattle.chip_capi.proofs.nt6861_fresh.Goals as goal

pub returns : goal.returns
returns c = c.fresh.ensures
