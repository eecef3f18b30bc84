-- `chip_capi::nt6861_hold` meets its contract.
-- Assumes nothing.
use Rattle.chip_capi.proofs.nt6861_hold.Goals as goal

pub returns : goal.returns
returns c = c.hold.ensures
