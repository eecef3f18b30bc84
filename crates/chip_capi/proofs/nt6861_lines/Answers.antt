-- `chip_capi::nt6861_lines` meets its contract.
-- Assumes nothing.
use Rattle.chip_capi.proofs.nt6861_lines.Goals as goal

pub returns : goal.returns
returns c = c.lines.ensures
