-- `state_bytes::core_of` meets its contract.
-- Assumes nothing.
use Rattle.state_bytes.proofs.core_of.Goals as goal

pub returns : goal.returns
returns c = simp (c.bus_of.ensures, c.sync_of.ensures)
