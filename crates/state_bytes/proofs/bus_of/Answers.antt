-- `state_bytes::bus_of` meets its contract.
-- Assumes nothing.
use Rattle.state_bytes.proofs.bus_of.Goals as goal

pub returns : goal.returns
returns c = simp (c.phase_of.ensures, c.word.ensures)
