-- `plain_bus::word` meets its contract.
-- Assumes nothing.
use Rattle.plain_bus.proofs.word.Goals as goal

pub returns : goal.returns
returns c = simp (c.outcome_number.ensures, c.compared.ensures)
