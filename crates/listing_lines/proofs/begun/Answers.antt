-- `listing_lines::begun` meets its contract.
-- Assumes nothing.
use Rattle.listing_lines.proofs.begun.Goals as goal

pub returns : goal.returns
returns c = simp c.counted.ensures
