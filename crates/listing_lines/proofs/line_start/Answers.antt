-- `listing_lines::line_start` meets its contract.
-- Assumes nothing.
use Rattle.listing_lines.proofs.line_start.Goals as goal

pub returns : goal.returns
returns c = simp c.reader_at.ensures
