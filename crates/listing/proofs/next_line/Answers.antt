-- `listing::next_line` meets its contract.
-- Assumes nothing.
use Rattle.listing.proofs.next_line.Goals as goal

pub returns : goal.returns
returns c = simp (c.one_more.ensures, c.line_start.ensures)
