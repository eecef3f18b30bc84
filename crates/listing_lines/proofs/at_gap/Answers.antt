-- `listing_lines::at_gap` meets its contract.
-- Assumes nothing.
use Rattle.listing_lines.proofs.at_gap.Goals as goal

pub returns-in-Blank : goal.returns-in-Blank
returns-in-Blank c = simp (c.reader_at.ensures, c.in-Blank.is)

pub returns-in-Digit : goal.returns-in-Digit
returns-in-Digit c = simp (c.begun.ensures, c.in-Digit.is)
