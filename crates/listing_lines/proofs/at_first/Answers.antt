-- `listing_lines::at_first` meets its contract.
-- Assumes nothing.
use Rattle.listing_lines.proofs.at_first.Goals as goal

pub returns-in-Blank : goal.returns-in-Blank
returns-in-Blank c = simp (c.word_end.ensures, c.in-Blank.is)

pub returns-in-Star : goal.returns-in-Star
returns-in-Star c = simp (c.count_end.ensures, c.in-Star.is)

pub returns-in-Digit : goal.returns-in-Digit
returns-in-Digit c = simp (c.grown.ensures, c.in-Digit.is)
