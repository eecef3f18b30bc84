-- `listing_lines::at_start` meets its contract.
-- Assumes nothing.
use Rattle.listing_lines.proofs.at_start.Goals as goal

pub returns-in-Newline : goal.returns-in-Newline
returns-in-Newline c = simp (c.reader_at.ensures, c.in-Newline.is)

pub returns-in-Blank : goal.returns-in-Blank
returns-in-Blank c = simp (c.reader_at-in-Blank.ensures, c.in-Blank.is)

pub returns-in-Hash : goal.returns-in-Hash
returns-in-Hash c = simp (c.reader_at-in-Hash.ensures, c.in-Hash.is)

pub returns-in-Digit : goal.returns-in-Digit
returns-in-Digit c = simp (c.begun.ensures, c.in-Digit.is)
