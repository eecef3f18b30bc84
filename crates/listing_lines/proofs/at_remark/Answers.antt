-- `listing_lines::at_remark` meets its contract.
-- Assumes nothing.
use Rattle.listing_lines.proofs.at_remark.Goals as goal

pub returns-in-Newline : goal.returns-in-Newline
returns-in-Newline c = simp (c.reader_at.ensures, c.in-Newline.is)

pub returns-in-Blank : goal.returns-in-Blank
returns-in-Blank c = simp (c.reader_at-in-Blank.ensures, c.in-Blank.is)

pub returns-in-Star : goal.returns-in-Star
returns-in-Star c = simp (c.reader_at-in-Star.ensures, c.in-Star.is)

pub returns-in-Hash : goal.returns-in-Hash
returns-in-Hash c = simp (c.reader_at-in-Hash.ensures, c.in-Hash.is)

pub returns-in-Digit : goal.returns-in-Digit
returns-in-Digit c = simp (c.reader_at-in-Digit.ensures, c.in-Digit.is)

pub returns-in-Other : goal.returns-in-Other
returns-in-Other c = simp (c.reader_at-in-Other.ensures, c.in-Other.is)
