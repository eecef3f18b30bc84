-- `listing_lines::at_answer` meets its contract.
-- Assumes nothing.
use Rattle.listing_lines.proofs.at_answer.Goals as goal

pub returns-in-Newline : goal.returns-in-Newline
returns-in-Newline c = simp (c.entry_end.ensures, c.in-Newline.is)

pub returns-in-Blank : goal.returns-in-Blank
returns-in-Blank c = simp (c.answer_end.ensures, c.in-Blank.is)

pub returns-in-Digit : goal.returns-in-Digit
returns-in-Digit c = simp (c.grown.ensures, c.in-Digit.is)
