-- `listing_lines::at_word` meets its contract.
-- Assumes nothing.
use Rattle.listing_lines.proofs.at_word.Goals as goal

pub returns-in-Blank : goal.returns-in-Blank
returns-in-Blank c = simp (c.word_end.ensures, c.in-Blank.is)

pub returns-in-Digit : goal.returns-in-Digit
returns-in-Digit c = simp (c.grown.ensures, c.in-Digit.is)
