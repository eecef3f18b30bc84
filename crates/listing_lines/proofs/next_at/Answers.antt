-- `listing_lines::next_at` meets its contract.
-- Assumes nothing.
use Rattle.listing_lines.proofs.next_at.Goals as goal

pub returns-in-Start : goal.returns-in-Start
returns-in-Start c = simp (c.at_start.ensures, c.in-Start.is)

pub returns-in-Remark : goal.returns-in-Remark
returns-in-Remark c = simp (c.at_remark.ensures, c.in-Remark.is)

pub returns-in-First : goal.returns-in-First
returns-in-First c = simp (c.at_first.ensures, c.in-First.is)

pub returns-in-Repeated : goal.returns-in-Repeated
returns-in-Repeated c = simp (c.at_repeated.ensures, c.in-Repeated.is)

pub returns-in-Word : goal.returns-in-Word
returns-in-Word c = simp (c.at_word.ensures, c.in-Word.is)

pub returns-in-Gap : goal.returns-in-Gap
returns-in-Gap c = simp (c.at_gap.ensures, c.in-Gap.is)

pub returns-in-Answer : goal.returns-in-Answer
returns-in-Answer c = simp (c.at_answer.ensures, c.in-Answer.is)

pub returns-in-Rest : goal.returns-in-Rest
returns-in-Rest c = simp (c.at_rest.ensures, c.in-Rest.is)
