-- `listing_lines::answer_end` meets its contract.
-- Assumes nothing.
use borrow.Author.Tests.{eq-eqb, ne_eqb}
use Rattle.listing_lines.specs.Line.{answer_end}
use borrow.Author.Rules.{rules}
use Rattle.listing_lines.proofs.answer_end.Goals as goal

pub commented-requires : goal.commented-requires
unfolding answer_end
commented-requires c = search rules

pub returns-then-r-eq8 : goal.returns-then-r-eq8
unfolding answer_end
returns-then-r-eq8 c = simp (c.commented.ensures, eq-eqb _ _ c.if-r-eq8.true)

pub returns-else-r-eq8 : goal.returns-else-r-eq8
unfolding answer_end
returns-else-r-eq8 c = simp (ne_eqb _ _ c.if-r-eq8.false)
