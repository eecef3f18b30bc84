-- `listing_lines::entry_end` meets its contract.
-- Assumes nothing.
use borrow.Author.Tests.{eq-eqb, ne_eqb}
use Rattle.listing_lines.specs.Line.{entry_end}
use Rattle.listing_lines.proofs.entry_end.Goals as goal

pub returns-then-r-eq8 : goal.returns-then-r-eq8
unfolding entry_end
returns-then-r-eq8 c = simp (eq-eqb _ _ c.if-r-eq8.true)

pub returns-else-r-eq8 : goal.returns-else-r-eq8
unfolding entry_end
returns-else-r-eq8 c = simp (ne_eqb _ _ c.if-r-eq8.false)
