-- `listing_lines::count_end` meets its contract.
-- Assumes nothing.
use borrow.Author.Tests.{lt-ltb, le-ltb, eq-eqb, ne_eqb}
use Rattle.listing_lines.specs.Line.{count_end}
use borrow.Author.Rules.{rules}
use Rattle.listing_lines.proofs.count_end.Goals as goal

pub returns-then-r-eq0 : goal.returns-then-r-eq0
unfolding count_end
returns-then-r-eq0 c = simp (eq-eqb _ _ c.if-r-eq0.true)

pub reader_at-requires : goal.reader_at-requires
unfolding count_end
reader_at-requires c = search rules

pub returns-then-r-lt100000 : goal.returns-then-r-lt100000
unfolding count_end
returns-then-r-lt100000 c = simp (c.reader_at.ensures, lt-ltb _ _ c.if-r-lt100000.true, lt-ltb _ _ c.if-r-lt6.true, ne_eqb _ _ c.if-r-eq0.false)

pub returns-else-r-lt100000 : goal.returns-else-r-lt100000
unfolding count_end
returns-else-r-lt100000 c = simp (le-ltb _ _ c.if-r-lt100000.false, lt-ltb _ _ c.if-r-lt6.true, ne_eqb _ _ c.if-r-eq0.false)

pub returns-else-r-lt6 : goal.returns-else-r-lt6
unfolding count_end
returns-else-r-lt6 c = simp (le-ltb _ _ c.if-r-lt6.false, ne_eqb _ _ c.if-r-eq0.false)
