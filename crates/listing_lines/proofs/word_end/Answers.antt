-- `listing_lines::word_end` meets its contract.
-- Assumes nothing.
use borrow.Author.Tests.{eq-eqb, ne_eqb}
use Rattle.listing_lines.specs.Line.{word_end}
use borrow.Author.Rules.{rules}
use Rattle.listing_lines.proofs.word_end.Goals as goal

pub reader_at-requires : goal.reader_at-requires
unfolding word_end
reader_at-requires c = search rules

pub returns-then-r-eq8 : goal.returns-then-r-eq8
unfolding word_end
returns-then-r-eq8 c = simp (c.reader_at.ensures, eq-eqb _ _ c.if-r-eq8.true)

pub returns-else-r-eq8 : goal.returns-else-r-eq8
unfolding word_end
returns-else-r-eq8 c = simp (ne_eqb _ _ c.if-r-eq8.false)
