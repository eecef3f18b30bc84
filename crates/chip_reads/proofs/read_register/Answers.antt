-- `chip_reads::read_register` meets its contract.
-- Assumes nothing.
use borrow.Author.Rules.{rules}
use Rattle.registers.proofs.Rules.{row_readable, row_read}
use Rattle.chip_reads.specs.Reads.{reading}
use Rattle.chip_reads.proofs.read_register.Goals as goal

pub returns-then-row : goal.returns-then-row
unfolding reading
returns-then-row c = simp (c.reading_of.ensures, c.shown.ensures, ← (row_read _ c.row_of-row.ensures), ← (row_readable _ c.row_of-row.ensures), c.if-row.true, c.if-c.true)

pub returns-else-row : goal.returns-else-row
unfolding reading
returns-else-row c = simp (c.reading_of-else-row.ensures, ← (row_readable _ c.row_of-row.ensures), c.if-row.false, c.if-c.true)
