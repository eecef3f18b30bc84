-- `chip_writes::write_number` meets its contract.
-- Assumes nothing.
use borrow.Author.Rules.{rules}
use Rattle.registers.proofs.Rules.{row_writable}
use Rattle.chip_writes.specs.Writes.{write_number}
use Rattle.chip_writes.proofs.write_number.Goals as goal

pub returns-then-row : goal.returns-then-row
unfolding write_number
returns-then-row c = simp (← (row_writable _ c.row_of-row.ensures), c.if-row.true, c.if-reset.true)

pub returns-else-row : goal.returns-else-row
unfolding write_number
returns-else-row c = simp (← (row_writable _ c.row_of-row.ensures), c.if-row.false, c.if-reset.true)
