-- `registers::row_of` meets its contract: the constant is the table, packed, and past its end stands the row of no register.
-- Assumes nothing.
use mathlib.Core.Path.{sym, ap, ◌∙◌}
use Rattle.registers.specs.Table.{row_of, table}
use Rattle.registers.proofs.Rules.{row_unpacked, row_past}
use Rattle.registers.proofs.row_of.Goals as goal

pub returns-then-i-lt38 : goal.returns-then-i-lt38
unfolding table
returns-then-i-lt38 c = c.unpacked.ensures ∙ row_unpacked c.from-i.result ∙ ap row_of c.from-i.ensures

pub returns-else-i-lt38 : goal.returns-else-i-lt38
returns-else-i-lt38 c = c.unpacked-else-i-lt38.ensures ∙ sym (row_past c.from-i.result c.if-i-lt38.false) ∙ ap row_of c.from-i.ensures
