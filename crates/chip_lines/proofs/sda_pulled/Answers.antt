-- `chip_lines::sda_pulled` meets its contract.
-- Assumes nothing.
use Rattle.chip_lines.specs.Lines.{sda_pulled_at}
use Rattle.chip_lines.proofs.sda_pulled.Goals as goal

pub returns-then-bit : goal.returns-then-bit
unfolding sda_pulled_at
returns-then-bit c = simp (c.bit-then-bit.ensures, ← c.bit.ensures, c.if-bit.true)

pub returns-else-bit : goal.returns-else-bit
unfolding sda_pulled_at
returns-else-bit c = simp (c.sda_pulled.ensures, c.active_mode.ensures, ← c.bit.ensures, c.if-bit.false)
