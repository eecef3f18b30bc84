-- `chip_lines::scl_pulled` meets its contract.
-- Assumes nothing.
use Rattle.chip_lines.specs.Lines.{scl_pulled_at}
use Rattle.chip_lines.proofs.scl_pulled.Goals as goal

pub returns-then-bit : goal.returns-then-bit
unfolding scl_pulled_at
returns-then-bit c = simp (c.bit-then-bit.ensures, ← c.bit.ensures, c.if-bit.true)

pub returns-else-bit : goal.returns-else-bit
unfolding scl_pulled_at
returns-else-bit c = simp (c.scl_pulled.ensures, c.active_mode.ensures, ← c.bit.ensures, c.if-bit.false)
