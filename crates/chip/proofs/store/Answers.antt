-- `chip::store` meets its contract.
-- Assumes nothing.
use mathlib.Core.Path.{sym}
use lib.Seq.{set_out}
use Rattle.chip.proofs.store.Goals as goal

pub returns-else-i-registers : goal.returns-else-i-registers
returns-else-i-registers c = sym (set_out c.args.registers.now c.args.a c.args.b c.if-i-registers.false)
