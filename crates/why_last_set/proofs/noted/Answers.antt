-- `why_last_set::noted` meets its contract.
-- Assumes nothing.
use mathlib.Core.Path.{sym}
use Rattle.why_last_set.proofs.Unchanged.{unchanged}
use Rattle.why_last_set.proofs.noted.Goals as goal

pub returns-then-irqx-after : goal.returns-then-irqx-after
returns-then-irqx-after c = sym (unchanged _ _ _ _ _ c.if-irqx-after.true)
