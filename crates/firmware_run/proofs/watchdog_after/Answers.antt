use borrow.Author.Tests.{eq-eqb, ne_eqb}
use Rattle.cpu_register_cache.specs.Cache.{watchdog_after}
use Rattle.firmware_run.proofs.watchdog_after.Goals as goal

pub returns-then-b-eq85 : goal.returns-then-b-eq85
unfolding watchdog_after
returns-then-b-eq85 c = simp (eq-eqb _ _ c.if-b-eq85.true)

pub returns-else-b-eq85 : goal.returns-else-b-eq85
unfolding watchdog_after
returns-else-b-eq85 c = simp (ne_eqb _ _ c.if-b-eq85.false)
