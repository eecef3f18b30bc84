-- `firmware_print::proceed` meets its contract.
-- Assumes nothing.
use mathlib.Core.Path.{refl, sym, ◌∙◌}
use native.Mathlib.Omega.{arith}
use Rattle.firmware_print.proofs.Stops.{goes_below}
use Rattle.firmware_print.proofs.proceed.Goals as goal

pub overflow_sub-to : goal.overflow_sub-to
overflow_sub-to g c = omega (arith, goes_below _ _ _ _ (sym c.goes_on.ensures ∙ c.if-goes_on.true))

pub overflow_sub-to-else-traced : goal.overflow_sub-to-else-traced
overflow_sub-to-else-traced g c = omega (arith, goes_below _ _ _ _ (sym c.goes_on.ensures ∙ c.if-goes_on.true))

pub returns-then-traced : goal.returns-then-traced
returns-then-traced g c = rw (← c.goes_on.ensures, c.if-goes_on.true, c.if-traced.true) c.trace_on.ensures

pub returns-else-traced : goal.returns-else-traced
returns-else-traced g c = rw (← c.goes_on.ensures, c.if-goes_on.true, c.if-traced.false) c.run_on.ensures

pub returns-else-goes_on : goal.returns-else-goes_on
returns-else-goes_on g c = rw (← c.goes_on.ensures, c.if-goes_on.false) (refl, refl)
