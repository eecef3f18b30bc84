-- `firmware_print::trace_on` meets its contract.
-- Assumes nothing.
use Rattle.firmware_print.proofs.Tracing.{begin, finish, stop, again}
use Rattle.firmware_print.proofs.trace_on.Goals as goal

pub loop-init : goal.loop-init
loop-init g c = begin _ _ _ _

pub returns-then-not-is_followed : goal.returns-then-not-is_followed
returns-then-not-is_followed g c =
    stop _ _ _ _ _ _ _ c.loop.invariant c.loop-test.true _ c.run_on-run.ensures.0 _ c.run_on-run.ensures.1 _ _ c.is_followed.ensures c.if-not-is_followed.true

pub loop-preserved : goal.loop-preserved
loop-preserved g c =
    again _ _ _ _ _ _ _ c.loop.invariant c.loop-test.true _ c.run_on-run.ensures.0 _ c.run_on-run.ensures.1 _ _ c.is_followed.ensures c.if-not-is_followed.false

pub returns : goal.returns
returns g c = finish _ _ _ _ _ _ _ c.loop.invariant c.loop-test.false
