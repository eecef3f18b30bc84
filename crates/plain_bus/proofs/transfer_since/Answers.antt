-- `plain_bus::transfer_since` meets its contract. The loop's invariant: what was taken, followed by the rises left, is the whole.
-- Assumes nothing.
use mathlib.Core.Path.{sym, ◌∙◌}
use Rattle.plain_bus.proofs.Transfers.{at_first, at_end_lem, at_start_lem, at_stop, at_other}
use Rattle.plain_bus.proofs.transfer_since.Goals as goal

pub loop-i-init : goal.loop-i-init
loop-i-init c = at_first _ _

pub returns-then-is_start : goal.returns-then-is_start
returns-then-is_start c = sym (c.loop-i.invariant ∙ at_start_lem _ c.loop-i.i _ c.loop-i-test.true (sym c.is_start.ensures ∙ c.if-is_start.true))

pub returns-then-is_stop : goal.returns-then-is_stop
returns-then-is_stop c = sym (c.loop-i.invariant ∙ at_stop _ c.loop-i.i _ c.loop-i-test.true (sym c.is_stop.ensures ∙ c.if-is_stop.true))

pub loop-i-preserved : goal.loop-i-preserved
loop-i-preserved c = c.loop-i.invariant
    ∙ at_other _ c.loop-i.i _ _ c.loop-i-test.true (sym c.is_start.ensures ∙ c.if-is_start.false)
    (sym c.is_stop.ensures ∙ c.if-is_stop.false) c.taken-t.ensures

pub returns : goal.returns
returns c = sym (c.loop-i.invariant ∙ at_end_lem _ c.loop-i.i _ c.loop-i-test.false)
