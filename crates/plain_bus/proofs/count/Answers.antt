-- `plain_bus::count` meets its contract. The loop's invariant: those counted and those of the places left are all.
-- Assumes nothing.
use mathlib.Core.Path.{sym, ◌∙◌}
use native.Mathlib.Omega.{arith}
use Rattle.plain_bus.proofs.Places.{count_first, count_more, count_last_lem, count_within, count_none}
use Rattle.plain_bus.proofs.count.Goals as goal

pub loop-i-init : goal.loop-i-init
loop-i-init c = (omega arith, count_first _ _)

pub counted-n-requires : goal.counted-n-requires
counted-n-requires c = omega arith

pub returns-then-ends : goal.returns-then-ends
returns-then-ends c = count_last_lem _ _ c.loop-i.i c.loop-i.n _ _ c.loop-i-test.true c.transfer_at-t.ensures c.counted-n.ensures c.loop-i.invariant.1
    (sym c.ends.ensures ∙ c.if-ends.true)

pub loop-i-preserved : goal.loop-i-preserved
loop-i-preserved c =
    let t = c.transfer_at-t.ensures in
    let n = c.counted-n.ensures in (
      count_within _ _ c.loop-i.i c.loop-i.n _ _ c.loop-i-test.true t n c.loop-i.invariant.1 c.loop-i.invariant.0,
      count_more _ _ c.loop-i.i c.loop-i.n _ _ c.loop-i-test.true t n c.loop-i.invariant.1 (sym c.ends.ensures ∙ c.if-ends.false),
    )

pub returns : goal.returns
returns c = count_none _ _ c.loop-i.i _ c.loop-i-test.false c.loop-i.invariant.1
