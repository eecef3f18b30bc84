-- `firmware_capi::are_sized` meets its contract.
-- Assumes nothing.
use Rattle.firmware_capi.specs.Call.{are_sized}
use borrow.Author.Tests.{eq-eqb, ne_eqb}
use Rattle.firmware_capi.proofs.are_sized.Goals as goal

pub returns-then-counts-eq2 : goal.returns-then-counts-eq2
unfolding are_sized
returns-then-counts-eq2 c = simp (eq-eqb _ _ c.if-counts-eq2.true, eq-eqb _ _ c.if-area-eq128.true, eq-eqb _ _ c.if-ram-eq256.true, eq-eqb _ _ c.if-cpu-eq8.true)

pub returns-else-counts-eq2 : goal.returns-else-counts-eq2
unfolding are_sized
returns-else-counts-eq2 c = simp (ne_eqb _ _ c.if-counts-eq2.false, eq-eqb _ _ c.if-area-eq128.true, eq-eqb _ _ c.if-ram-eq256.true, eq-eqb _ _ c.if-cpu-eq8.true)

pub returns-else-area-eq128 : goal.returns-else-area-eq128
unfolding are_sized
returns-else-area-eq128 c = simp (ne_eqb _ _ c.if-area-eq128.false, eq-eqb _ _ c.if-ram-eq256.true, eq-eqb _ _ c.if-cpu-eq8.true)

pub returns-else-ram-eq256 : goal.returns-else-ram-eq256
unfolding are_sized
returns-else-ram-eq256 c = simp (ne_eqb _ _ c.if-ram-eq256.false, eq-eqb _ _ c.if-cpu-eq8.true)

pub returns-else-cpu-eq8 : goal.returns-else-cpu-eq8
unfolding are_sized
returns-else-cpu-eq8 c = simp (ne_eqb _ _ c.if-cpu-eq8.false)
