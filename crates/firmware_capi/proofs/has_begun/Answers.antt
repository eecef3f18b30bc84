-- `firmware_capi::has_begun` meets its contract.
-- Assumes nothing.
use Rattle.firmware_capi.specs.Call.{has_begun}
use borrow.Author.Tests.{eq-eqb, ne_eqb}
use Rattle.firmware_capi.proofs.has_begun.Goals as goal

pub returns-then-number-eq8 : goal.returns-then-number-eq8
unfolding has_begun
returns-then-number-eq8 c = simp (eq-eqb _ _ c.if-number-eq8.true)

pub returns-then-number-eq22 : goal.returns-then-number-eq22
unfolding has_begun
returns-then-number-eq22 c = simp (eq-eqb _ _ c.if-number-eq22.true, ne_eqb _ _ c.if-number-eq8.false)

pub returns-then-number-eq7 : goal.returns-then-number-eq7
unfolding has_begun
returns-then-number-eq7 c = simp (eq-eqb _ _ c.if-number-eq7.true, ne_eqb _ _ c.if-number-eq22.false, ne_eqb _ _ c.if-number-eq8.false)

pub returns-else-number-eq7 : goal.returns-else-number-eq7
unfolding has_begun
returns-else-number-eq7 c = simp (ne_eqb _ _ c.if-number-eq7.false, ne_eqb _ _ c.if-number-eq22.false, ne_eqb _ _ c.if-number-eq8.false)
