-- `chip_well_formed::reserved` meets its contract. The loop's invariant: the test holds at each place passed.
-- Assumes nothing.
use mathlib.Core.Path.{◌≡◌, sym, ◌∙◌}
use native.Mathlib.Omega.{arith}
use borrow.Author.Tests.{eq-eqb, ne_eqb}
use Rattle.bits.proofs.Finite.{all_more, all_false}
use Rattle.chip_well_formed.specs.WellFormed.{reserved_at}
use Rattle.chip_well_formed.proofs.Places.{masks, values, at_place_lem}
use Rattle.chip_well_formed.proofs.reserved.Goals as goal

pub loop-i-preserved : goal.loop-i-preserved
unfolding masks values
loop-i-preserved c =
    let l = c.loop-i in
    all_more _ l.i l.invariant (at_place_lem _ l.i (omega arith) ∙ eq-eqb _ _ c.if-registers-i.false)

pub returns-then-registers-i : goal.returns-then-registers-i
unfolding masks values
returns-then-registers-i c =
    let l = c.loop-i in
    sym (all_false (reserved_at _) 38 l.i (omega arith) (at_place_lem _ l.i (omega arith) ∙ ne_eqb _ _ c.if-registers-i.true))

pub returns : goal.returns
returns c =
    let l = c.loop-i in
    let end : l.i ≡ 38 = omega arith in
    sym (rw end at l.invariant)
