-- `registers::resets` meets its contract: the loop fills the array with the reset values.
-- Assumes nothing.
use mathlib.Core.Path.{◌≡◌, refl, sym, ◌∙◌}
use native.Mathlib.Omega.{arith}
use Rattle.registers.specs.Table.{resets}
use Rattle.registers.proofs.Filled.{filled_none, filled_more, filled_all}
use Rattle.registers.proofs.Rules.{resets_length, resets_at}
use Rattle.registers.proofs.resets.Goals as goal

pub loop-i-init : goal.loop-i-init
loop-i-init c = filled_none resets 38 _ refl resets_length

pub loop-i-preserved : goal.loop-i-preserved
loop-i-preserved c =
    let l = c.loop-i in
    rw c.from.ensures
    (filled_more resets 38 l.registers l.i _ l.invariant (omega arith) (c.reset_value.ensures ∙ sym (resets_at l.i)))

pub returns : goal.returns
returns c =
    let l = c.loop-i in
    let end : l.i ≡ 38 = omega (arith, l.invariant.bound) in
    filled_all resets 38 l.registers (rw end at l.invariant)
