-- `vcd_output::rest_of_pins` meets its contract.
-- Assumes nothing.
use lib.ListN.{length-set}
use Rattle.vcd_output.proofs.Writing.{pin_more, pin_full, pin_none, pin_end}
use mathlib.Core.Path.{refl, ◌∙◌}
use borrow.Author.Rules.{rules}
use Rattle.vcd_output.proofs.rest_of_pins.Goals as goal

pub loop-given-init : goal.loop-given-init
loop-given-init c = (refl, refl)

pub returns-then-pin-eq0 : goal.returns-then-pin-eq0
returns-then-pin-eq0 c = pin_none _ _ c.loop-given.given _ _ (search rules) c.if-pin-eq0.true ∙ c.loop-given.invariant.1

pub loop-given-preserved : goal.loop-given-preserved
loop-given-preserved c = (simp length-set c.loop-given.invariant.0, rw c.pin_word.ensures (pin_more c.loop-given.rest _ c.loop-given.given c.loop-given.count c.loop-given.out (search rules) c.if-pin-eq0.false (search rules) ∙ c.loop-given.invariant.1))

pub returns-else-count-out : goal.returns-else-count-out
returns-else-count-out c = pin_full _ _ c.loop-given.given _ _ (search rules) c.if-pin-eq0.false (search rules) ∙ c.loop-given.invariant.1

pub returns : goal.returns
returns c = pin_end _ _ c.loop-given.given _ _ (search rules) ∙ c.loop-given.invariant.1
