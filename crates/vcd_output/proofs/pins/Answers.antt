-- `vcd_output::pins` meets its contract.
-- Assumes nothing.
use Rattle.vcd_output.proofs.Writing.{none_left}
use mathlib.Core.Path.{◌∙◌}
use Rattle.vcd_output.proofs.pins.Goals as goal

pub returns-then-done-gt4 : goal.returns-then-done-gt4
returns-then-done-gt4 c = none_left _ _ _ _ _ c.if-done-gt4.true

pub returns : goal.returns
returns c = c.rest_of_pins.ensures ∙ rw (c.passed.ensures c.args.high)
