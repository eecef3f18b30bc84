-- `vcd::free_pin` meets its contract.
-- Assumes nothing.
use Rattle.vcd.proofs.free_pin.Goals as goal

pub returns-then-is_taken : goal.returns-then-is_taken
returns-then-is_taken c = λ text places. simp (← (c.is_taken.ensures text places), c.if-is_taken.true)

pub returns : goal.returns
returns c = λ text places. simp (← (c.is_taken.ensures text places), c.if-is_taken.false)
