-- `vcd_codes::with_entry` meets its contract.
-- Assumes nothing.
use Rattle.vcd_codes.specs.Codes.{found_after}
use Rattle.vcd_codes.proofs.Finding.{meant_joined}
use native.Mathlib.Omega.{arith}
use Rattle.vcd_codes.proofs.with_entry.Goals as goal

pub returns-then-is_code : goal.returns-then-is_code
unfolding found_after
returns-then-is_code c = rw (c.joined.ensures, meant_joined c.args.list c.from.result (omega arith), c.from.ensures, c.pin_at.ensures) (simp (← c.is_code.ensures, c.if-is_code.true))

pub returns : goal.returns
unfolding found_after
returns c = simp (← c.is_code.ensures, c.if-is_code.false)
