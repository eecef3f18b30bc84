-- `vcd_body::Reader::run_tokens` meets its contract.
-- Assumes nothing.
use mathlib.Core.Path.{refl, ◌∙◌}
use native.Mathlib.Omega.{arith}
use Rattle.vcd_body.proofs.Running.{leads_nowhere, leads_on}
use Rattle.vcd_body.proofs.Reader.run_tokens.Goals as goal

pub loop-run-init : goal.loop-run-init
loop-run-init c = (refl, leads_nowhere _ _ _ _ _)

pub run_token-next-requires : goal.run_token-next-requires
run_token-next-requires c = record { tables = c.requires.tables; scale_nonzero = c.requires.scale_nonzero; at_in_bounds = omega (arith, c.loop-run-test.true) }

pub returns-then-next-run : goal.returns-then-next-run
returns-then-next-run c = leads_on _ _ _ _ _ _ _ _ _ c.loop-run.invariant.1 c.run_token-next.ensures

pub loop-run-smaller : goal.loop-run-smaller
loop-run-smaller c = omega (arith, c.run_token-next.ensures.onward, c.if-next-run.false, c.loop-run-test.true)

pub loop-run-preserved : goal.loop-run-preserved
loop-run-preserved c = (c.run_token-next.auto.out ∙ c.loop-run.invariant.0, leads_on _ _ _ _ _ _ _ _ _ c.loop-run.invariant.1 c.run_token-next.ensures)

pub returns : goal.returns
returns c = c.loop-run.invariant.1
