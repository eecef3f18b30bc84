-- `chip_capi::nt6861_replay` meets its contract.
-- Assumes nothing.
use mathlib.Core.Path.{ap}
use Rattle.list_call.specs.declared.RunResult.{RunResult}
use Rattle.chip_capi.proofs.nt6861_replay.Goals as goal

pub returns : goal.returns
returns c = simp (← c.fresh.ensures) (ap (λ (r : RunResult). r.number) c.run-done.ensures.0, c.run-done.ensures.1)
