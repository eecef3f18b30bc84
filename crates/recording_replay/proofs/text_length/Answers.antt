-- `recording_replay::text_length` meets its contract.
-- Assumes nothing.
use mathlib.Core.Path.{ap}
use native.Mathlib.Omega.{arith}
use lib.ListN.{length}
use Rattle.recording_replay.proofs.Replaying.{no_last, one_last}
use Rattle.recording_replay.proofs.text_length.Goals as goal

pub returns-then-number-eq0 : goal.returns-then-number-eq0
returns-then-number-eq0 c = omega (arith, ap length (no_last c.args.number c.if-number-eq0.true))

pub returns-else-number-eq0 : goal.returns-else-number-eq0
returns-else-number-eq0 c = omega (arith, ap length (one_last c.args.number c.if-number-eq0.false))
