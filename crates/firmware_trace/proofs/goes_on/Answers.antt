-- `firmware_trace::goes_on` meets its contract.
-- Assumes nothing.
use Rattle.std.proofs.Common.{refl}
use Rattle.firmware_trace.specs.Trace.{goes_on}
use Rattle.firmware_trace.proofs.goes_on.Goals as goal

pub returns : goal.returns
unfolding goes_on
returns c = refl
