-- `firmware_trace::power_up` meets its contract.
-- Assumes nothing.
use Rattle.std.proofs.Common.{ap₂}
use Rattle.firmware_trace.specs.Trace.{started}
use Rattle.firmware_trace.proofs.power_up.Goals as goal

pub returns : goal.returns
returns c = ap₂ started c.power_up.ensures c.fresh.ensures
