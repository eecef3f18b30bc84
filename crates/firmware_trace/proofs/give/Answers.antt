-- `firmware_trace::give` meets its contract.
-- Assumes nothing.
use Rattle.firmware_trace.proofs.Parts.{gives}
use Rattle.firmware_trace.proofs.give.Goals as goal

pub returns : goal.returns
returns c =
    let run = c.args.run in
    gives run _ _ c.give-g.ensures _ c.wrapping_add_u64.ensures.value
