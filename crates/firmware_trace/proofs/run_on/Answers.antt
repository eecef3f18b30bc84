-- `firmware_trace::run_on` meets its contract.
-- Assumes nothing.
use Rattle.firmware_trace.proofs.Parts.{counts}
use Rattle.firmware_trace.proofs.run_on.Goals as goal

pub returns : goal.returns
returns c =
    let run = c.args.run in
    (counts run _ _ c.run_on-r.ensures.0 _ c.wrapping_add_u32.ensures.value, c.run_on-r.ensures.1)
