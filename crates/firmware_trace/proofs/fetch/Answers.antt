-- `firmware_trace::fetch` meets its contract.
-- Assumes nothing.
use Rattle.firmware_trace.proofs.Parts.{fetches}
use Rattle.firmware_trace.proofs.fetch.Goals as goal

pub returns : goal.returns
returns c =
    let run = c.args.run in
    fetches _ _ run _ c.interrupt-before.ensures.0 _ c.interrupt-before.ensures.1 _ c.load-opcode.ensures.0
