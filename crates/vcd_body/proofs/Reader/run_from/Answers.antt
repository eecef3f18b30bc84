-- `vcd_body::Reader::run_from` meets its contract.
-- Assumes nothing.
use Rattle.vcd_body.proofs.Reader.run_from.Goals as goal

pub returns : goal.returns
returns c =
    let run = c.run_tokens-run.ensures in
    (run.onward, run.same c.args.from.state c.requires.mode_value.0 c.requires.mode_value.1)
