-- `case_run::read` meets its contract.
use mathlib.Core.Path.{ap, ◌∙◌}
use Rattle.std.proofs.Common.{◌+◌, drop, arith}
use Rattle.case_run.specs.declared.Progress.{Progress}
use Rattle.case_run.specs.Run.{read}
use Rattle.case_run.proofs.Reading.{read_next, read_end}
use Rattle.case_run.proofs.read.Goals as goal

pub loop-b-preserved : goal.loop-b-preserved
loop-b-preserved c =
    let text = c.args.text.now in
    ap (λ (p : Progress). read p (drop (c.loop-b.b-index + 1) text)) c.byte_read-p.ensures
    ∙ read_next c.loop-b.p text c.loop-b.b-index (omega arith)
    ∙ c.loop-b.invariant

pub returns : goal.returns
returns c = read_end _ _ c.loop-b.b-index (omega arith) ∙ c.loop-b.invariant
