use mathlib.Core.Path.{sym}
use lib.Seq.{set_out}
use Rattle.firmware_run.proofs.put.Goals as goal

pub returns-else-k-answers : goal.returns-else-k-answers
returns-else-k-answers c = sym (set_out c.args.answers.now c.args.k c.args.answer c.if-k-answers.false)
