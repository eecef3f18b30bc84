use mathlib.Core.Path.{sym}
use lib.Seq.{set_out}
use Rattle.cpu_register_cache.proofs.note.Goals as goal

pub returns-else-i-seen : goal.returns-else-i-seen
returns-else-i-seen c = sym (set_out c.args.seen.now c.args.r c.args.v c.if-i-seen.false)
