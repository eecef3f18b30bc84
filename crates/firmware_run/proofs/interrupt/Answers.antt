use mathlib.Core.Path.{refl}
use Rattle.firmware_run.proofs.interrupt.Goals as goal

pub returns : goal.returns
returns c = simp (c.core_after_cycles.ensures, c.set_over.ensures, c.cycles-n.ensures, c.commit.ensures.1, c.interrupt-e.ensures) (refl, refl)
