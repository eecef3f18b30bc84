-- `firmware_lines::shown_p` meets its contract.
-- Assumes nothing.
use native.Mathlib.Omega.{arith}
use Rattle.firmware_lines.proofs.Pushed.{pushed_32}
use Rattle.firmware_lines.proofs.shown_p.Goals as goal

pub overflow_sub-result : goal.overflow_sub-result
overflow_sub-result c = omega (arith, c.pushed_p.ensures, pushed_32 c.args.f)
