use mathlib.Core.Path.{sym}
use Rattle.firmware_machine.proofs.Turns.{runs_low}
use Rattle.firmware_run.proofs.proceed.Goals as goal

pub advance-requires : goal.advance-requires
advance-requires c = (c.requires.0, c.if-core.true, c.requires.2, c.requires.3)

pub returns-then-core : goal.returns-then-core
returns-then-core c = c.advance.ensures

pub returns-else-core : goal.returns-else-core
returns-else-core c = (sym (runs_low _ _ _ _ c.requires.1 c.if-core.false), c.requires.2, c.requires.3)
