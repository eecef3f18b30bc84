-- What the loop of `plain_bus::level_before` keeps.
use mathlib.Core.Path.{◌≡◌}
use Rattle.plain_bus.specs.Plain.{level_before}
use Rattle.plain_bus.proofs.level_before.Given as goal

abbrev pub invariant-loop-i : goal.invariant-loop-i
invariant-loop-i l = level_before l.line l.changes l.i ≡ level_before l.line l.changes l.place
