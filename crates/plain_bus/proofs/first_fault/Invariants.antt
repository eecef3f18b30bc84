-- What the loop of `plain_bus::first_fault` keeps.
use mathlib.Core.Path.{◌≡◌}
use lib.ListN.{drop}
use Rattle.plain_bus.specs.Reading.{first_fault}
use Rattle.plain_bus.proofs.first_fault.Given as goal

abbrev pub invariant-loop-change : goal.invariant-loop-change
invariant-loop-change l = first_fault l.changes ≡ first_fault (drop l.change-index l.changes)
