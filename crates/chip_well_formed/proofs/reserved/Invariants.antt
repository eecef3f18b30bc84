-- What the loop of `chip_well_formed::reserved` keeps.
use mathlib.Core.Path.{◌≡◌}
use mathlib.Core.Bool.{true}
use Rattle.bits.specs.Finite.{all_below}
use Rattle.chip_well_formed.specs.WellFormed.{reserved_at}
use Rattle.chip_well_formed.proofs.reserved.Given as goal

abbrev pub invariant-loop-i : goal.invariant-loop-i
invariant-loop-i l = all_below (reserved_at l.registers) l.i ≡ true
