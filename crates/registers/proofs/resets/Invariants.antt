-- What the loop of `registers::resets` keeps.
use Rattle.registers.specs.Table.{resets}
use Rattle.registers.proofs.Filled.{Filled}
use Rattle.registers.proofs.resets.Given as goal

abbrev pub invariant-loop-i : goal.invariant-loop-i
invariant-loop-i l = Filled resets 38 l.registers l.i
