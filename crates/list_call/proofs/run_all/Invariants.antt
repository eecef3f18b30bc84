-- What the loop of `list_call::run_all` keeps.
use Rattle.chip.specs.State.{chip_of}
use Rattle.list_call.proofs.Runs.{Done}
use Rattle.list_call.proofs.run_all.Given as goal

abbrev pub invariant-loop-i : goal.invariant-loop-i
invariant-loop-i l = Done l.words l.initial.answers (chip_of l.initial.registers l.initial.core) l.answers (chip_of l.registers l.core) l.i
