-- What the loop of `firmware_run::run_all` keeps.
use Rattle.chip.specs.State.{chip_of}
use Rattle.firmware_machine.specs.Machine.{machine}
use Rattle.firmware_machine.specs.Run.{runs}
use Rattle.firmware_run.proofs.Going.{Going, measure}
use Rattle.firmware_run.proofs.run_all.Given as goal

abbrev pub invariant-loop-i : goal.invariant-loop-i
invariant-loop-i l =
    Going l.instructions l.rom l.events l.initial.answers (runs l.instructions 0 l.rom l.events (machine l.initial.c l.initial.ram (chip_of l.initial.registers l.initial.core))) l.answers l.ram l.seen l.registers l.core l.c l.i l.given

abbrev pub decreases-loop-i : goal.decreases-loop-i
decreases-loop-i l = measure l.instructions l.events l.i l.given
