-- What the loop of `firmware_run::advance` keeps.
use Rattle.chip.specs.State.{chip_of}
use Rattle.firmware_machine.specs.Machine.{machine}
use Rattle.firmware_run.proofs.Running.{Running, measure}
use Rattle.firmware_run.proofs.advance.Given as goal

abbrev pub invariant-loop-i : goal.invariant-loop-i
invariant-loop-i l =
    Running l.rom l.from l.to (machine l.initial.c l.initial.ram (chip_of l.initial.registers l.initial.k)) l.ram l.seen l.registers l.k l.c l.i l.clocked l.request

abbrev pub decreases-loop-i : goal.decreases-loop-i
decreases-loop-i l = measure l.to l.i l.clocked l.c l.seen
