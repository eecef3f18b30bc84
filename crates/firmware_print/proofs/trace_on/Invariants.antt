-- What the loop of `firmware_print::trace_on` keeps.
use Rattle.std.proofs.Common.{◌-◌}
use Rattle.firmware_print.proofs.Tracing.{Tracing}
use Rattle.firmware_print.proofs.trace_on.Given as goal

abbrev pub invariant-loop : goal.invariant-loop
invariant-loop g l = Tracing l.rom l.instructions l.fn.start l.initial.ram l.run l.ram l.counter

abbrev pub decreases-loop : goal.decreases-loop
decreases-loop g l = l.instructions - l.counter
