use Rattle.cpu_memory.proofs.Runs.{run_done}
use Rattle.cpu_addressing.proofs.absolute_unless.Goals as goal

pub returns-then-own : goal.returns-then-own
returns-then-own c = simp (run_done, c.uncrossed.ensures, c.if-own.true)

pub returns-else-own : goal.returns-else-own
returns-else-own c = simp (c.if-own.false, c.absolute_at.ensures)
