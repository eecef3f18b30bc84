use Rattle.cpu_memory.proofs.Runs.{run_then, run_read, run_done, run_undocumented}
use Rattle.cpu_addressing.proofs.relative_at.Goals as goal

pub returns-in-Byte : goal.returns-in-Byte
returns-in-Byte c = simp (run_then, run_read, run_done, run_undocumented, c.branch_to.ensures, c.in-Byte.is, ← c.load-q.ensures.0)

pub returns-in-Refused : goal.returns-in-Refused
returns-in-Refused c = simp (run_then, run_read, run_done, run_undocumented, c.in-Refused.is, ← c.load-q.ensures.0)
