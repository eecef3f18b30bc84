use Rattle.cpu_memory.proofs.Runs.{run_then, run_read, run_done, run_undocumented}
use Rattle.cpu_addressing.proofs.zero_page.Goals as goal

pub returns-in-Byte : goal.returns-in-Byte
returns-in-Byte c = simp (run_then, run_read, run_done, run_undocumented, c.uncrossed.ensures, c.sum_in_page.ensures, c.in-Byte.is, ← c.load.ensures.0)

pub returns-in-Refused : goal.returns-in-Refused
returns-in-Refused c = simp (run_then, run_read, run_done, run_undocumented, c.in-Refused.is, ← c.load.ensures.0)
