use Rattle.cpu_memory.proofs.Runs.{run_then, run_read, run_done, run_undocumented}
use Rattle.cpu_addressing.proofs.indirect_at.Goals as goal

pub returns-in-Value : goal.returns-in-Value
returns-in-Value c = simp (run_then, run_read, run_done, run_undocumented, c.pointer_at.ensures, c.in-Value.is, ← c.word_at-p.ensures.values)

pub returns-in-Refused : goal.returns-in-Refused
returns-in-Refused c = simp (run_then, run_read, run_done, run_undocumented, c.in-Refused.is, ← c.word_at-p.ensures.values)
