use Rattle.cpu_memory.proofs.Runs.{run_then, run_done}
use Rattle.cpu_addressing.proofs.pointer_at.Goals as goal

pub returns-in-Value : goal.returns-in-Value
returns-in-Value c = rw (← c.next_in_page-t.ensures, run_then, ← c.word_at-q.ensures.values, c.in-Value.is) (simp (run_done, c.indexed.ensures))

pub returns-in-Refused : goal.returns-in-Refused
returns-in-Refused c = rw (← c.next_in_page-t.ensures, run_then, ← c.word_at-q.ensures.values, c.in-Refused.is)
