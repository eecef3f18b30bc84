use Rattle.cpu_execution.proofs.branch.Goals as goal

pub returns-then-taken : goal.returns-then-taken
returns-then-taken c = simp (c.set_pc-d.ensures, ← c.taken.ensures, c.if-taken.true, c.num-k.ensures.0)

pub returns-else-taken : goal.returns-else-taken
returns-else-taken c = simp (← c.taken.ensures, c.if-taken.false)
