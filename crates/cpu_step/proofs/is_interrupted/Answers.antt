use Rattle.cpu_step.proofs.is_interrupted.Goals as goal

pub returns-then-f : goal.returns-then-f
returns-then-f c = simp (c.if-f.true, c.if-request.true)

pub returns-else-f : goal.returns-else-f
returns-else-f c = simp (c.if-f.false, c.if-request.true)

pub returns-else-request : goal.returns-else-request
returns-else-request c = simp c.if-request.false
