use Rattle.firmware_run.proofs.number_after.Goals as goal

pub returns-then-done : goal.returns-then-done
returns-then-done c = simp c.if-done.true

pub returns-else-done : goal.returns-else-done
returns-else-done c = simp c.if-done.false
