use Rattle.cpu_execution.proofs.modify_a.Goals as goal

pub returns : goal.returns
returns c = simp (c.set_a-d.ensures, c.modify_operation-q.ensures)
