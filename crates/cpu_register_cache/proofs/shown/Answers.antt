use Rattle.cpu_register_cache.proofs.shown.Goals as goal

pub returns : goal.returns
returns c = simp c.register_at.ensures
