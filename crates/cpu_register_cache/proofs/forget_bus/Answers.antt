use Rattle.cpu_register_cache.proofs.forget_bus.Goals as goal

pub returns : goal.returns
returns c = simp (c.note-5.ensures, c.note-4.ensures, c.note-3.ensures, c.note-2.ensures, c.note.ensures)
