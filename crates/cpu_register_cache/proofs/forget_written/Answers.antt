use Rattle.cpu_register_cache.proofs.forget_written.Goals as goal

pub returns-then-is_stored : goal.returns-then-is_stored
returns-then-is_stored c = simp (c.note.ensures, c.forget_ports.ensures, ← c.target_of.ensures, ← c.is_stored.ensures, c.if-is_stored.true)

pub returns-else-is_stored : goal.returns-else-is_stored
returns-else-is_stored c = simp (c.forget.ensures, ← c.target_of.ensures, ← c.is_stored.ensures, c.if-is_stored.false)
