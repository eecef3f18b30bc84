use mathlib.Core.Path.{refl}
use Rattle.cpu_register_cache.proofs.write_dac.Goals as goal

pub returns : goal.returns
returns c = simp (c.note.ensures, c.shown.ensures, c.forget_ports.ensures, c.keep.ensures, c.updated-v.ensures, c.register_at.ensures) (refl, refl)
