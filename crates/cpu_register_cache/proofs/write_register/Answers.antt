use mathlib.Core.Path.{refl}
use Rattle.cpu_register_cache.proofs.write_register.Goals as goal

pub returns : goal.returns
returns c = simp (c.written.ensures, c.forget_written.ensures, c.keep.ensures, c.stored-kept.ensures) (refl, refl, refl)
