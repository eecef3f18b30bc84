use mathlib.Core.Path.{refl}
use Rattle.cpu_opcodes.proofs.entry.Goals as goal

pub returns : goal.returns
returns c = refl
