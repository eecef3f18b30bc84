use mathlib.Core.Path.{refl}
use Rattle.cpu_opcodes.specs.Opcodes.{length_of}
use Rattle.cpu_opcodes.proofs.length_of.Goals as goal

pub returns : goal.returns
unfolding length_of
returns c = refl
