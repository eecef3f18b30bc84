use mathlib.Core.Path.{refl}
use Rattle.cpu_opcodes.specs.Opcodes.{is_jsr}
use Rattle.cpu_opcodes.proofs.is_jsr.Goals as goal

pub returns : goal.returns
unfolding is_jsr
returns c = refl
