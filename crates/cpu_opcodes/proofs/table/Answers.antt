use mathlib.Core.Path.{refl}
use Rattle.cpu_opcodes.specs.Table.{opcodes}
use Rattle.cpu_opcodes.proofs.table.Goals as goal

pub returns : goal.returns
unfolding opcodes
returns c = refl
