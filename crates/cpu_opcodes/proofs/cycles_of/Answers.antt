use mathlib.Core.Path.{refl}
use borrow.Author.Rules.{rules}
use Rattle.cpu_opcodes.specs.Opcodes.{cycles_of}
use Rattle.cpu_opcodes.proofs.cycles_of.Goals as goal

pub returns : goal.returns
unfolding cycles_of
returns c = (refl, search rules)
