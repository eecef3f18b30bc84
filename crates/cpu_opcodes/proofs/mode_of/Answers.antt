use borrow.Author.Rules.{rules}
use Rattle.cpu_opcodes.specs.Opcodes.{mode_of}
use Rattle.cpu_opcodes.proofs.mode_of.Goals as goal

pub mode_numbered-requires : goal.mode_numbered-requires
unfolding mode_of
mode_numbered-requires c = search rules

pub returns : goal.returns
unfolding mode_of
returns c = c.mode_numbered.ensures
