use borrow.Author.Rules.{rules}
use Rattle.cpu_opcodes.specs.Opcodes.{operation_of}
use Rattle.cpu_opcodes.proofs.operation_of.Goals as goal

pub operation_numbered-requires : goal.operation_numbered-requires
unfolding operation_of
operation_numbered-requires c = search rules

pub returns : goal.returns
unfolding operation_of
returns c = c.operation_numbered.ensures
