use Rattle.cpu_instruction.specs.Instruction.{interrupted}
use borrow.Author.Rules.{rules}
use Rattle.cpu_instruction.proofs.interrupt.Goals as goal

pub trap-requires : goal.trap-requires
unfolding interrupted
trap-requires c = search rules

pub returns : goal.returns
unfolding interrupted
returns c = c.trap.ensures
