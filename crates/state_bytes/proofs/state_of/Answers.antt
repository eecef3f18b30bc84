-- `state_bytes::state_of` meets its contract.
-- Assumes nothing.
use Rattle.state_bytes.specs.Layout.{state_of}
use borrow.Author.Rules.{rules}
use Rattle.state_bytes.proofs.state_of.Goals as goal

pub registers_of-requires : goal.registers_of-requires
unfolding state_of
registers_of-requires c = search rules

pub core_of-requires : goal.core_of-requires
unfolding state_of
core_of-requires c = search rules

pub returns : goal.returns
unfolding state_of
returns c = simp (c.core_of.ensures, c.registers_of.ensures)
