-- `vcd::settle` meets its contract.
-- Assumes nothing.
use Rattle.vcd.specs.Header.{settled}
use borrow.Author.Rules.{rules}
use Rattle.vcd.proofs.settle.Goals as goal

pub declare-requires : goal.declare-requires
unfolding settled
declare-requires c = search rules

pub returns-then-v : goal.returns-then-v
unfolding settled
returns-then-v c = simp c.if-v.true c.declare.ensures

pub returns : goal.returns
unfolding settled
returns c = simp c.if-v.false
