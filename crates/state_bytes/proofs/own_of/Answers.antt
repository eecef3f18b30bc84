-- `state_bytes::own_of` meets its contract.
-- Assumes nothing.
use Rattle.state_bytes.specs.Layout.{own_of}
use borrow.Author.Tests.{ne_eqb}
use Rattle.state_bytes.proofs.own_of.Goals as goal

pub returns-in-1 : goal.returns-in-1
unfolding own_of
returns-in-1 c = simp c.in-1.is

pub returns-in-2 : goal.returns-in-2
unfolding own_of
returns-in-2 c = simp c.in-2.is

pub returns-in_default : goal.returns-in_default
unfolding own_of
returns-in_default c = simp (ne_eqb _ _ c.in_default.in_default-own.rest.1, ne_eqb _ _ c.in_default.in_default-own.rest.0.1)
