-- `state_bytes::phase_of` meets its contract.
-- Assumes nothing.
use Rattle.state_bytes.specs.Layout.{phase_of}
use borrow.Author.Tests.{ne_eqb}
use borrow.Author.Rules.{rules}
use Rattle.state_bytes.proofs.phase_of.Goals as goal

pub own_of-requires : goal.own_of-requires
unfolding phase_of
own_of-requires c = search rules

pub own_of-requires-in-4 : goal.own_of-requires-in-4
unfolding phase_of
own_of-requires-in-4 c = search rules

pub own_of-requires-in-5 : goal.own_of-requires-in-5
unfolding phase_of
own_of-requires-in-5 c = search rules

pub own_of-requires-in_default : goal.own_of-requires-in_default
unfolding phase_of
own_of-requires-in_default c = search rules

pub returns-in-0 : goal.returns-in-0
unfolding phase_of
returns-in-0 c = simp c.in-0.is

pub returns-in-1 : goal.returns-in-1
unfolding phase_of
returns-in-1 c = simp c.in-1.is

pub returns-in-2 : goal.returns-in-2
unfolding phase_of
returns-in-2 c = simp (c.own_of.ensures, c.in-2.is)

pub returns-in-3 : goal.returns-in-3
unfolding phase_of
returns-in-3 c = simp c.in-3.is

pub returns-in-4 : goal.returns-in-4
unfolding phase_of
returns-in-4 c = simp (c.own_of-in-4.ensures, c.in-4.is)

pub returns-in-5 : goal.returns-in-5
unfolding phase_of
returns-in-5 c = simp (c.own_of-in-5.ensures, c.in-5.is)

pub returns-in_default : goal.returns-in_default
unfolding phase_of
returns-in_default c = simp (c.own_of-in_default.ensures, ne_eqb _ _ c.in_default.in_default-own.rest.1, ne_eqb _ _ c.in_default.in_default-own.rest.0.1, ne_eqb _ _ c.in_default.in_default-own.rest.0.0.1, ne_eqb _ _ c.in_default.in_default-own.rest.0.0.0.1, ne_eqb _ _ c.in_default.in_default-own.rest.0.0.0.0.1, ne_eqb _ _ c.in_default.in_default-own.rest.0.0.0.0.0.1)
