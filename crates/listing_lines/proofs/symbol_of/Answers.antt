-- `listing_lines::symbol_of` meets its contract.
-- Assumes nothing.
use borrow.Author.Tests.{ne_eqb}
use Rattle.listing_lines.specs.Line.{symbol_of}
use borrow.Author.Rules.{rules}
use Rattle.listing_lines.proofs.symbol_of.Goals as goal

pub digit_of-requires : goal.digit_of-requires
unfolding symbol_of
digit_of-requires c = search rules

pub returns-in-10 : goal.returns-in-10
unfolding symbol_of
returns-in-10 c = simp c.in-10.is

pub returns-in-9 : goal.returns-in-9
unfolding symbol_of
returns-in-9 c = simp c.in-9.is

pub returns-in-13 : goal.returns-in-13
unfolding symbol_of
returns-in-13 c = simp c.in-13.is

pub returns-in-32 : goal.returns-in-32
unfolding symbol_of
returns-in-32 c = simp c.in-32.is

pub returns-in-42 : goal.returns-in-42
unfolding symbol_of
returns-in-42 c = simp c.in-42.is

pub returns-in-35 : goal.returns-in-35
unfolding symbol_of
returns-in-35 c = simp c.in-35.is

pub returns-in_default : goal.returns-in_default
unfolding symbol_of
returns-in_default c = simp (c.digit_of.ensures, ne_eqb _ _ c.in_default.in_default-own.rest.1, ne_eqb _ _ c.in_default.in_default-own.rest.0.1, ne_eqb _ _ c.in_default.in_default-own.rest.0.0.1, ne_eqb _ _ c.in_default.in_default-own.rest.0.0.0.1, ne_eqb _ _ c.in_default.in_default-own.rest.0.0.0.0.1, ne_eqb _ _ c.in_default.in_default-own.rest.0.0.0.0.0.1)
