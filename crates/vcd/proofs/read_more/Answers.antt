-- `vcd::read_more` meets its contract.
-- Assumes nothing.
use Rattle.vcd.specs.Call.{call_by, call_of}
use mathlib.Core.Path.{refl, ◌∙◌}
use borrow.Author.Tests.{lt-ltb, le-ltb}
use borrow.Author.Rules.{rules}
use Rattle.vcd.proofs.read_more.Goals as goal

pub read_header-h-requires : goal.read_header-h-requires
unfolding call_by call_of
read_header-h-requires c = search rules

pub refused-requires : goal.refused-requires
unfolding call_by call_of
refused-requires c = search rules

pub returns-then-close-gt0 : goal.returns-then-close-gt0
unfolding call_by call_of
returns-then-close-gt0 c = rw (← c.read_header-h.ensures) (simp (c.refused.ensures, lt-ltb _ _ c.if-close-gt0.true))

pub body_from-requires : goal.body_from-requires
unfolding call_by call_of
body_from-requires c = search rules

pub read-requires : goal.read-requires
unfolding call_by call_of
read-requires c = search rules

pub returns : goal.returns
unfolding call_by call_of
returns c = rw (← c.read_header-h.ensures) (simp (le-ltb _ _ c.if-close-gt0.false) (c.read.ensures ∙ rw c.body_from.ensures refl))
