-- `vcd_capi::nt6861_vcd_more` meets its contract.
-- Assumes nothing.
use Rattle.vcd_capi.specs.Export.{more_of}
use mathlib.Core.Path.{refl}
use borrow.Author.Tests.{eq-eqb, ne_eqb}
use borrow.Author.Rules.{rules}
use Rattle.vcd_capi.proofs.nt6861_vcd_more.Goals as goal

pub cursor_of-from-requires : goal.cursor_of-from-requires
unfolding more_of
cursor_of-from-requires c = search rules

pub read_more-piece-requires : goal.read_more-piece-requires
unfolding more_of
read_more-piece-requires c = search rules

pub tell_more-requires : goal.tell_more-requires
unfolding more_of
tell_more-requires c = search rules

pub returns-then-told-eq2 : goal.returns-then-told-eq2
unfolding more_of
returns-then-told-eq2 c = rw (c.tell_more.ensures.0, c.tell_more.ensures.1, c.tell_more.ensures.2) (simp (eq-eqb _ _ c.if-cursor-eq8.true, eq-eqb _ _ c.if-told-eq2.true) (rw (← c.cursor_of-from.ensures, ← c.read_more-piece.ensures) refl))

pub returns-then-cursor-eq8 : goal.returns-then-cursor-eq8
unfolding more_of
returns-then-cursor-eq8 c = simp (eq-eqb _ _ c.if-cursor-eq8.true, ne_eqb _ _ c.if-told-eq2.false)

pub returns : goal.returns
unfolding more_of
returns c = simp (ne_eqb _ _ c.if-cursor-eq8.false)
