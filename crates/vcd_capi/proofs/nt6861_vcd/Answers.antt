-- `vcd_capi::nt6861_vcd` meets its contract.
-- Assumes nothing.
use Rattle.vcd_capi.specs.Export.{vcd_of}
use mathlib.Core.Path.{refl}
use borrow.Author.Tests.{eq-eqb, ne_eqb}
use borrow.Author.Rules.{rules}
use Rattle.vcd_capi.proofs.nt6861_vcd.Goals as goal

pub read-piece-requires : goal.read-piece-requires
unfolding vcd_of
read-piece-requires c = search rules

pub tell-requires : goal.tell-requires
unfolding vcd_of
tell-requires c = search rules

pub returns-then-told-eq2 : goal.returns-then-told-eq2
unfolding vcd_of
returns-then-told-eq2 c = rw c.tell.ensures (simp (eq-eqb _ _ c.if-told-eq2.true) (rw (← c.read-piece.ensures) refl))

pub returns : goal.returns
unfolding vcd_of
returns c = simp (ne_eqb _ _ c.if-told-eq2.false)
