use mathlib.Core.Path.{refl}
use native.Mathlib.Omega.{arith}
use borrow.Author.Tests.{eq-eqb, ne_eqb}
use Rattle.firmware_run.proofs.Going.{some, after_events_less, after_events_goes, on_less, on_goes, on_ends, first, finish, stop}
use Rattle.firmware_run.proofs.run_all.Goals as goal

pub loop-i-init : goal.loop-i-init
loop-i-init c = first _ _ _ _ _ _ _ _ _ refl

pub loop-i-smaller-then-to-i : goal.loop-i-smaller-then-to-i
loop-i-smaller-then-to-i c = after_events_less _ _ _ _ _ _ _ _ _ _ _ _ _ c.requires c.loop-i.invariant c.loop-i-test.true _ c.until-to.ensures c.if-to-i.true

pub loop-i-preserved-then-to-i : goal.loop-i-preserved-then-to-i
loop-i-preserved-then-to-i c = after_events_goes _ _ _ _ _ _ _ _ _ _ _ _ _ c.requires c.loop-i.invariant c.loop-i-test.true _ c.until-to.ensures c.if-to-i.true _ c.event_at.ensures _ c.word_of.ensures _ _ _ _ c.occur-o.ensures.0 c.occur-o.ensures.1 c.occur-o.ensures.2 c.put.ensures

pub proceed-s-requires : goal.proceed-s-requires
proceed-s-requires c = (c.table-table.ensures, c.if-to-i.false, c.loop-i.invariant.knows, c.loop-i.invariant.size)

pub shape_of-answers-then-s-ne0 : goal.shape_of-answers-then-s-ne0
shape_of-answers-then-s-ne0 c = c.loop-i.invariant.same

pub returns-then-s-ne0 : goal.returns-then-s-ne0
returns-then-s-ne0 c = stop _ _ _ _ _ _ _ _ _ _ _ _ _ c.requires c.loop-i.invariant _ _ _ _ _ (on_ends _ _ _ _ _ _ _ _ _ _ _ _ _ c.requires c.loop-i.invariant c.loop-i-test.true _ c.until-to.ensures c.if-to-i.false _ _ _ c.proceed-s.ensures.0 (ne_eqb _ _ c.if-s-ne0.true))

pub loop-i-smaller : goal.loop-i-smaller
loop-i-smaller c = on_less _ _ _ _ _ _ _ _ _ _ _ _ _ c.requires c.loop-i.invariant c.loop-i-test.true _ c.until-to.ensures c.if-to-i.false _ _ _ c.proceed-s.ensures.0 (eq-eqb _ _ c.if-s-ne0.false)

pub loop-i-preserved : goal.loop-i-preserved
loop-i-preserved c = on_goes _ _ _ _ _ _ _ _ _ _ _ _ _ c.requires c.loop-i.invariant c.loop-i-test.true _ c.until-to.ensures c.if-to-i.false _ _ _ c.proceed-s.ensures.0 (eq-eqb _ _ c.if-s-ne0.false) _ c.proceed-s.ensures.1 c.proceed-s.ensures.2

pub shape_of-answers : goal.shape_of-answers
shape_of-answers c = c.loop-i.invariant.same

pub returns : goal.returns
returns c = finish _ _ _ _ _ _ _ _ _ _ _ _ _ c.requires c.loop-i.invariant c.loop-i-test.false
