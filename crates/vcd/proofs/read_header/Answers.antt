-- `vcd::read_header` meets its contract. What is left of the tokens, from here, comes to what all of them come to.
-- Assumes nothing.
use Rattle.vcd_text.proofs.Laws.{word_some, word_within}
use Rattle.vcd_codes.specs.Codes.{variables}
use Rattle.vcd.specs.Header.{heading}
use Rattle.vcd.proofs.Entries.{step_so, end_so}
use Rattle.vcd.proofs.Heading.{head_more, head_stop, head_none, head_all, fresh_so}
use mathlib.Core.Path.{sym, ◌∙◌}
use native.Mathlib.Omega.{arith}
use borrow.Author.Rules.{rules}
use Rattle.vcd.proofs.read_header.Goals as goal

pub loop-at-init : goal.loop-at-init
loop-at-init c = (c.requires.0, c.requires.1, fresh_so _ _ _ _ c.fresh-h.ensures)

pub slice_bounds-step-end : goal.slice_bounds-step-end
slice_bounds-step-end c = word_within _ _ _ c.word_end-e.ensures (omega arith)

pub settle-h-requires : goal.settle-h-requires
settle-h-requires c = (c.loop-at.invariant.0, c.loop-at.invariant.1)

pub shape_of-places-then-close : goal.shape_of-places-then-close
shape_of-places-then-close c = c.settle-h.auto.places ∙ c.loop-at.invariant.0 ∙ sym c.requires.0

pub shape_of-pins-then-close : goal.shape_of-pins-then-close
shape_of-pins-then-close c = c.settle-h.auto.pins ∙ c.loop-at.invariant.1 ∙ sym c.requires.1

pub returns-then-close : goal.returns-then-close
returns-then-close c = head_stop _ c.loop-at.at _ _ c.skip_white-p.ensures c.word_end-e.ensures c.if-p-text.true (heading c.loop-at.h (variables _ c.loop-at.places c.loop-at.pins 0 c.loop-at.h.entries)) _ (c.settle-h.ensures ∙ step_so _ _ _ _ _ _ _ _ _ c.step.ensures) c.if-close.true ∙ c.loop-at.invariant.2

pub loop-at-smaller : goal.loop-at-smaller
loop-at-smaller c = omega (arith, word_some _ c.loop-at.at _ c.skip_white-p.ensures _ c.word_end-e.ensures c.if-p-text.true)

pub loop-at-preserved : goal.loop-at-preserved
loop-at-preserved c = (c.settle-h.auto.places ∙ c.loop-at.invariant.0, c.settle-h.auto.pins ∙ c.loop-at.invariant.1, head_more _ c.loop-at.at _ _ c.skip_white-p.ensures c.word_end-e.ensures c.if-p-text.true (heading c.loop-at.h (variables _ c.loop-at.places c.loop-at.pins 0 c.loop-at.h.entries)) _ (c.settle-h.ensures ∙ step_so _ _ _ _ _ _ _ _ _ c.step.ensures) c.if-close.false ∙ c.loop-at.invariant.2)

pub shape_of-places-else-p-text : goal.shape_of-places-else-p-text
shape_of-places-else-p-text c = c.loop-at.invariant.0 ∙ sym c.requires.0

pub shape_of-pins-else-p-text : goal.shape_of-pins-else-p-text
shape_of-pins-else-p-text c = c.loop-at.invariant.1 ∙ sym c.requires.1

pub returns-else-p-text : goal.returns-else-p-text
returns-else-p-text c = end_so _ _ _ _ _ _ _ c.end.ensures ∙ head_none _ (heading c.loop-at.h (variables _ c.loop-at.places c.loop-at.pins 0 c.loop-at.h.entries)) c.loop-at.at _ c.skip_white-p.ensures c.if-p-text.false ∙ c.loop-at.invariant.2

pub shape_of-places : goal.shape_of-places
shape_of-places c = c.loop-at.invariant.0 ∙ sym c.requires.0

pub shape_of-pins : goal.shape_of-pins
shape_of-pins c = c.loop-at.invariant.1 ∙ sym c.requires.1

pub returns : goal.returns
returns c = end_so _ _ _ _ _ _ _ c.end-2.ensures ∙ head_all _ (heading c.loop-at.h (variables _ c.loop-at.places c.loop-at.pins 0 c.loop-at.h.entries)) c.loop-at.at (search rules) ∙ c.loop-at.invariant.2
