-- `vcd_body::Reader::read_tokens` meets its contract. What is left of the tokens, from here, comes to what all of them come to.
-- Assumes nothing.
use Rattle.vcd_text.proofs.Laws.{word_some, word_within, some_byte}
use Rattle.vcd_body.specs.Reader.{look}
use Rattle.vcd_body.proofs.Reading.{token_stops, token_pauses, token_goes_on, none_left, all_read}
use mathlib.Core.Path.{refl, ◌∙◌}
use native.Mathlib.Omega.{arith}
use borrow.Author.Rules.{rules}
use Rattle.vcd_body.proofs.Reader.read_tokens.Goals as goal

pub loop-at-init : goal.loop-at-init
loop-at-init c = (refl, refl)

pub slice_bounds-token-end : goal.slice_bounds-token-end
slice_bounds-token-end c = word_within _ _ _ c.word_end-e.ensures (omega arith)

pub token-step-requires : goal.token-step-requires
token-step-requires c = record { tables = c.requires; t_nonzero = some_byte _ c.pass_run-after.result.at _ _ c.skip_white-p.ensures c.word_end-e.ensures c.if-p-text.true }

pub shape_of-out-in-Stop : goal.shape_of-out-in-Stop
shape_of-out-in-Stop c = c.perform-turn.auto.out ∙ c.pass_run-after.auto.out ∙ c.loop-at.invariant.0

pub returns-in-Stop : goal.returns-in-Stop
returns-in-Stop c = rw c.close.ensures
    (let a = c.args in
    let run = c.pass_run-after in
    token_stops (look a.self.now) a.self.now.scale a.self.now.text.now run.result.at _ _ c.skip_white-p.ensures c.word_end-e.ensures c.if-p-text.true run.result.state c.loop-at.done run.result.count _ _ _ _ c.token-step.ensures c.perform-turn.ensures _ _ c.in-Stop.is ∙ run.ensures.1 ∙ c.loop-at.invariant.1)

pub shape_of-out-in-Full : goal.shape_of-out-in-Full
shape_of-out-in-Full c = c.perform-turn.auto.out ∙ c.pass_run-after.auto.out ∙ c.loop-at.invariant.0

pub returns-in-Full : goal.returns-in-Full
returns-in-Full c = rw c.pause.ensures
    (let a = c.args in
    let run = c.pass_run-after in
    token_pauses (look a.self.now) a.self.now.scale a.self.now.text.now run.result.at _ _ c.skip_white-p.ensures c.word_end-e.ensures c.if-p-text.true run.result.state c.loop-at.done run.result.count _ _ _ _ c.token-step.ensures c.perform-turn.ensures _ _ c.in-Full.is ∙ run.ensures.1 ∙ c.loop-at.invariant.1)

pub loop-at-smaller : goal.loop-at-smaller
loop-at-smaller c = omega (arith, c.pass_run-after.ensures.0, c.loop-at-test.true, c.skip_white-p.ensures, word_some _ c.pass_run-after.result.at _ c.skip_white-p.ensures _ c.word_end-e.ensures c.if-p-text.true)

pub loop-at-preserved : goal.loop-at-preserved
loop-at-preserved c = (
  c.perform-turn.auto.out ∙ c.pass_run-after.auto.out ∙ c.loop-at.invariant.0,
  let a = c.args in
      let run = c.pass_run-after in
      token_goes_on (look a.self.now) a.self.now.scale a.self.now.text.now run.result.at _ _ c.skip_white-p.ensures c.word_end-e.ensures c.if-p-text.true run.result.state c.loop-at.done run.result.count _ _ _ _ c.token-step.ensures c.perform-turn.ensures _ _ c.in-On.is ∙ run.ensures.1 ∙ c.loop-at.invariant.1,
)

pub shape_of-out-else-p-text : goal.shape_of-out-else-p-text
shape_of-out-else-p-text c = c.pass_run-after.auto.out ∙ c.loop-at.invariant.0

pub returns-else-p-text : goal.returns-else-p-text
returns-else-p-text c =
    let a = c.args in
    let run = c.pass_run-after in
    rw c.finish.ensures (none_left (look a.self.now) a.self.now.scale a.self.now.text.now run.result.state c.loop-at.done run.result.count _ run.result.at _ c.skip_white-p.ensures c.if-p-text.false ∙ run.ensures.1 ∙ c.loop-at.invariant.1)

pub returns : goal.returns
returns c =
    let a = c.args in
    rw c.finish-2.ensures (all_read (look a.self.now) a.self.now.scale a.self.now.text.now c.loop-at.s c.loop-at.done c.loop-at.count c.loop-at.out c.loop-at.at (search rules) ∙ c.loop-at.invariant.1)
