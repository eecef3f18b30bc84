-- `state_calls::step` meets its contract.
-- Assumes nothing.
use mathlib.Core.Path.{◌∙◌}
use Prim.Native.Nat.{ℕ, ◌*◌}
use Rattle.chip.specs.declared.Chip.{Chip}
use Rattle.step.specs.Step.{step}
use Rattle.state_calls.specs.Calls.{step_area, step_answer}
use Rattle.state_calls.proofs.Opened.{done, put_done, well, refused}
use Rattle.state_calls.proofs.step.Goals as goal

pub stepped-done-requires : goal.stepped-done-requires
stepped-done-requires c = well _ _ c.in-Ok.ensures

pub returns-in-Ok : goal.returns-in-Ok
unfolding step_area step_answer
returns-in-Ok c =
    let s = c.args in
    let e = c.in-Ok.ensures in
    let d = c.stepped-done.ensures in (
      rw d (done _ _ e (λ (x : Chip). (step x s.word).answer) _),
      c.put.ensures ∙ rw d (put_done _ _ e (λ (x : Chip). (step x s.word).chip)),
    )

pub returns-in-Err : goal.returns-in-Err
unfolding step_area step_answer
returns-in-Err c = (
  rw c.in_top_byte.ensures (refused _ _ c.in-Err.ensures _ (λ (n : ℕ). n * 16777216)),
  refused _ _ c.in-Err.ensures _ (λ (n : ℕ). c.args.area.now),
)
