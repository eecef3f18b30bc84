-- `state_calls::run` meets its contract.
-- Assumes nothing.
use mathlib.Core.Path.{sym, ◌∙◌}
use Prim.Native.Nat.{ℕ}
use Rattle.chip.specs.declared.Chip.{Chip}
use Rattle.list_call.specs.Run.{run, run_answers}
use Rattle.state_calls.specs.Calls.{run_number, run_area, run_places}
use Rattle.state_calls.proofs.Opened.{done, put_done, well, untested, refused}
use Rattle.state_calls.proofs.run.Goals as goal

pub returns-in-Ok : goal.returns-in-Ok
unfolding run_number run_area run_places
returns-in-Ok c =
    let e = c.in-Ok.ensures in
    let d = c.advance_all-done.ensures in
    let ws = c.args.words.now in
    let ps = c.args.answers.now in
    let u = untested _ (well _ _ e) ws ps in (
      rw (d.0, ← u.0) (done _ _ e (λ (x : Chip). (run x ws ps).number) _),
      c.put.ensures ∙ rw (d.0, ← u.0) (put_done _ _ e (λ (x : Chip). (run x ws ps).chip)),
      d.1 ∙ sym u.1 ∙ done _ _ e (λ (x : Chip). run_answers x ws ps) ps,
    )

pub returns-in-Err : goal.returns-in-Err
unfolding run_number run_area run_places
returns-in-Err c =
    let e = c.in-Err.ensures in (
      rw c.from.ensures (refused _ _ e _ (λ (n : ℕ). n)),
      refused _ _ e _ (λ (n : ℕ). c.args.area.now),
      refused _ _ e _ (λ (n : ℕ). c.args.answers.now),
    )
