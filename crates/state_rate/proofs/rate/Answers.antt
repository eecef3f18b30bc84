-- `state_rate::rate` meets its contract.
-- Assumes nothing.
use mathlib.Core.Path.{◌∙◌}
use Prim.Native.Nat.{ℕ, ◌*◌}
use Rattle.chip.specs.declared.Chip.{Chip}
use Rattle.state_calls.proofs.Opened.{done, refused}
use Rattle.state_rate.specs.Rate.{rate_word, rate_hertz, rate_in, hertz_in}
use Rattle.state_rate.proofs.rate.Goals as goal

pub returns-in-Ok : goal.returns-in-Ok
unfolding rate_in hertz_in
returns-in-Ok c =
    let s = c.args in
    let e = c.in-Ok.ensures in (
      c.asked.ensures.0 ∙ done _ _ e (λ (x : Chip). rate_word x s.which) _,
      c.asked.ensures.1 ∙ done _ _ e (λ (x : Chip). rate_hertz x s.which s.hertz.now) s.hertz.now,
    )

pub returns-in-Err : goal.returns-in-Err
unfolding rate_in hertz_in
returns-in-Err c =
    let e = c.in-Err.ensures in (
      rw (c.from-in-Err.ensures, c.from.ensures) (refused _ _ e _ (λ (n : ℕ). n * 16777216)),
      refused _ _ e _ (λ (n : ℕ). c.args.hertz.now),
    )
