-- `state_rate::reported` meets its contract.
use mathlib.Core.Path.{refl, sym, ◌∙◌}
use Rattle.state_rate.specs.Rate.{report_word, report_hertz}
use Rattle.state_rate.proofs.reported.Goals as goal

pub returns-in-Ok : goal.returns-in-Ok
unfolding report_word report_hertz
returns-in-Ok c = rw (sym c.rate-rate.ensures.0 ∙ c.in-Ok.is) (refl, c.hertz.ensures)

pub returns-in-Err : goal.returns-in-Err
unfolding report_hertz
returns-in-Err c = rw (sym c.rate-rate.ensures.0 ∙ c.in-Err.is) (c.no_rate_word.ensures, refl)
