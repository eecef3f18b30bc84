-- `rates::by_interval` meets its contract.
use Rattle.std.proofs.Common.{rules, ◌≡◌, sym, ◌∙◌, refl, ap, Err}
use Rattle.rates.specs.Hertz.{interval_hz}
use Rattle.rates.specs.declared.Rate.TheVariants.{LineRate}
use Rattle.rates.specs.Report.{by_interval, rate_number}
use Rattle.rates.proofs.Cases.{told_err, told_ok, told_number}
use Rattle.rates.proofs.by_interval.Goals as goal

pub returns-in_err-latched : goal.returns-in_err-latched
unfolding by_interval
returns-in_err-latched c =
    let is : c.from_residual.result ≡ Err c.in_err-latched.field-0.0 = search rules in
    let told = is ∙ sym (told_err _ _ _ tt (LineRate (interval_hz c.args.h.latch)) (sym c.latched.ensures ∙ c.in_err-latched.was)) in
    (told, ap rate_number told ∙ told_number _ _ _)

pub returns : goal.returns
unfolding by_interval rate_number
returns c =
    let fine = told_ok _ _ tt tt (sym c.latched.ensures ∙ c.in_ok-latched.was) in
    (simp (c.interval_hz.ensures, fine.0, fine.1), refl)
