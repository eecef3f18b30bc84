-- `rates::by_periods` meets its contract.
use Rattle.std.proofs.Common.{rules, ◌≡◌, sym, ◌∙◌, Err}
use Rattle.rates.specs.Hertz.{field_hz}
use Rattle.rates.specs.declared.Rate.TheVariants.{FieldRate}
use Rattle.rates.specs.Report.{by_periods}
use Rattle.rates.proofs.Cases.{told_err, told_ok, periods_says}
use Rattle.rates.proofs.by_periods.Goals as goal

pub returns-in_err-latched : goal.returns-in_err-latched
unfolding by_periods
returns-in_err-latched c =
    let is : c.from_residual.result ≡ Err c.in_err-latched.field-0.0 = search rules in
    periods_says _ _ (is ∙ sym (told_err _ _ _ tt (FieldRate (field_hz c.args.v.latch)) (sym c.latched.ensures ∙ c.in_err-latched.was)))

pub returns : goal.returns
unfolding by_periods
returns c =
    let fine = told_ok _ _ tt tt (sym c.latched.ensures ∙ c.in_ok-latched.was) in
    periods_says _ _ (simp (c.field_hz.ensures, fine.0, fine.1))
