-- `rates::by_field` meets its contract.
use Rattle.std.proofs.Common.{rules, ◌≡◌, sym, ◌∙◌, refl, ap, Err}
use Rattle.rates.specs.Hertz.{line_hz}
use Rattle.rates.specs.declared.Rate.TheVariants.{LineRate}
use Rattle.rates.specs.Report.{by_field, rate_number}
use Rattle.rates.proofs.Cases.{told_err, told_ok, told_number, both_positive}
use Rattle.rates.proofs.by_field.Goals as goal

pub line_hz-requires : goal.line_hz-requires
line_hz-requires c =
    let fine = told_ok _ _ tt tt (sym c.latched.ensures ∙ c.in_ok-latched.was) in
    let least = both_positive c.args.h.latch.0 c.args.v.latch.0 fine.1 in
    (least.0, c.requires.0, least.1, c.requires.1)

pub returns-in_err-latched : goal.returns-in_err-latched
unfolding by_field
returns-in_err-latched c =
    let is : c.from_residual.result ≡ Err c.in_err-latched.field-0.0 = search rules in
    let told = is ∙ sym (told_err _ _ _ tt (LineRate (line_hz c.args.h.latch c.args.v.latch)) (sym c.latched.ensures ∙ c.in_err-latched.was)) in
    (told, ap rate_number told ∙ told_number _ _ _)

pub returns : goal.returns
unfolding by_field rate_number
returns c =
    let fine = told_ok _ _ tt tt (sym c.latched.ensures ∙ c.in_ok-latched.was) in
    (simp (c.line_hz.ensures, fine.0, fine.1), refl)
