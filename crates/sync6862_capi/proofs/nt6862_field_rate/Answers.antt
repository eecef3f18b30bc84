-- `sync6862_capi::nt6862_field_rate` meets its contract.
use Rattle.std.proofs.Common.{rules, ◌≡◌, length}
use borrow.Author.Tests.{eq-eqb, ne_eqb}
use lib.Ieee.{of_bits, round, neg}
use Rattle.sync6862_capi.specs.Lent.{field_lent}
use Rattle.sync6862_capi.proofs.nt6862_field_rate.Goals as goal

pub returns-in-Some : goal.returns-in-Some
unfolding field_lent of_bits round neg
returns-in-Some c =
    let whole : c.in-Some.n.now ≡ c.args.state.now = search rules in
    let twelve : length c.args.state.now ≡ 12 = search rules in
    simp (c.hertz.ensures, c.field.ensures, whole, eq-eqb _ _ twelve)

pub returns-in-None : goal.returns-in-None
unfolding field_lent of_bits round neg
returns-in-None c = simp (ne_eqb _ _ c.in-None.ensures.cases)
