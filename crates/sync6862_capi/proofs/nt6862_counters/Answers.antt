-- `sync6862_capi::nt6862_counters` meets its contract.
use Rattle.std.proofs.Common.{rules, ◌≡◌, sym, ◌∙◌, length}
use borrow.Author.Tests.{ne_eqb}
use Rattle.sync6862_capi.specs.Lent.{lent}
use Rattle.sync6862_capi.proofs.Answered.{lent_done, lent_refused}
use Rattle.sync6862_capi.proofs.nt6862_counters.Goals as goal

pub returns-in-Ok : goal.returns-in-Ok
returns-in-Ok c =
    let whole : c.in-Some.n.now ≡ c.args.state.now = search rules in
    let twelve : length c.args.state.now ≡ 12 = search rules in
    let e = lent_done c.args.state.now _ _ _ twelve whole _ (sym c.call.ensures ∙ c.in-Ok.is) in
    (e.0, c.copy_from_slice.ensures.after ∙ e.1)

pub returns-in-Err : goal.returns-in-Err
returns-in-Err c =
    let whole : c.in-Some.n.now ≡ c.args.state.now = search rules in
    let twelve : length c.args.state.now ≡ 12 = search rules in
    let e = lent_refused c.args.state.now _ _ _ twelve whole _ (sym c.call.ensures ∙ c.in-Err.is) in
    (c.number.ensures ∙ e.0, e.1)

pub returns-in-None : goal.returns-in-None
unfolding lent
returns-in-None c = let other = ne_eqb _ _ c.in-None.ensures.cases in (simp other, simp other)
