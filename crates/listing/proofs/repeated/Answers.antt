-- `listing::repeated` meets its contract: what is left of the times, from here, comes to what the whole comes to.
-- Assumes nothing.
use mathlib.Core.Path.{◌≡◌, sym, ap, ◌∙◌}
use Prim.Native.Nat.{ℕ, ◌+◌, ◌-◌}
use native.Mathlib.Omega.{arith}
use Rattle.listing.specs.declared.Progress.{Progress}
use Rattle.listing.proofs.Reading.{once, none}
use Rattle.listing.specs.Listing.{repeated, given_at}
use Rattle.listing.proofs.repeated.Goals as goal

pub loop-done-init : goal.loop-done-init
loop-done-init c =
    let all : c.args.times - 0 ≡ c.args.times = omega arith in
    ap (λ (n : ℕ). repeated n c.args.start c.args.word c.args.expected) all

pub loop-done-preserved : goal.loop-done-preserved
loop-done-preserved c =
    let left = c.args.times - c.loop-done._done in
    let next : c.args.times - (c.loop-done._done + 1) ≡ left - 1 = omega arith in
    ap (λ (n : ℕ). repeated n c.given_at-p.result c.args.word c.args.expected) next
    ∙ ap (λ (p : Progress). repeated (left - 1) p c.args.word c.args.expected) c.given_at-p.ensures
    ∙ once left c.loop-done.p c.args.word c.args.expected (omega arith)
    ∙ c.loop-done.invariant

pub returns : goal.returns
returns c = none (c.args.times - c.loop-done._done) _ _ _ (omega arith) ∙ c.loop-done.invariant
