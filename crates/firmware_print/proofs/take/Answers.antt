-- `firmware_print::take` meets its contract.
-- Assumes nothing.
use mathlib.Core.Path.{refl, sym, ◌∙◌}
use native.Mathlib.Omega.{arith}
use Rattle.firmware_print.proofs.Stops.{never, stops_before, stops_kept, marked_kept, nothing_done}
use Rattle.firmware_print.proofs.take.Goals as goal

pub returns-then-goes_on : goal.returns-then-goes_on
returns-then-goes_on g c =
    let run = c.args.run in (
      (λ h.
          let kept = (nothing_done _ _ _ _ _ _ _ c.proceed-r.ensures (stops_before _ _ _ _ _ (omega arith) h)).0 in
          never _ (sym c.goes_on.ensures ∙ c.if-goes_on.true) (stops_kept c.proceed-r.result run _ kept h)),
      record {
        before = c.proceed-r.result;
        proceeded = rw (← c.number_of.ensures, ← c.min.ensures) c.proceed-r.ensures;
        taken = rw (c.in-Some.is, ← c.goes_on.ensures, c.if-goes_on.true) c.give.ensures;
      },
    )

pub returns-else-goes_on : goal.returns-else-goes_on
returns-else-goes_on g c =
    let run = c.args.run in (
      (λ h.
          let kept = nothing_done _ _ _ _ _ _ _ c.proceed-r.ensures (stops_before _ _ _ _ _ (omega arith) h) in
          (marked_kept c.proceed-r.result c.proceed-r.result run refl kept.0, kept.1)),
      record {
        before = c.proceed-r.result;
        proceeded = rw (← c.number_of.ensures, ← c.min.ensures) c.proceed-r.ensures;
        taken = rw (c.in-Some.is, ← c.goes_on.ensures, c.if-goes_on.false) refl;
      },
    )

pub returns-in-None : goal.returns-in-None
returns-in-None g c =
    let run = c.args.run in (
      (λ h.
          let kept = nothing_done _ _ _ _ _ _ _ c.proceed-r.ensures (stops_before _ _ _ _ _ (omega arith) h) in
          (marked_kept c.finish.result c.proceed-r.result run c.finish.ensures kept.0, kept.1)),
      record {
        before = c.proceed-r.result;
        proceeded = rw (← c.number_of.ensures, ← c.min.ensures) c.proceed-r.ensures;
        taken = rw c.in-None.is c.finish.ensures;
      },
    )
