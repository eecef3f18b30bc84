-- `vcd_body::is_single` meets its contract.
-- Assumes nothing.
use mathlib.Core.Path.{sym, ◌∙◌}
use Prim.Native.Nat.{◌+◌}
use native.Mathlib.Omega.{arith}
use Rattle.vcd_text.proofs.Laws.{word_more, word_stops}
use Rattle.vcd_body.proofs.Running.{never}
use Rattle.vcd_body.proofs.is_single.Goals as goal

pub returns-then-text-from-lt2 : goal.returns-then-text-from-lt2
returns-then-text-from-lt2 c = λ e. absurd (never e)

pub returns-then-white : goal.returns-then-white
returns-then-white c = λ e. absurd (never e)

pub returns : goal.returns
returns c =
    let a = c.args in
    λ e.
    (omega (arith, c.if-text-from-lt2.false), word_stops a.text.now (a.from + 1) (omega (arith, c.if-text-from-lt2.false)) (sym c.white-2.ensures ∙ e) ∙ word_more a.text.now a.from (omega (arith, c.if-text-from-lt2.false)) (sym c.white.ensures ∙ c.if-white.false))
