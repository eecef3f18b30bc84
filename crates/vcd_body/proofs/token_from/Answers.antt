-- `vcd_body::token_from` meets its contract.
-- Assumes nothing.
use mathlib.Core.Path.{sym, ◌∙◌}
use Prim.Native.Nat.{◌+◌}
use native.Mathlib.Omega.{arith}
use Rattle.vcd_text.proofs.Laws.{blank_more, blank_stop}
use Rattle.vcd_body.proofs.token_from.Goals as goal

pub returns-then-white : goal.returns-then-white
returns-then-white c =
    let a = c.args in
    blank_stop a.text.now (a.from + 1) (omega (arith, c.if-text-from-lt2.false)) (sym c.white-then-white.ensures ∙ c.if-white-2.false) ∙ blank_more a.text.now a.from (omega (arith, c.if-text-from-lt2.false)) (sym c.white.ensures ∙ c.if-white.true)

pub returns : goal.returns
returns c =
    let a = c.args in
    blank_stop a.text.now a.from (omega (arith, c.if-text-from-lt2.false)) (sym c.white.ensures ∙ c.if-white.false)
