-- `vcd_body::read_digits` meets its contract.
-- Assumes nothing.
use mathlib.Core.Path.{◌≡◌, refl, sym, ◌∙◌}
use lib.ListN.{length}
use native.Mathlib.Omega.{arith}
use Rattle.vcd_text.proofs.Laws.{word_more, word_stops, word_ends}
use Rattle.vcd_body.proofs.Running.{digit_on, digits_done, digits_whole}
use borrow.Author.Rules.{rules}
use Rattle.vcd_body.proofs.read_digits.Goals as goal

pub loop-i-init : goal.loop-i-init
loop-i-init c = (search rules, search rules, refl, refl)

pub returns-then-white : goal.returns-then-white
returns-then-white c =
    let a = c.args in
    (c.loop-i.invariant.0, λ l. ((word_stops a.text.now c.loop-i.i (search rules) (sym c.white.ensures ∙ c.if-white.true)) ∙ c.loop-i.invariant.2, digits_whole a.text.now a.from c.loop-i.i c.loop-i.v l ((word_stops a.text.now c.loop-i.i (search rules) (sym c.white.ensures ∙ c.if-white.true)) ∙ c.loop-i.invariant.2) c.loop-i.invariant.1 (sym c.loop-i.invariant.3 ∙ digits_done a.text.now c.loop-i.i c.loop-i.v (word_stops a.text.now c.loop-i.i (search rules) (sym c.white.ensures ∙ c.if-white.true)))))

pub overflow_mul-v : goal.overflow_mul-v
overflow_mul-v c = record { fits = omega (arith, (c.is_plain_digit.ensures c.if-is_plain_digit.true).2) }

pub overflow_sub-b : goal.overflow_sub-b
overflow_sub-b c = omega (arith, (c.is_plain_digit.ensures c.if-is_plain_digit.true).0)

pub overflow_add-v : goal.overflow_add-v
overflow_add-v c = record { fits = omega (arith, c.from.ensures, (c.is_plain_digit.ensures c.if-is_plain_digit.true).0, (c.is_plain_digit.ensures c.if-is_plain_digit.true).1, (c.is_plain_digit.ensures c.if-is_plain_digit.true).2) }

pub loop-i-preserved : goal.loop-i-preserved
loop-i-preserved c =
    let a = c.args in
    let d = c.is_plain_digit.ensures c.if-is_plain_digit.true in
    (omega (arith, c.loop-i.invariant.0), omega arith, word_more a.text.now c.loop-i.i (search rules) (sym c.white.ensures ∙ c.if-white.false) ∙ c.loop-i.invariant.2, rw c.from.ensures (digit_on a.text.now c.loop-i.i c.loop-i.v (search rules) (sym c.white.ensures ∙ c.if-white.false) d.0 d.1 d.2) ∙ c.loop-i.invariant.3)

pub returns-else-is_plain_digit : goal.returns-else-is_plain_digit
returns-else-is_plain_digit c = (search rules, λ l. absurd (omega arith))

pub returns : goal.returns
returns c =
    let a = c.args in
    let last : c.loop-i.i ≡ length a.text.now = omega arith in
    rw (← last) (c.loop-i.invariant.0, λ l. ((word_ends a.text.now c.loop-i.i (search rules)) ∙ c.loop-i.invariant.2, digits_whole a.text.now a.from c.loop-i.i c.loop-i.v l ((word_ends a.text.now c.loop-i.i (search rules)) ∙ c.loop-i.invariant.2) c.loop-i.invariant.1 (sym c.loop-i.invariant.3 ∙ digits_done a.text.now c.loop-i.i c.loop-i.v (word_ends a.text.now c.loop-i.i (search rules)))))
