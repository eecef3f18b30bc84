-- `firmware_event_list::check` meets its contract.
-- Assumes nothing.
use mathlib.Core.Path.{sym, ap, ◌∙◌}
use Prim.Native.Nat.{◌+◌}
use borrow.Author.Rules.{rules}
use lib.ListN.{drop}
use Rattle.std.specs.Prelude.{Result}
use Rattle.std.proofs.lemmas.Result.{err_from_is_err_and}
use Rattle.firmware_event_list.specs.declared.Checked.{Checked}
use Rattle.firmware_event_list.specs.declared.MalformedLine.{MalformedLine}
use Rattle.firmware_event_list.specs.Lists.{checked_on}
use Rattle.firmware_event_list.proofs.Reading.{check_stop, check_next, check_end}
use Rattle.firmware_event_list.proofs.check.Goals as goal

pub returns-in_err-checked : goal.returns-in_err-checked
returns-in_err-checked c =
    let bytes = c.args.bytes.now in
    let p = err_from_is_err_and c.from_residual.result c.from_residual.ensures.1 in
    rw
    (p.1, p.2)
    (check_stop _ bytes ∙ ap (λ (x : Result Checked MalformedLine). checked_on x bytes) (sym c.in_err-checked.was))

pub returns-in_err-checked-2 : goal.returns-in_err-checked-2
returns-in_err-checked-2 c =
    let bytes = c.args.bytes.now in
    let rest = drop (c.loop-b.b-index + 1) bytes in
    let p = err_from_is_err_and c.from_residual-in_err-checked-2.result c.from_residual-in_err-checked-2.ensures.1 in
    rw
    (p.1, p.2)
    (check_stop _ rest
    ∙ ap (λ (x : Result Checked MalformedLine). checked_on x rest) (sym c.in_err-checked-2.was ∙ c.checked_byte.ensures)
    ∙ sym (check_next c.loop-b.checked bytes c.loop-b.b-index (search rules))
    ∙ c.loop-b.invariant
    ∙ ap (λ (x : Result Checked MalformedLine). checked_on x bytes) (sym c.in_ok-checked.was))

pub loop-b-preserved : goal.loop-b-preserved
loop-b-preserved c =
    let bytes = c.args.bytes.now in
    let rest = drop (c.loop-b.b-index + 1) bytes in
    ap (λ (x : Result Checked MalformedLine). checked_on x rest) (sym c.in_ok-checked-2.was ∙ c.checked_byte.ensures)
    ∙ sym (check_next c.loop-b.checked bytes c.loop-b.b-index (search rules))
    ∙ c.loop-b.invariant

pub returns : goal.returns
returns c =
    sym (check_end c.loop-b.checked _ c.loop-b.b-index (search rules))
    ∙ c.loop-b.invariant
    ∙ ap (λ (x : Result Checked MalformedLine). checked_on x c.args.bytes.now) (sym c.in_ok-checked.was)
