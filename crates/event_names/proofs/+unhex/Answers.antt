-- `event_names::unhex` meets its contract.
use mathlib.Core.Path.{refl}
use Rattle.event_names.proofs.Digits.{unhex_none, unhex_left, unhex_high, unhex_low, unhex_both}
use Rattle.event_names.proofs.+unhex.Goals as goal

pub returns-then-t-eq0 : goal.returns-then-t-eq0
returns-then-t-eq0 t c = rw (← unhex_none _ _ c.if-n-eq0.true c.if-t-eq0.true) refl

pub returns-else-t-eq0 : goal.returns-else-t-eq0
returns-else-t-eq0 t c = rw (← unhex_left _ _ c.if-n-eq0.true c.if-t-eq0.false) refl

pub returns-in_err-unhex : goal.returns-in_err-unhex
returns-in_err-unhex t c = rw c.from_residual.ensures (unhex_high _ _ c.if-n-eq0.false c.in_err-unhex.ensures)

pub returns-in_err-digit_of : goal.returns-in_err-digit_of
returns-in_err-digit_of t c = rw c.from_residual-in_err-digit_of.ensures (unhex_low _ _ c.if-n-eq0.false c.in_err-digit_of.ensures)

pub returns : goal.returns
returns t c = unhex_both _ _ _ _ _ c.if-n-eq0.false c.in_ok-unhex.ensures c.in_ok-digit_of.ensures c.joined.ensures
