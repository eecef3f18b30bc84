-- `event_names::hex` meets its contract.
-- Assumes nothing.
use native.Mathlib.Omega.{arith}
use borrow.Author.Rules.{rules}
use Prim.Native.Nat.{◌%◌, ◌<◌}
use Rattle.event_names.proofs.Digits.{hex_none, hex_one, hex_fits, hex_small}
use Rattle.event_names.proofs.+hex.Goals as goal

pub returns-then-n-eq0 : goal.returns-then-n-eq0
returns-then-n-eq0 t c = hex_none _ _ c.if-n-eq0.true

pub overflow_mul-result : goal.overflow_mul-result
overflow_mul-result t c =
    let h : c.hex.result < 72057594037927936 = rw c.hex.ensures (hex_fits _ _ (omega arith)) in
    search rules

pub overflow_add-result : goal.overflow_add-result
overflow_add-result t c =
    let h : c.hex.result < 72057594037927936 = rw c.hex.ensures (hex_fits _ _ (omega arith)) in
    let k : c.hex_digit.result < 256 = rw c.hex_digit.ensures (hex_small (c.args.w % 16) (omega arith)) in
    search rules

pub returns : goal.returns
returns t c = rw (c.hex_digit.ensures, c.hex.ensures) (hex_one _ _ c.if-n-eq0.false)
