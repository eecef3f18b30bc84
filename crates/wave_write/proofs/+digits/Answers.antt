-- `wave_write::digits` meets its contract.
-- Assumes nothing.
use native.Mathlib.Omega.{arith}
use Prim.Native.Nat.{◌-◌, ◌/◌}
use Rattle.wave_write.proofs.Laws.{wrote_one, wrote_then, digits_length, one_digit, no_digit, more_digits}
use Rattle.wave_write.proofs.+digits.Goals as goal

pub returns-then-k-eq0 : goal.returns-then-k-eq0
returns-then-k-eq0 t c = rw (c.digit.ensures, no_digit _ c.args.n c.if-k-eq0.true) (wrote_one _ _ _)

pub returns-then-n-lt10 : goal.returns-then-n-lt10
returns-then-n-lt10 t c = rw (c.digit-then-n-lt10.ensures, one_digit c.args.k _ c.if-n-lt10.true) (wrote_one _ _ _)

pub bounds-out-m : goal.bounds-out-m
bounds-out-m t c =
    let size = c.digits-m.auto.out in
    let end = c.digits-m.ensures.to in
    let most = digits_length (c.args.k - 1) (c.args.n / 10) in
    let some = c.if-k-eq0.false in
    omega (arith, c.requires)

pub overflow_add-result-2 : goal.overflow_add-result-2
overflow_add-result-2 t c =
    let size = c.digits-m.auto.out in
    let end = c.digits-m.ensures.to in
    let most = digits_length (c.args.k - 1) (c.args.n / 10) in
    let some = c.if-k-eq0.false in
    omega (arith, c.requires)

pub returns : goal.returns
returns t c =
    let some = c.if-k-eq0.false in
    rw (c.digit-2.ensures, more_digits c.args.k (c.args.k - 1) c.args.n (omega arith) c.if-n-lt10.false)
    (wrote_then c.digits-m.ensures (wrote_one _ _ _))
