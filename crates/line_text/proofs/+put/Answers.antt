-- `line_text::put` meets its contract.
-- Assumes nothing.
use native.Mathlib.Omega.{arith}
use Prim.Native.Nat.{◌-◌, ◌/◌}
use Rattle.line_text.proofs.Parts.{put_no_digits, put_zero, put_one, put_size, written_length}
use Rattle.line_text.proofs.+put.Goals as goal

pub returns-then-n-eq0 : goal.returns-then-n-eq0
returns-then-n-eq0 t c = put_no_digits _ _ _ _ c.if-n-eq0.true

pub returns-then-v-eq0 : goal.returns-then-v-eq0
returns-then-v-eq0 t c = put_zero _ _ _ _ c.if-v-eq0.true

pub bounds-buf-e : goal.bounds-buf-e
bounds-buf-e t c =
    let one = written_length (c.args.n - 1) (c.args.v / 256) in
    let size = put_size c.put-e.ensures (omega (arith, one)) in
    omega (arith, c.put-e.ensures.ends)

pub returns : goal.returns
returns t c = put_one _ _ _ _ _ _ c.if-n-eq0.false c.if-v-eq0.false c.put-e.ensures c.requires
