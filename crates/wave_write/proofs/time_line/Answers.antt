-- `wave_write::time_line` meets its contract.
-- Assumes nothing.
use native.Mathlib.Omega.{arith}
use mathlib.Core.Path.{◌≡◌}
use lib.ListN.{length, length-set}
use Rattle.wave_write.proofs.Laws.{wrote_one, wrote_then, digits_length, time_text}
use Rattle.wave_write.proofs.time_line.Goals as goal

pub digits-m-requires : goal.digits-m-requires
digits-m-requires c = simp length-set (omega arith)

pub bounds-out-m : goal.bounds-out-m
bounds-out-m c =
    let call = c.digits-m in
    let size : length call.new.out ≡ length c.args.out.now = simp length-set at call.auto.out in
    let end = call.ensures.to in
    let most = digits_length 19 c.args.t in
    omega arith

pub overflow_add-result : goal.overflow_add-result
overflow_add-result c =
    let call = c.digits-m in
    let size : length call.new.out ≡ length c.args.out.now = simp length-set at call.auto.out in
    let end = call.ensures.to in
    let most = digits_length 19 c.args.t in
    omega (arith, c.well_formed.0.0)

pub shape_of-out : goal.shape_of-out
shape_of-out c = simp length-set (simp length-set at c.digits-m.auto.out)

pub returns : goal.returns
returns c = rw (time_text c.args.t) (wrote_then (wrote_one _ _ 35) (wrote_then c.digits-m.ensures (wrote_one _ _ 10)))
