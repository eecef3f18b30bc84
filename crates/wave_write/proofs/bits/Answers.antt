-- `wave_write::bits` meets its contract.
use Rattle.std.proofs.Common.{◌≡◌, ◌+◌, ◌-◌, arith, refl}
use Rattle.wave_write.proofs.Laws.{bits_begin, bits_more, bits_end}
use Rattle.wave_write.proofs.bits.Goals as goal

pub loop-i-init : goal.loop-i-init
loop-i-init c =
    let z : c.args.from + c.args.n - c.args.from ≡ c.args.n = omega arith in rw z (bits_begin _ _ _ _)

pub bounds-out-i : goal.bounds-out-i
bounds-out-i c = omega (arith, c.loop-i.invariant.place, c.loop-i.invariant.size, c.requires)

pub loop-i-preserved : goal.loop-i-preserved
loop-i-preserved c =
    let z : c.args.from + c.args.n - (c.loop-i.i + 1) ≡ c.args.from + c.args.n - c.loop-i.i - 1 = omega arith in
    rw z (bits_more c.loop-i.invariant (omega arith) c.high_bit.ensures refl)

pub shape_of-out : goal.shape_of-out
shape_of-out c = c.loop-i.invariant.size

pub returns : goal.returns
returns c =
    let z : c.args.from + c.args.n ≡ c.loop-i.i = omega arith in rw z (bits_end c.loop-i.invariant (omega arith))
