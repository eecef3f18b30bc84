-- `vcd::declare` meets its contract.
-- Assumes nothing.
use lib.ListN.{length-set}
use Rattle.vcd.specs.Header.{heading, declares}
use Rattle.vcd.proofs.Declaring.{one_more_entry}
use mathlib.Core.Path.{ap}
use native.Mathlib.Omega.{arith}
use borrow.Author.Tests.{lt-ltb, le-ltb}
use borrow.Author.Rules.{rules}
use Rattle.vcd.proofs.declare.Goals as goal

pub free_pin-pin-requires : goal.free_pin-pin-requires
unfolding declares
free_pin-pin-requires c = search rules

pub bounds-places-n-then-n-lt32 : goal.bounds-places-n-then-n-lt32
unfolding declares
bounds-places-n-then-n-lt32 c = simp length-set (omega arith)

pub one_more-requires : goal.one_more-requires
unfolding declares
one_more-requires c = search rules

pub returns-then-n-lt32 : goal.returns-then-n-lt32
unfolding declares
returns-then-n-lt32 c =
    let a = c.args in let v = a.h.variable in simp (c.one_more.ensures, lt-ltb _ _ c.if-n-lt32.true) (rw (← (c.free_pin-pin.ensures a.text.now a.places.now)) (ap (heading _) (one_more_entry a.text.now a.places.now a.pins.now a.h.entries v.from v.to c.free_pin-pin.result (omega arith) (omega arith))))

pub too_many-requires : goal.too_many-requires
unfolding declares
too_many-requires c = search rules

pub returns : goal.returns
unfolding declares
returns c = simp (c.too_many.ensures, le-ltb _ _ c.if-n-lt32.false)
