-- `plain_bus::list` meets its contract. The loop's invariant is `Listing`.
-- Assumes nothing.
use mathlib.Core.Path.{sym, ◌∙◌}
use native.Mathlib.Omega.{arith}
use Rattle.bits.proofs.Mask.{num_lt}
use Rattle.plain_bus.specs.Reading.{has_address}
use Rattle.plain_bus.proofs.Places.{listing_first, listing_more, listing_last, listing_end, all_put, room_place}
use Rattle.plain_bus.proofs.list.Goals as goal

pub loop-i-init : goal.loop-i-init
loop-i-init c = (omega arith, listing_first _ _ _)

pub put-requires : goal.put-requires
put-requires c = room_place _ _ _ _ c.loop-i.n c.loop-i.i _ c.loop-i-test.true c.transfer_at-t.ensures c.requires c.loop-i.invariant.1

pub counted-n-requires : goal.counted-n-requires
counted-n-requires c = omega arith

pub shape_of-places-then-ends : goal.shape_of-places-then-ends
shape_of-places-then-ends c =
    let turn = listing_last _ _ _ _ c.loop-i.n c.loop-i.i _ c.loop-i-test.true c.transfer_at-t.ensures c.requires
    c.loop-i.invariant.1 _ _ c.put.ensures c.counted-n.ensures (sym c.ends.ensures ∙ c.if-ends.true) in
    turn.same

pub returns-then-ends : goal.returns-then-ends
returns-then-ends c =
    let turn = listing_last _ _ _ _ c.loop-i.n c.loop-i.i _ c.loop-i-test.true c.transfer_at-t.ensures c.requires
    c.loop-i.invariant.1 _ _ c.put.ensures c.counted-n.ensures (sym c.ends.ensures ∙ c.if-ends.true) in
    all_put _ _ _ _ turn

pub loop-i-preserved : goal.loop-i-preserved
loop-i-preserved c =
    let turn = listing_more _ _ _ _ c.loop-i.n c.loop-i.i _ c.loop-i-test.true c.transfer_at-t.ensures c.requires
    c.loop-i.invariant.1 _ _ c.put.ensures c.counted-n.ensures (sym c.ends.ensures ∙ c.if-ends.false) in
    (omega (arith, c.counted-n.ensures, num_lt (has_address c.transfer_at-t.result)), turn)

pub shape_of-places : goal.shape_of-places
shape_of-places c = c.loop-i.invariant.1.same

pub returns : goal.returns
returns c = listing_end _ _ _ _ _ c.loop-i.i c.loop-i-test.false c.loop-i.invariant.1
