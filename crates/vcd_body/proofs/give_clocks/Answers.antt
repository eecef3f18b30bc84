-- `vcd_body::give_clocks` meets its contract.
-- Assumes nothing.
use Rattle.vcd_body.proofs.Running.{clocks_lead}
use Rattle.vcd_body.proofs.give_clocks.Goals as goal

pub returns-then-has_room : goal.returns-then-has_room
returns-then-has_room c = λ find scale text p k.
    clocks_lead find scale text _ _ _ p _ _ _ _ _ k c.later-n.ensures (c.has_room.ensures c.if-has_room.true) c.clocks-put.ensures
