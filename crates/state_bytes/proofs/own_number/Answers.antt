-- `state_bytes::own_number` meets its contract.
-- Assumes nothing.
use Rattle.state_bytes.specs.Layout.{own_number}
use Rattle.state_bytes.proofs.own_number.Goals as goal

pub returns-in-A0 : goal.returns-in-A0
unfolding own_number
returns-in-A0 c = simp c.in-A0.is

pub returns-in-IiAdr : goal.returns-in-IiAdr
unfolding own_number
returns-in-IiAdr c = simp c.in-IiAdr.is

pub returns-in-Both : goal.returns-in-Both
unfolding own_number
returns-in-Both c = simp c.in-Both.is
