-- `plain_bus::own_number` meets its contract.
-- Assumes nothing.
use Rattle.plain_bus.proofs.own_number.Goals as goal

pub returns-in-A0 : goal.returns-in-A0
returns-in-A0 c = simp c.in-A0.is

pub returns-in-IiAdr : goal.returns-in-IiAdr
returns-in-IiAdr c = simp c.in-IiAdr.is

pub returns-in-Both : goal.returns-in-Both
returns-in-Both c = simp c.in-Both.is
