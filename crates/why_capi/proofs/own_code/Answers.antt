-- `why_capi::own_code` meets its contract.
-- Assumes nothing.
use Rattle.why_capi.specs.Told.{own_code}
use Rattle.why_capi.proofs.own_code.Goals as goal

pub returns-in-A0 : goal.returns-in-A0
unfolding own_code
returns-in-A0 c = simp c.in-A0.is

pub returns-in-IiAdr : goal.returns-in-IiAdr
unfolding own_code
returns-in-IiAdr c = simp c.in-IiAdr.is

pub returns-in-Both : goal.returns-in-Both
unfolding own_code
returns-in-Both c = simp c.in-Both.is
