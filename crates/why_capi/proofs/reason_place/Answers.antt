-- `why_capi::reason_place` meets its contract.
-- Assumes nothing.
use Rattle.why_capi.specs.Told.{reason_place}
use Rattle.why_capi.proofs.reason_place.Goals as goal

pub returns-in-NotRequested : goal.returns-in-NotRequested
unfolding reason_place
returns-in-NotRequested c = simp c.in-NotRequested.is

pub returns-in-AlreadySet : goal.returns-in-AlreadySet
unfolding reason_place
returns-in-AlreadySet c = simp c.in-AlreadySet.is

pub returns-in-Event : goal.returns-in-Event
unfolding reason_place
returns-in-Event c = simp c.in-Event.is
