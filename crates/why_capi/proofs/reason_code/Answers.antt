-- `why_capi::reason_code` meets its contract.
-- Assumes nothing.
use Rattle.why_capi.specs.Told.{reason_code}
use borrow.Author.Rules.{rules}
use Rattle.why_capi.proofs.reason_code.Goals as goal

pub sort_code-requires : goal.sort_code-requires
unfolding reason_code
sort_code-requires c = search rules

pub returns-in-NotRequested : goal.returns-in-NotRequested
unfolding reason_code
returns-in-NotRequested c = simp c.in-NotRequested.is

pub returns-in-AlreadySet : goal.returns-in-AlreadySet
unfolding reason_code
returns-in-AlreadySet c = simp c.in-AlreadySet.is

pub returns-in-Event : goal.returns-in-Event
unfolding reason_code
returns-in-Event c = simp (c.sort_code.ensures, c.in-Event.is)
