-- `why_capi::sort_code` meets its contract.
-- Assumes nothing.
use Rattle.why_capi.specs.Told.{sort_code}
use borrow.Author.Rules.{rules}
use Rattle.why_capi.proofs.sort_code.Goals as goal

pub own_code-requires : goal.own_code-requires
unfolding sort_code
own_code-requires c = search rules

pub returns-in-VsyncRise : goal.returns-in-VsyncRise
unfolding sort_code
returns-in-VsyncRise c = simp c.in-VsyncRise.is

pub returns-in-P16Rise : goal.returns-in-P16Rise
unfolding sort_code
returns-in-P16Rise c = simp c.in-P16Rise.is

pub returns-in-Timer : goal.returns-in-Timer
unfolding sort_code
returns-in-Timer c = simp c.in-Timer.is

pub returns-in-MatchedAddress : goal.returns-in-MatchedAddress
unfolding sort_code
returns-in-MatchedAddress c = simp (c.own_code.ensures, c.in-MatchedAddress.is)

pub returns-in-NinthClock : goal.returns-in-NinthClock
unfolding sort_code
returns-in-NinthClock c = simp c.in-NinthClock.is

pub returns-in-Ddc1Load : goal.returns-in-Ddc1Load
unfolding sort_code
returns-in-Ddc1Load c = simp c.in-Ddc1Load.is

pub returns-in-SclFall : goal.returns-in-SclFall
unfolding sort_code
returns-in-SclFall c = simp c.in-SclFall.is
