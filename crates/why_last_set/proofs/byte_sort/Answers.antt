-- `why_last_set::byte_sort` meets its contract.
-- Assumes nothing.
use Rattle.why_last_set.specs.LastSet.{byte_sort}
use Rattle.why_last_set.proofs.byte_sort.Goals as goal

pub returns-in-Off : goal.returns-in-Off
unfolding byte_sort
returns-in-Off c = simp c.in-Off.is

pub returns-in-Ddc1 : goal.returns-in-Ddc1
unfolding byte_sort
returns-in-Ddc1 c = simp c.in-Ddc1.is

pub returns-in-Ddc2b : goal.returns-in-Ddc2b
unfolding byte_sort
returns-in-Ddc2b c = simp c.in-Ddc2b.is
