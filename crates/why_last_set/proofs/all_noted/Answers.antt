-- `why_last_set::all_noted` meets its contract.
-- Assumes nothing.
use Rattle.why_last_set.specs.LastSet.{noted, all_noted}
use borrow.Author.Rules.{rules}
use Rattle.why_last_set.proofs.all_noted.Goals as goal

pub goes_up-requires : goal.goes_up-requires
unfolding all_noted noted
goes_up-requires c = search rules

pub last_at-requires : goal.last_at-requires
unfolding all_noted noted
last_at-requires c = search rules

pub goes_up-requires-2 : goal.goes_up-requires-2
unfolding all_noted noted
goes_up-requires-2 c = search rules

pub last_at-requires-2 : goal.last_at-requires-2
unfolding all_noted noted
last_at-requires-2 c = search rules

pub goes_up-requires-3 : goal.goes_up-requires-3
unfolding all_noted noted
goes_up-requires-3 c = search rules

pub last_at-requires-3 : goal.last_at-requires-3
unfolding all_noted noted
last_at-requires-3 c = search rules

pub goes_up-requires-4 : goal.goes_up-requires-4
unfolding all_noted noted
goes_up-requires-4 c = search rules

pub compared_in-requires : goal.compared_in-requires
unfolding all_noted noted
compared_in-requires c = search rules

pub address_at-requires : goal.address_at-requires
unfolding all_noted noted
address_at-requires c = search rules

pub goes_up-requires-5 : goal.goes_up-requires-5
unfolding all_noted noted
goes_up-requires-5 c = search rules

pub byte_sort-requires : goal.byte_sort-requires
unfolding all_noted noted
byte_sort-requires c = search rules

pub last_at-requires-4 : goal.last_at-requires-4
unfolding all_noted noted
last_at-requires-4 c = search rules

pub goes_up-requires-6 : goal.goes_up-requires-6
unfolding all_noted noted
goes_up-requires-6 c = search rules

pub last_at-requires-5 : goal.last_at-requires-5
unfolding all_noted noted
last_at-requires-5 c = search rules

pub returns : goal.returns
unfolding all_noted noted
returns c = simp (c.last_at-5.ensures, c.goes_up-6.ensures, c.last_at-4.ensures, c.byte_sort.ensures, c.goes_up-5.ensures, c.address_at.ensures, c.compared_in.ensures, c.goes_up-4.ensures, c.last_at-3.ensures, c.goes_up-3.ensures, c.last_at-2.ensures, c.goes_up-2.ensures, c.last_at.ensures, c.goes_up.ensures)
