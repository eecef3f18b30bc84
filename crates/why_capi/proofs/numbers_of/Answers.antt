-- `why_capi::numbers_of` meets its contract.
-- Assumes nothing.
use Rattle.why_capi.specs.Told.{numbers_of}
use borrow.Author.Rules.{rules}
use Rattle.why_capi.proofs.numbers_of.Goals as goal

pub reason_code-requires : goal.reason_code-requires
unfolding numbers_of
reason_code-requires c = search rules

pub reason_place-requires : goal.reason_place-requires
unfolding numbers_of
reason_place-requires c = search rules

pub reason_code-requires-2 : goal.reason_code-requires-2
unfolding numbers_of
reason_code-requires-2 c = search rules

pub reason_place-requires-2 : goal.reason_place-requires-2
unfolding numbers_of
reason_place-requires-2 c = search rules

pub reason_code-requires-3 : goal.reason_code-requires-3
unfolding numbers_of
reason_code-requires-3 c = search rules

pub reason_place-requires-3 : goal.reason_place-requires-3
unfolding numbers_of
reason_place-requires-3 c = search rules

pub reason_code-requires-4 : goal.reason_code-requires-4
unfolding numbers_of
reason_code-requires-4 c = search rules

pub reason_place-requires-4 : goal.reason_place-requires-4
unfolding numbers_of
reason_place-requires-4 c = search rules

pub reason_code-requires-5 : goal.reason_code-requires-5
unfolding numbers_of
reason_code-requires-5 c = search rules

pub reason_place-requires-5 : goal.reason_place-requires-5
unfolding numbers_of
reason_place-requires-5 c = search rules

pub reason_code-requires-6 : goal.reason_code-requires-6
unfolding numbers_of
reason_code-requires-6 c = search rules

pub reason_place-requires-6 : goal.reason_place-requires-6
unfolding numbers_of
reason_place-requires-6 c = search rules

pub returns : goal.returns
unfolding numbers_of
returns c = simp (c.reason_place-6.ensures, c.reason_code-6.ensures, c.reason_place-5.ensures, c.reason_code-5.ensures, c.reason_place-4.ensures, c.reason_code-4.ensures, c.reason_place-3.ensures, c.reason_code-3.ensures, c.reason_place-2.ensures, c.reason_code-2.ensures, c.reason_place.ensures, c.reason_code.ensures)
