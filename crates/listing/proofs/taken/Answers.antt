-- `listing::taken` meets its contract.
-- Assumes nothing.
use Rattle.listing.specs.Listing.{taken}
use borrow.Author.Rules.{rules}
use Rattle.listing.proofs.taken.Goals as goal

pub passed-requires : goal.passed-requires
unfolding taken
passed-requires c = search rules

pub stopped-requires : goal.stopped-requires
unfolding taken
stopped-requires c = search rules

pub entered-requires : goal.entered-requires
unfolding taken
entered-requires c = search rules

pub returns-in-Within : goal.returns-in-Within
unfolding taken
returns-in-Within c = simp (c.passed.ensures, c.in-Within.is)

pub returns-in-Refused : goal.returns-in-Refused
unfolding taken
returns-in-Refused c = simp (c.stopped.ensures, c.in-Refused.is)

pub returns-in-Entry : goal.returns-in-Entry
unfolding taken
returns-in-Entry c = simp (c.entered.ensures, c.in-Entry.is)
