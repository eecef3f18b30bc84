-- `listing::byte_read` meets its contract.
-- Assumes nothing.
use Rattle.listing.specs.Listing.{byte_read}
use borrow.Author.Rules.{rules}
use Rattle.listing.proofs.byte_read.Goals as goal

pub next_byte-requires : goal.next_byte-requires
unfolding byte_read
next_byte-requires c = search rules

pub returns-in-Agrees : goal.returns-in-Agrees
unfolding byte_read
returns-in-Agrees c = rw c.in-Agrees.is c.next_byte.ensures

pub returns-in-Malformed : goal.returns-in-Malformed
unfolding byte_read
returns-in-Malformed c = simp c.in-Malformed.is

pub returns-in-Differs : goal.returns-in-Differs
unfolding byte_read
returns-in-Differs c = simp c.in-Differs.is

pub returns-in-Empty : goal.returns-in-Empty
unfolding byte_read
returns-in-Empty c = simp c.in-Empty.is
