-- `listing::next_byte` meets its contract.
-- Assumes nothing.
use mathlib.Core.Path.{ap, ◌∙◌}
use borrow.Author.Rules.{rules}
use Rattle.listing.specs.Listing.{taken, byte_read}
use Rattle.listing.proofs.next_byte.Goals as goal

pub next-requires : goal.next-requires
unfolding byte_read
next-requires c = search rules

pub taken-requires : goal.taken-requires
unfolding byte_read
taken-requires c = search rules

pub returns : goal.returns
unfolding byte_read
returns c =
    let args = c.args in
    c.taken.ensures ∙ ap (taken args.p args.b) c.next.ensures
