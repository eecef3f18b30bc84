-- What the loop of `listing::read` keeps.
use mathlib.Core.Path.{◌≡◌}
use lib.ListN.{drop}
use Rattle.listing.specs.Listing.{read}
use Rattle.listing.proofs.read.Given as goal

abbrev pub invariant-loop-b : goal.invariant-loop-b
invariant-loop-b l = read l.p (drop l.b-index l.text) ≡ read l.initial.p l.text
