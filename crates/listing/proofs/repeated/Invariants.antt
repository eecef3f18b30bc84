-- What the loop of `listing::repeated` keeps.
use mathlib.Core.Path.{◌≡◌}
use Prim.Native.Nat.{◌-◌}
use Rattle.listing.specs.Listing.{repeated}
use Rattle.listing.proofs.repeated.Given as goal

abbrev pub invariant-loop-done : goal.invariant-loop-done
invariant-loop-done l = repeated (l.times - l._done) l.p l.word l.expected ≡ repeated l.times l.initial.p l.word l.expected
