-- What the C call leaves in the place for the count (document 02, Wish 11).
use Rattle.std.specs.Prelude.{ℕ}
use Rattle.plain_bus.specs.declared.Reading.{Reading}
use Rattle.plain_bus.specs.declared.Reading.TheVariants.{Listed, BadLine, BadLevel, TooFewPlaces}

-- the addresses listed; as it was where the list is refused
abbrev pub count_left : Reading → ℕ → ℕ
count_left (Listed count) old = count
count_left BadLine old = old
count_left BadLevel old = old
count_left TooFewPlaces old = old
