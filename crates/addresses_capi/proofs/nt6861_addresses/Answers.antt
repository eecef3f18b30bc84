-- `addresses_capi::nt6861_addresses` meets its contract.
-- Assumes nothing.
use mathlib.Core.Path.{refl, sym, ◌∙◌}
use Rattle.addresses_capi.proofs.nt6861_addresses.Goals as goal

pub returns-in-Listed : goal.returns-in-Listed
returns-in-Listed c = rw (sym c.read-read.ensures.0 ∙ c.in-Listed.is) (refl, c.read-read.ensures.1, refl)

pub returns-in-BadLine : goal.returns-in-BadLine
returns-in-BadLine c = rw (sym c.read-read.ensures.0 ∙ c.in-BadLine.is) (refl, c.read-read.ensures.1, refl)

pub returns-in-BadLevel : goal.returns-in-BadLevel
returns-in-BadLevel c = rw (sym c.read-read.ensures.0 ∙ c.in-BadLevel.is) (refl, c.read-read.ensures.1, refl)

pub returns-in-TooFewPlaces : goal.returns-in-TooFewPlaces
returns-in-TooFewPlaces c = rw (sym c.read-read.ensures.0 ∙ c.in-TooFewPlaces.is) (refl, c.read-read.ensures.1, refl)
