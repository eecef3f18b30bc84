-- `plain_bus::number` meets its contract.
-- Assumes nothing.
use Rattle.plain_bus.proofs.number.Goals as goal

pub returns-in-Listed : goal.returns-in-Listed
returns-in-Listed c = simp c.in-Listed.is

pub returns-in-BadLine : goal.returns-in-BadLine
returns-in-BadLine c = simp c.in-BadLine.is

pub returns-in-BadLevel : goal.returns-in-BadLevel
returns-in-BadLevel c = simp c.in-BadLevel.is

pub returns-in-TooFewPlaces : goal.returns-in-TooFewPlaces
returns-in-TooFewPlaces c = simp c.in-TooFewPlaces.is
