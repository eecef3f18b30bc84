-- `chip_hold::hold_of` meets its contract.
-- Assumes nothing.
use Rattle.chip_hold.specs.Hold.{hold_of}
use Rattle.chip_hold.proofs.Cases.{told_none}
use Rattle.chip_hold.proofs.hold_of.Goals as goal

pub returns-in-Held : goal.returns-in-Held
unfolding hold_of
returns-in-Held c = simp c.in-Held.is

pub returns-in_default : goal.returns-in_default
returns-in_default c = told_none _ c.in_default.not-Held
