-- The lines of the bus along a run: a line is 1 where its outside level is 1 and the chip does not pull it.
use Rattle.std.specs.Prelude.{ℕ, ◌≡◌, Bool, List, [], ◌∷◌}
use Rattle.bus.specs.Bus.{line, sda_pulled, scl_pulled}
use Rattle.chip.specs.declared.Chip.{Chip}
use Rattle.chip.specs.State.{mode_of}
use Rattle.step.specs.Step.{step}

abbrev pub sda_line_of : Chip → Bool
sda_line_of c = line (sda_pulled (mode_of c.core) c.core.bus.phase c.core.bus.shifter) c.core.sda

abbrev pub scl_line_of : Chip → Bool
scl_line_of c = line (scl_pulled (mode_of c.core) c.core.bus.phase) c.core.scl

-- both lines are at their outside levels
pub record LinesFree (c : Chip) : Type 0 where
  pub sda_level_lem : sda_line_of c ≡ c.core.sda
  pub scl_level : scl_line_of c ≡ c.core.scl

-- before each word of a run, and after the last
abbrev pub FreeThroughout : Chip → List ℕ → Type 0
FreeThroughout c [] = LinesFree c
FreeThroughout c (w ∷ ws) = LinesFree c × FreeThroughout (step c w).chip ws
