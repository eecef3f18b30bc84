-- When a list of changes gets each number.
use Rattle.std.specs.Prelude.{ℕ, ◌≡◌, Bool, true, false, not, ◌&&◌, eqb}
use Rattle.std.specs.Prelude.{Some, None}
use Rattle.std.specs.declared.option.Option.{Option}
use Rattle.plain_bus.specs.declared.Fault.{Fault}
use Rattle.plain_bus.specs.declared.Fault.TheVariants.{OtherLine, OtherLevel}

-- the kinds of fault
abbrev pub is_line : Option Fault → Bool
is_line None = false
is_line (Some OtherLine) = true
is_line (Some OtherLevel) = false

abbrev pub is_level : Option Fault → Bool
is_level None = false
is_level (Some OtherLine) = false
is_level (Some OtherLevel) = true

abbrev pub is_good : Option Fault → Bool
is_good None = true
is_good (Some OtherLine) = false
is_good (Some OtherLevel) = false

-- a number and when it is given
pub record Exactly (number : ℕ) (fault : Option Fault) (short : Bool) : Type 0 where
  pub zero : eqb number 0 ≡ (is_good fault && not short)
  pub two : eqb number 2 ≡ is_line fault
  pub three : eqb number 3 ≡ is_level fault
  pub seven : eqb number 7 ≡ (is_good fault && short)
