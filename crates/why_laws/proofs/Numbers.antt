-- 8 is told of every ill formed state, and of no other.
-- Assumes nothing.
use mathlib.Core.Path.{◌≡◌, refl}
use mathlib.Core.Bool.{Bool, true, false}
use mathlib.Core.List.{List}
use Prim.Native.Nat.{ℕ}
use Rattle.bits.specs.Byte.{pick}
use Rattle.chip.specs.declared.Chip.{Chip}
use Rattle.chip_well_formed.specs.WellFormed.{well_formed}
use Rattle.why_reasons.specs.Explain.{why, why_number}

number_by : (c : Chip) (ws : List ℕ) (b : Bool) → well_formed c ≡ b → why_number (why c ws) ≡ pick b 0 8
unfolding why
number_by c ws true e = rw e refl
number_by c ws false e = rw e refl

pub why_number_lem : (c : Chip) (ws : List ℕ) → why_number (why c ws) ≡ pick (well_formed c) 0 8
why_number_lem c ws = number_by c ws (well_formed c) refl
