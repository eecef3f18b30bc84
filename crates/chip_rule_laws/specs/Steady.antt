-- A phase of DDC2B that only the ends of a clock move stays over every list that has none of them.
use Rattle.std.specs.Prelude.{◌≡◌, true, false}
use Rattle.bits.specs.Byte.{bit}
use Rattle.bus.specs.declared.Phase.{Phase}
use Rattle.chip.specs.declared.Core.{Core}

-- DDC2B with RESET high, in this phase
pub record In (p : Phase) (c : Core) : Type 0 where
  pub reset : c.reset ≡ true
  pub enddc : bit 3 c.bus.iists ≡ false
  pub md : bit 0 c.mdcon ≡ false
  pub phase : c.bus.phase ≡ p
