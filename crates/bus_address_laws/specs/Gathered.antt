-- An address while its bits come in: what a state of it is.
use Rattle.std.specs.Prelude.{◌≡◌, true, ℕ}
use Rattle.bus.specs.declared.Phase.TheVariants.{Address}
use Rattle.chip.specs.declared.Chip.{Chip}
use Rattle.chip_flag_laws.specs.Causes.{in_ddc2b}

-- in DDC2B so many bits of an address are gathered, and these
pub record Gathers (n bits : ℕ) (c : Chip) : Type 0 where
  pub ddc2b : in_ddc2b c ≡ true
  pub phase : c.core.bus.phase ≡ Address n bits
