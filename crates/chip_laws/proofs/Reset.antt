-- A reset gives a well formed core at any outside levels, port 1 having seven, and the array its reserved bits.
-- Assumes nothing.
use mathlib.Core.Path.{refl}
use mathlib.Core.Bool.{Bool}
use Prim.Native.Nat.{ℕ, ◌<◌}
use native.Mathlib.Omega.{arith}
use lib.Bits.{bit_and}
use lib.ListN.{get_or}
use borrow.Author.Tests.{eq-eqb}
use Rattle.bits.specs.Byte.{bit}
use Rattle.registers.specs.Table.{reset_value, resets, row_of}
use Rattle.registers.proofs.Rules.{resets_at}
use Rattle.sync.proofs.WellFormed.{zero_well}
use Rattle.chip.specs.declared.Pins.{Pins}
use Rattle.chip.specs.declared.Core.{Core}
use Rattle.chip.specs.State.{reset_at, reset_core}
use Rattle.chip_well_formed.specs.WellFormed.{reserved_mask, reserved_at}
use Rattle.chip_laws.specs.Formed.{Reserved}
use Rattle.chip_laws.proofs.Formed.{Formed}
use Rattle.chip_laws.proofs.Bus.{released_fits}

pub resets_reserved : Reserved resets
unfolding reserved_at
resets_reserved a h = let m : ℕ = reserved_mask a in eq-eqb (bit_and (get_or resets a 0) m) (bit_and (reset_value a) m) (rw (resets_at a))

pub reset_formed : (pins : Pins) (sda scl reset : Bool) → pins.port1 < 128 → Formed (reset_at pins sda scl reset)
unfolding reset_at reset_value row_of bit
reset_formed pins sda scl reset h =
    record {
      sync = zero_well;
      watchdog = omega arith;
      irqx = omega arith;
      mdcon = omega arith;
      polarity = omega arith;
      port1 = h;
      bus = record { iists = omega arith; iiadr = refl; fits = released_fits _ };
    }

pub reset_core_formed : (c : Core) → c.pins.port1 < 128 → Formed (reset_core c)
unfolding reset_core
reset_core_formed c h = reset_formed c.pins c.sda c.scl c.reset h
