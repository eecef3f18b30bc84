-- A well formed state by its parts, the core and the array, and a core with one part put anew.
-- Assumes nothing.
use mathlib.Core.Path.{◌≡◌}
use mathlib.Core.Bool.{Bool, true, false, ◌&&◌}
use Prim.Native.Nat.{ℕ, ◌<◌}
use native.Mathlib.Omega.{arith}
use lib.Bits.{bit_or, or_lt}
use borrow.Author.Tests.{ltb-true, lt-ltb}
use Rattle.bits.specs.Finite.{all_below}
use Rattle.bits.proofs.Finite.{at_each, all_true, T_true, true_T, both}
use Rattle.sync.specs.declared.Sync.{Sync}
use Rattle.sync.specs.Sync.{well_sync}
use Rattle.chip.specs.declared.Bus.{Bus}
use Rattle.chip.specs.declared.Pins.{Pins}
use Rattle.chip.specs.declared.Core.{Core}
use Rattle.chip.specs.declared.Chip.{Chip}
use Rattle.chip.specs.State.{with_irqx, with_mdcon, with_polarity, with_bt, with_watchdog, with_sync, with_bus, with_pins, with_sda, with_scl, with_reset, raised}
use Rattle.chip_well_formed.specs.WellFormed.{reserved_at, reserved_apart, well_formed}
use Rattle.chip_laws.specs.Formed.{BusFormed, Reserved}

-- ---- tests as facts

pub and_both : (a b : Bool) → a ≡ true → b ≡ true → (a && b) ≡ true
and_both a b p q = rw (p, q)

pub impossible : false ≡ true → ⊥
impossible e = let z : ◌≡◌ {A = ℕ} 0 1 = cc in omega arith

-- a test that holds at each number below n
all_at : (f : ℕ → Bool) (n : ℕ) → all_below f n ≡ true → (i : ℕ) → i < n → f i ≡ true
all_at f n e i h = T_true (f i) (at_each f n (true_T (all_below f n) e) i h)

-- ---- the parts

-- the core
pub record Formed (c : Core) : Type 0 where
  pub sync : well_sync c.sync ≡ true
  pub watchdog : c.watchdog < 64
  pub irqx : c.irqx < 64
  pub mdcon : c.mdcon < 16
  pub polarity : c.polarity < 16
  pub port1 : c.pins.port1 < 128
  pub bus : BusFormed c.mdcon c.bus

-- both
pub record ChipFormed (c : Chip) : Type 0 where
  pub core : Formed c.core
  pub stored : Reserved c.registers

pub formed : (c : Chip) → well_formed c ≡ true → ChipFormed c
unfolding well_formed reserved_apart
formed c h =
    let all = both _ _ h in
    let ranges = both _ _ all.0 in
    let counts = both _ _ ranges.0 in
    let reserved = both _ _ ranges.1 in
    let five = both _ _ reserved.0 in
    let four = both _ _ five.0 in
    let three = both _ _ four.0 in
    let two = both _ _ three.0 in
    let one = both _ _ two.0 in
    record {
      core =
          record {
            sync = counts.0;
            watchdog = ltb-true _ _ counts.1;
            irqx = ltb-true _ _ one.0;
            mdcon = ltb-true _ _ two.1;
            polarity = ltb-true _ _ three.1;
            port1 = ltb-true _ _ five.1;
            bus = record { iists = ltb-true _ _ one.1; iiadr = four.1; fits = all.1 };
          };
      stored = all_at (reserved_at c.registers) 38 reserved.1;
    }

pub well : (c : Chip) → ChipFormed c → well_formed c ≡ true
unfolding well_formed reserved_apart
well c h =
    let f = h.core in
    and_both _ _
    (and_both _ _ (and_both _ _ f.sync (lt-ltb _ _ f.watchdog))
    (and_both _ _
    (and_both _ _
    (and_both _ _
    (and_both _ _ (and_both _ _ (and_both _ _ (lt-ltb _ _ f.irqx) (lt-ltb _ _ f.bus.iists)) (lt-ltb _ _ f.mdcon)) (lt-ltb _ _ f.polarity))
    f.bus.iiadr)
    (lt-ltb _ _ f.port1))
    (all_true (reserved_at c.registers) 38 h.stored)))
    f.bus.fits

-- ---- one part of the core put anew

module _ {c : Core} (f : Formed c) where
  pub with_irqx_lem : (v : ℕ) → v < 64 → Formed (with_irqx c v)
  with_irqx_lem v h = record { sync = f.sync; watchdog = f.watchdog; irqx = h; mdcon = f.mdcon; polarity = f.polarity; port1 = f.port1; bus = f.bus }

  -- flags of six bits set
  pub with_flags : (flags : ℕ) → flags < 64 → Formed (raised c flags)
  with_flags flags h = with_irqx_lem (bit_or c.irqx flags) (or_lt 6 c.irqx flags f.irqx h)

  -- MDCON is put together with the bus, since MD1/2 is part of the mode
  pub with_mode : (v : ℕ) (b : Bus) → v < 16 → BusFormed v b → Formed (with_bus (with_mdcon c v) b)
  with_mode v b h k = record { sync = f.sync; watchdog = f.watchdog; irqx = f.irqx; mdcon = h; polarity = f.polarity; port1 = f.port1; bus = k }

  pub with_polarity_lem : (v : ℕ) → v < 16 → Formed (with_polarity c v)
  with_polarity_lem v h = record { sync = f.sync; watchdog = f.watchdog; irqx = f.irqx; mdcon = f.mdcon; polarity = h; port1 = f.port1; bus = f.bus }

  pub with_bt_lem : (v : ℕ) → Formed (with_bt c v)
  with_bt_lem v = record { sync = f.sync; watchdog = f.watchdog; irqx = f.irqx; mdcon = f.mdcon; polarity = f.polarity; port1 = f.port1; bus = f.bus }

  pub with_watchdog_lem : (v : ℕ) → v < 64 → Formed (with_watchdog c v)
  with_watchdog_lem v h = record { sync = f.sync; watchdog = h; irqx = f.irqx; mdcon = f.mdcon; polarity = f.polarity; port1 = f.port1; bus = f.bus }

  pub with_sync_lem : (v : Sync) → well_sync v ≡ true → Formed (with_sync c v)
  with_sync_lem v h = record { sync = h; watchdog = f.watchdog; irqx = f.irqx; mdcon = f.mdcon; polarity = f.polarity; port1 = f.port1; bus = f.bus }

  pub with_bus_lem : (v : Bus) → BusFormed c.mdcon v → Formed (with_bus c v)
  with_bus_lem v h = record { sync = f.sync; watchdog = f.watchdog; irqx = f.irqx; mdcon = f.mdcon; polarity = f.polarity; port1 = f.port1; bus = h }

  pub with_pins_lem : (v : Pins) → v.port1 < 128 → Formed (with_pins c v)
  with_pins_lem v h = record { sync = f.sync; watchdog = f.watchdog; irqx = f.irqx; mdcon = f.mdcon; polarity = f.polarity; port1 = h; bus = f.bus }

  pub with_sda_lem : (v : Bool) → Formed (with_sda c v)
  with_sda_lem v = record { sync = f.sync; watchdog = f.watchdog; irqx = f.irqx; mdcon = f.mdcon; polarity = f.polarity; port1 = f.port1; bus = f.bus }

  pub with_scl_lem : (v : Bool) → Formed (with_scl c v)
  with_scl_lem v = record { sync = f.sync; watchdog = f.watchdog; irqx = f.irqx; mdcon = f.mdcon; polarity = f.polarity; port1 = f.port1; bus = f.bus }

  pub with_reset_lem : (v : Bool) → Formed (with_reset c v)
  with_reset_lem v = record { sync = f.sync; watchdog = f.watchdog; irqx = f.irqx; mdcon = f.mdcon; polarity = f.polarity; port1 = f.port1; bus = f.bus }
