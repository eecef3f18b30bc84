-- The counters of document 01, "Counting sync", on the calls of the unit: levels, HSEL, and what `sync` says of each event.
use Rattle.std.specs.Prelude.{Bool, true, false, not, ◌&&◌, List, [], ◌∷◌}
use Rattle.bits.specs.Byte.{pick}
use Rattle.sync.specs.declared.Sync.{Sync}
use Rattle.sync.specs.Sync.{on_hsync, on_vsync, on_period, hsel_cleared, clear_overflow, zero_sync}
use Rattle.sync6862.specs.declared.Part.TheVariants.{Nt6861}
use Rattle.sync6862.specs.declared.Counters.{Counters}
use Rattle.sync6862.specs.declared.Call.{Call}
use Rattle.sync6862.specs.declared.Call.TheVariants.{Hsynci, Vsynci, Clock, Enhsel, Hsel, ClearH, ClearV}

-- the outside levels, bit HSEL of MDCON, and the counters
pub record Base : Type 0 where
  pub hsynci : Bool
  pub vsynci : Bool
  pub hsel : Bool
  pub sync : Sync

-- rises of HSYNCI and VSYNCI, the 8 µs clock, HSEL written, and CLRFLG written with its bit 7 or its bit 6 alone. ENHSEL is none of its bits.
unfoldable pub base_step : Base → Call → Base
base_step b (Hsynci level) = record { hsynci = level; vsynci = b.vsynci; hsel = b.hsel; sync = pick (level && not b.hsynci) (on_hsync b.sync) b.sync }
base_step b (Vsynci level) = record { hsynci = b.hsynci; vsynci = level; hsel = b.hsel; sync = pick (level && not b.vsynci) (on_vsync b.hsel b.sync) b.sync }
base_step b Clock = record { hsynci = b.hsynci; vsynci = b.vsynci; hsel = b.hsel; sync = on_period b.hsel b.sync }
base_step b (Enhsel new) = b
base_step b (Hsel new) = record { hsynci = b.hsynci; vsynci = b.vsynci; hsel = new; sync = pick (b.hsel && not new) (hsel_cleared b.sync) b.sync }
base_step b ClearH = record { hsynci = b.hsynci; vsynci = b.vsynci; hsel = b.hsel; sync = clear_overflow true false b.sync }
base_step b ClearV = record { hsynci = b.hsynci; vsynci = b.vsynci; hsel = b.hsel; sync = clear_overflow false true b.sync }

unfoldable pub base_run : Base → List Call → Base
base_run b [] = b
base_run b (call ∷ calls) = base_run (base_step b call) calls

-- a fresh chip
abbrev pub base_fresh : Base
base_fresh = record { hsynci = true; vsynci = true; hsel = true; sync = zero_sync }

-- the unit's state with these counters
abbrev pub unit_of : Base → Counters
unit_of b = record { part = Nt6861; hsynci = b.hsynci; vsynci = b.vsynci; hsel = b.hsel; sync = b.sync }
