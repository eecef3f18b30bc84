-- On the NT6861 the report is document 01's.
-- Assumes nothing.
use mathlib.Core.Path.{◌≡◌}
use Rattle.sync.specs.Sync.{well_sync}
use Rattle.sync6862.specs.declared.Part.TheVariants.{Nt6861}
use Rattle.sync6862.specs.declared.Counters.{Counters}
use Rattle.sync6862.specs.Unit.{periods_last, interval_last, well_to, well_formed}
use Rattle.rates.specs.Report as base
use Rattle.rates6862.specs.Report.{field_report}

pub field_same : (s : Counters) → s.part ≡ Nt6861 → field_report s ≡ base.field_report s.sync
unfolding field_report base.field_report well_formed well_to periods_last interval_last well_sync
field_same s e = rw e
