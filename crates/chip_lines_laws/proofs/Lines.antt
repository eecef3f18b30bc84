-- The lines as they are reported: with DDC off PT3 shows them; in DDC2B START, STOP and the edges of SCL are theirs; and where demand 3
-- says that the lines are free, they are reported at their outside levels.
-- Assumes nothing.
use mathlib.Core.Path.{◌≡◌, refl}
use mathlib.Core.Bool.{Bool, true, false, not, ◌&&◌}
use lib.Bits.{bit_or}
use Rattle.bits.specs.Byte.{weight_if, bit}
use Rattle.bits.proofs.Bitwise.{bit_and_lem}
use Rattle.registers.specs.Names.{PT3, ENDDC}
use Rattle.bus.specs.Bus.{edge, line, mode, sda_pulled, scl_pulled}
use Rattle.chip.specs.declared.Chip.{Chip}
use Rattle.chip.specs.State.{register_at, with_sda, with_scl}
use Rattle.chip_reads.specs.Reads.{port3, shown}
use Rattle.chip_edges.specs.Edges.{on_scl, on_scl_ddc2b, scl_moved, on_sda, on_sda_ddc2b, sda_moved}
use Rattle.isolation_laws.specs.Lines.{LinesFree}
use Rattle.chip_lines.specs.Lines.{sda_pulled_at, scl_pulled_at, sda_of, scl_of}
use Rattle.chip_lines_laws.specs.Lines.{InDdc2b, put_sda, put_scl}

-- ---- PT3

and_line : (a v : Bool) → (a && v) ≡ line (not a) v
and_line true v = refl
and_line false v = refl

outside_sda : (scl sda : Bool) → bit 0 (bit_or (weight_if scl 1) (weight_if sda 0)) ≡ sda
unfolding bit
outside_sda true true = refl
outside_sda true false = refl
outside_sda false true = refl
outside_sda false false = refl

outside_scl : (scl sda : Bool) → bit 1 (bit_or (weight_if scl 1) (weight_if sda 0)) ≡ scl
unfolding bit
outside_scl true true = refl
outside_scl true false = refl
outside_scl false true = refl
outside_scl false false = refl

-- with DDC off bits 0 and 1 of PT3 are the levels of SDA and SCL as they are reported
pub pt3_shows_lines : (c : Chip) → bit ENDDC c.core.bus.iists ≡ true → (bit 0 (shown c PT3) ≡ sda_of c) × (bit 1 (shown c PT3) ≡ scl_of c)
unfolding shown port3 sda_pulled_at scl_pulled_at
pt3_shows_lines c off =
    let latch = register_at c.registers PT3 in
    let levels = bit_or (weight_if c.core.scl 1) (weight_if c.core.sda 0) in (
      rw (off, bit_and_lem 0 latch levels, outside_sda c.core.scl c.core.sda) (and_line (bit 0 latch) c.core.sda),
      rw (off, bit_and_lem 1 latch levels, outside_scl c.core.scl c.core.sda) (and_line (bit 1 latch) c.core.scl),
    )

-- ---- START, STOP and the edges of SCL

-- SDA's outside level is put: a START or STOP is seen exactly where the reported SDA falls or rises while the reported SCL is 1
pub start_stop_by_lines : (c : Chip) (level : Bool) → InDdc2b c.core
    → sda_moved c.core level ≡ on_sda_ddc2b (scl_of c) (edge (sda_of c) (sda_of (put_sda c level))) (with_sda c.core level)
unfolding sda_moved on_sda sda_pulled_at scl_pulled_at mode
start_stop_by_lines c level d = rw (d.reset_high, d.ddc_on_lem, d.two_way)

-- SCL's outside level is put: the edge is that of the reported SCL
pub scl_by_lines : (c : Chip) (level : Bool) → InDdc2b c.core
    → scl_moved c.core level ≡ on_scl_ddc2b (edge (scl_of c) (scl_of (put_scl c level))) (with_scl c.core level)
unfolding scl_moved on_scl scl_pulled_at mode
scl_by_lines c level d = rw (d.reset_high, d.ddc_on_lem, d.two_way)

-- ---- demand 3

free_by : (c : Chip) → bit ENDDC c.core.bus.iists ≡ false → LinesFree c → (reset : Bool) → c.core.reset ≡ reset
    → (sda_of c ≡ c.core.sda) × (scl_of c ≡ c.core.scl)
unfolding sda_pulled_at scl_pulled_at sda_pulled scl_pulled
free_by c on free true e = (rw (on, e) free.sda_level_lem, rw (on, e) free.scl_level)
free_by c on free false e = (rw (on, e), rw (on, e))

-- lines that are free by demand 3 are reported at their outside levels
pub free_as_reported : (c : Chip) → bit ENDDC c.core.bus.iists ≡ false → LinesFree c → (sda_of c ≡ c.core.sda) × (scl_of c ≡ c.core.scl)
free_as_reported c on free = free_by c on free c.core.reset refl
