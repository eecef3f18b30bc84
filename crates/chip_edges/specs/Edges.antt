-- What edges of the lines of the bus do (document 01, "The bus").
use Rattle.std.specs.Prelude.{Bool, false}
use Rattle.std.specs.Int.Bits.{bit_or}
use Rattle.bits.specs.Byte.{pick, weight, weight_if, with_bit}
use Rattle.registers.specs.Names.{MD12, INTS, INTD, INTA}
use Rattle.bus.specs.declared.Mode.{Mode}
use Rattle.bus.specs.declared.Mode.TheVariants.{Off, Ddc1, Ddc2b}
use Rattle.bus.specs.declared.Edge.{Edge}
use Rattle.bus.specs.declared.Edge.TheVariants.{Flat, Rise, Fall}
use Rattle.bus.specs.declared.Phase.{Phase}
use Rattle.bus.specs.declared.Phase.TheVariants.{Idle}
use Rattle.bus.specs.declared.Shifter.{Shifter}
use Rattle.bus.specs.Bus.{edge, changes_mode, line, pulls_sda, sda_pulled, scl_pulled}
use Rattle.bus.specs.Ddc1.{loads_at_rise, shifter_at_rise}
use Rattle.bus_ddc2b.specs.Ddc2b.{start_status, start_phase, stop_status, phase_at_rise, data_at_rise, matches_at_rise, status_at_rise, holds_at_fall, phase_at_fall}
use Rattle.chip.specs.declared.Bus.{Bus}
use Rattle.chip.specs.declared.Core.{Core}
use Rattle.chip.specs.State.{bus_of, released, mode_of, with_bus, with_mdcon, with_sda, with_scl, raised}

abbrev pub with_phase : Bus → Phase → Bus
with_phase b phase = bus_of b.iists b.iiadr b.iidat phase b.shifter

-- while RESET is low the bus is not looked at, as with DDC off
abbrev pub active_mode : Core → Mode
active_mode c = pick c.reset (mode_of c) Off

-- ---- a change of mode

-- a change of mode frees the bus, and no edge is seen in that
unfoldable pub bus_at_mode : Mode → Mode → Bus → Bus
bus_at_mode old new b = pick (changes_mode old new) (released b) b

-- ---- SCL

-- all that a rise of the SCL line moves in DDC2B, at the SDA line's level
unfoldable pub bus_at_rise : Bool → Bus → Bus
bus_at_rise sda b =
    bus_of (status_at_rise sda b.phase b.iists) b.iiadr (data_at_rise sda b.phase b.iidat) (phase_at_rise b.iiadr sda b.phase) b.shifter

abbrev pub sda_line : Bus → Bool → Bool
sda_line b level = line (pulls_sda b.phase) level

-- a rise of the SCL line in DDC2B; a matched address sets flag A
unfoldable pub scl_rise : Core → Core
scl_rise c =
    with_bus (raised c (weight_if (matches_at_rise c.bus.iiadr (sda_line c.bus c.sda) c.bus.phase) INTA))
    (bus_at_rise (sda_line c.bus c.sda) c.bus)

-- a fall of the SCL line in DDC2B sets flag S, and D where the chip takes hold of SCL
unfoldable pub scl_fall : Core → Core
scl_fall c =
    with_bus (raised c (bit_or (weight INTS) (weight_if (holds_at_fall c.bus.phase) INTD)))
    (with_phase c.bus (phase_at_fall c.bus.iists c.bus.phase))

-- a fall of the SCL line in DDC1 sets flag S and clears MD1/2, which is a change of mode
unfoldable pub leave_ddc1 : Core → Core
leave_ddc1 c = with_bus (with_mdcon (raised c (weight INTS)) (with_bit c.mdcon MD12 false)) (released c.bus)

unfoldable pub on_scl_ddc1 : Edge → Core → Core
on_scl_ddc1 Flat c = c
on_scl_ddc1 Rise c = c
on_scl_ddc1 Fall c = leave_ddc1 c

unfoldable pub on_scl_ddc2b : Edge → Core → Core
on_scl_ddc2b Flat c = c
on_scl_ddc2b Rise c = scl_rise c
on_scl_ddc2b Fall c = scl_fall c

unfoldable pub on_scl : Mode → Edge → Core → Core
on_scl Off e c = c
on_scl Ddc1 e c = on_scl_ddc1 e c
on_scl Ddc2b e c = on_scl_ddc2b e c

-- SCL's outside level is put: an edge is one of the line, and while the chip holds the line there is none
unfoldable pub scl_moved : Core → Bool → Core
scl_moved c level =
    let pulled : Bool = scl_pulled (active_mode c) c.bus.phase in
    on_scl (active_mode c) (edge (line pulled c.scl) (line pulled level)) (with_scl c level)

-- ---- SDA

-- START: SDA falls while the SCL line is high
unfoldable pub started : Core → Core
started c = with_bus c (bus_of (start_status c.bus.iists) c.bus.iiadr c.bus.iidat start_phase c.bus.shifter)

-- STOP: SDA rises while the SCL line is high
unfoldable pub stopped : Core → Core
stopped c = with_bus c (bus_of (stop_status c.bus.iists) c.bus.iiadr c.bus.iidat Idle c.bus.shifter)

unfoldable pub on_sda_ddc2b : Bool → Edge → Core → Core
on_sda_ddc2b high Flat c = c
on_sda_ddc2b high Rise c = pick high (stopped c) c
on_sda_ddc2b high Fall c = pick high (started c) c

-- START and STOP are seen in DDC2B alone; `high` is the SCL line
unfoldable pub on_sda : Mode → Bool → Edge → Core → Core
on_sda Off high e c = c
on_sda Ddc1 high e c = c
on_sda Ddc2b high e c = on_sda_ddc2b high e c

-- SDA's outside level is put
unfoldable pub sda_moved : Core → Bool → Core
sda_moved c level =
    let pulled : Bool = sda_pulled (active_mode c) c.bus.phase c.bus.shifter in
    on_sda (active_mode c) (line (scl_pulled (active_mode c) c.bus.phase) c.scl)
    (edge (line pulled c.sda) (line pulled level)) (with_sda c level)

-- ---- VSYNCI in DDC1

-- a rise of VSYNCI shifts or loads in DDC1, whatever SCL is
unfoldable pub bus_at_vsync : Mode → Bus → Bus
bus_at_vsync Off b = b
bus_at_vsync Ddc1 b = bus_of b.iists b.iiadr b.iidat b.phase (shifter_at_rise b.iidat b.shifter)
bus_at_vsync Ddc2b b = b

-- and a load sets flag D
unfoldable pub loads_at_vsync : Mode → Shifter → Bool
loads_at_vsync Off s = false
loads_at_vsync Ddc1 s = loads_at_rise s
loads_at_vsync Ddc2b s = false
