-- The chip's counters as the unit's, and the event of each call (document 02, Wish 6: the unit for the NT6861 is document 01's counters).
use Rattle.registers.specs.Names.{MDCON, CLRFLG, HSEL}
use Rattle.bits.specs.Byte.{with_bit}
use Rattle.std.specs.Prelude.{Ok}
use Rattle.events.specs.Pins.{HSYNCI, VSYNCI}
use Rattle.events.specs.Clocks.{period}
use Rattle.events.specs.Decoded.{Decoded}
use Rattle.events.specs.declared.Event.TheVariants.{Read, Write, Pin, Clock}
use Rattle.chip.specs.declared.Chip.{Chip}
use Rattle.chip.specs.State.{hsel_of}
use Rattle.sync6862.specs.declared.Call.{Call}
use Rattle.sync6862.specs.declared.Call.TheVariants as call
use Rattle.sync6862_laws.specs.Base.{Base}

-- the levels, HSEL and counters of a chip
abbrev pub counters_of : Chip → Base
counters_of c = record { hsynci = c.core.pins.hsynci; vsynci = c.core.pins.vsynci; hsel = hsel_of c.core; sync = c.core.sync }

-- the event of a call: a pin, an 8 µs clock, MDCON written with HSEL put and its other bits as they are, CLRFLG written with bit 7 or bit 6 alone. The chip has no ENHSEL: a read of
-- MDCON stands for a call of it, which moves nothing
abbrev pub event_of : Chip → Call → Decoded
event_of c (call.Hsynci level) = Ok (Pin HSYNCI level)
event_of c (call.Vsynci level) = Ok (Pin VSYNCI level)
event_of c call.Clock = Ok (Clock period)
event_of c (call.Enhsel new) = Ok (Read MDCON)
event_of c (call.Hsel new) = Ok (Write MDCON (with_bit c.core.mdcon HSEL new))
event_of c call.ClearH = Ok (Write CLRFLG 0x80)
event_of c call.ClearV = Ok (Write CLRFLG 0x40)
