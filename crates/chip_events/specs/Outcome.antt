-- What each event does to the chip and what it gives (document 01, "Event words" and "Numbers given back").
use Rattle.std.specs.Prelude.{ℕ, Bool, true, false, not, ◌&&◌, eqb, Ok, Err}
use Rattle.events.specs.Pins as pin
use Rattle.events.specs.Clocks as clock
use Rattle.events.specs.Decoded.{Decoded}
use Rattle.events.specs.Word.{refusal_number}
use Rattle.events.specs.Kinds.{on_read, on_clock}
use Rattle.events.specs.declared.Event.TheVariants.{Read, Write, Pin, Clock, Polarity}
use Rattle.counters.specs.Count.{watchdog_fires}
use Rattle.registers.specs.Names.{BTCON}
use Rattle.chip.specs.declared.Core.{Core}
use Rattle.chip.specs.declared.Chip.{Chip}
use Rattle.chip.specs.declared.Kept.{Kept}
use Rattle.chip.specs.declared.Kept.TheVariants.{Same, Reset}
use Rattle.chip.specs.State.{chip_of, register_at, keep}
use Rattle.chip_reads.specs.Reads.{reading}
use Rattle.chip_events.specs.declared.Outcome.{Outcome}
use Rattle.chip_writes.specs.Writes.{write_number, write_register, write_kept}
use Rattle.chip_pins.specs.Pins.{pin_moved}
use Rattle.chip_clocks.specs.Clocks.{clocked, polarity_found}

-- the core after an event; a read and a refused word leave it as it was
unfoldable pub core_after : Chip → Decoded → Core
core_after c (Ok (Read a)) = c.core
core_after c (Ok (Write a b)) = write_register c.core a b
core_after c (Ok (Pin p level)) = pin_moved c.core p level
core_after c (Ok (Clock k)) = clocked (register_at c.registers BTCON) c.core k
core_after c (Ok (Polarity vertical level)) = polarity_found c.core vertical level
core_after c (Err r) = c.core

-- the watchdog reset the chip
unfoldable pub watchdog_reset : Chip → Decoded → Bool
watchdog_reset c = on_clock false (λ k. c.core.reset && (eqb k clock.watchdog && watchdog_fires c.core.watchdog))

-- the chip was reset, by RESET going low or by the watchdog
unfoldable pub was_reset : Chip → Decoded → Bool
was_reset c (Ok (Read a)) = false
was_reset c (Ok (Write a b)) = false
was_reset c (Ok (Pin p level)) = eqb p pin.RESET && (c.core.reset && not level)
was_reset c (Ok (Clock k)) = c.core.reset && (eqb k clock.watchdog && watchdog_fires c.core.watchdog)
was_reset c (Ok (Polarity vertical level)) = false
was_reset c (Err r) = false

abbrev pub reset_if : Bool → Kept
reset_if true = Reset
reset_if false = Same

-- what an event leaves in the array of stored registers: a write may store one, a reset puts all to their reset values
unfoldable pub kept_after : Chip → Decoded → Kept
kept_after c (Ok (Read a)) = Same
kept_after c (Ok (Write a b)) = write_kept c.core.reset c.registers a b
kept_after c (Ok (Pin p level)) = reset_if (was_reset c (Ok (Pin p level)))
kept_after c (Ok (Clock k)) = reset_if (was_reset c (Ok (Clock k)))
kept_after c (Ok (Polarity vertical level)) = Same
kept_after c (Err r) = Same

-- the chip after an event
unfoldable pub next : Chip → Decoded → Chip
next c e = chip_of (keep (kept_after c e) c.registers) (core_after c e)

-- the number given back: 0 where the event was carried out
unfoldable pub number_given : Chip → Decoded → ℕ
number_given c (Ok (Read a)) = (reading c a).number
number_given c (Ok (Write a b)) = write_number c.core.reset a
number_given c (Ok (Pin p level)) = 0
number_given c (Ok (Clock k)) = 0
number_given c (Ok (Polarity vertical level)) = 0
number_given c (Err r) = refusal_number r

-- the byte read, else 0
unfoldable pub byte_given : Chip → Decoded → ℕ
byte_given c = on_read 0 (λ a. (reading c a).byte)

-- all that an event does at a chip, whether well formed or not
unfoldable pub outcome : Chip → Decoded → Outcome
outcome c e = record { core = core_after c e; kept = kept_after c e; number = number_given c e; watchdog = watchdog_reset c e; byte = byte_given c e }
