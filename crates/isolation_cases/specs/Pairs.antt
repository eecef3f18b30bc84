-- Pairs of runs: one through several transfers to other devices, and for each premise one that fails it alone.
use Rattle.std.specs.Prelude.{ℕ, Bool, true, false, List, [], ◌∷◌, ◌++◌}
use Rattle.registers.specs.Names.{PT3, MDCON, IIADR, IIDAT, IISTS}
use Rattle.events.specs.Pins.{SDA, SCL, VSYNCI, RESET}
use Rattle.events.specs.Clocks.{period, watchdog}
use Rattle.chip.specs.declared.Chip.{Chip}
use Rattle.chip.specs.State.{fresh, chip_of, with_scl, with_reset}
use Rattle.list_call.specs.Run.{after}
use Rattle.chip_cases.specs.Words.{times, read, write, high, low, clock, pulse, start, send_bit, send}
use Rattle.isolation_cases.specs.Premises.{Pair, Premise, in_ddc2b_lem, start_or_idle, equal_lengths, equal_words, ddc_on_lem, no_ddc1, no_match, no_reset, no_watchdog, same_events, equal_sda}

-- ---- first states

-- DDC2B, the bus found idle with both lines high
unfoldable pub idle_state : Chip
idle_state = after fresh (write MDCON 0x06 ++ write IISTS 0x00)

-- a START just seen
unfoldable pub started_state : Chip
unfolding idle_state
started_state = after idle_state start

-- RESET low, the bus found idle with SCL low
unfoldable pub low_state : Chip
unfolding idle_state
low_state = chip_of idle_state.registers (with_reset (with_scl idle_state.core false) false)

-- the first six bits of A0H gathered
unfoldable pub gathered_state : Chip
unfolding idle_state started_state
gathered_state = after started_state (send_bit true ++ send_bit false ++ send_bit true ++ send_bit false ++ send_bit false ++ send_bit false)

-- 63 watchdog clocks counted
unfoldable pub late_state : Chip
unfolding idle_state
late_state = after idle_state (times 63 (clock watchdog))

-- ---- several transfers

-- SCL falls, SDA takes its level, SCL rises
abbrev pub settle : Bool → List ℕ
settle level = send_bit level

-- a START while a transfer is under way
abbrev pub start_again : List ℕ
start_again = settle true ++ start

-- STOP, and SDA's level once more
abbrev pub stop_twice : List ℕ
stop_twice = settle false ++ high SDA ++ high SDA

-- RESET low: a clock with a bit that differs, and a write that is refused and would turn DDC off; then RESET goes high
abbrev pub reset_ends : Bool → List ℕ
reset_ends level = send_bit level ++ write IISTS 0x08 ++ settle true ++ high RESET

-- an address and its ninth clock; II DAT is read
abbrev pub send_address : ℕ → List ℕ
send_address byte = send byte ++ send_bit true ++ read IIDAT

-- clocks of 8 µs, two clocks on SCL with bits that differ, a read that is refused, and a word that is no event
abbrev pub idle_stretch : Bool → List ℕ
idle_stretch level = times 5 (clock period) ++ send_bit level ++ send_bit level ++ read IIADR ++ (0x06000000 ∷ [])

-- a first address, a byte that is no address, an address after a repeated START, and one that is left unfinished after an idle stretch
abbrev pub several_words : ℕ → ℕ → ℕ → Bool → List ℕ
several_words address byte again level =
    reset_ends level ++ start ++ send_address address ++ send byte ++ start_again ++ send_address again ++ stop_twice ++
    idle_stretch level ++ start_again ++ send_bit true ++ send_bit false ++ send_bit level

-- the byte A0H in the left run is data
unfoldable pub several : Pair
unfolding low_state
several = record { first = low_state; left = several_words 0xa2 0xa0 0x10 true; right = several_words 0x54 0x33 0xee false }

-- ---- for each premise a pair that fails it alone

-- SDA's level, put while SCL is low
abbrev pub while_low : Bool → List ℕ
while_low true = low SCL ++ high SDA
while_low false = low SCL ++ low SDA

-- the two runs put another level while SCL is low, and go on alike
abbrev pub apart_then : Chip → List ℕ → Pair
apart_then c rest = record { first = c; left = while_low false ++ rest; right = while_low true ++ rest }

-- with DDC off PT3 shows SDA's level; an address for another device is in II DAT, from where DDC1 sends
unfoldable pub pair_for : Premise → Pair
unfolding idle_state started_state gathered_state late_state
pair_for in_ddc2b_lem = apart_then fresh (read PT3)
pair_for start_or_idle = record { first = gathered_state; left = send_bit false ++ send_bit false; right = send_bit true ++ send_bit false }
pair_for equal_lengths = record { first = idle_state; left = []; right = clock watchdog }
pair_for equal_words = record { first = idle_state; left = clock period; right = clock watchdog }
pair_for ddc_on_lem = apart_then idle_state (write IISTS 0x08 ++ read PT3)
pair_for no_ddc1 =
    record {
      first = started_state;
      left = send 0xa2 ++ write MDCON 0x07 ++ times 10 (pulse VSYNCI);
      right = send 0x54 ++ write MDCON 0x07 ++ times 10 (pulse VSYNCI);
    }
pair_for no_match = record { first = started_state; left = send 0xa2; right = send 0xa0 }
pair_for no_reset = apart_then idle_state (low RESET ++ high RESET ++ read PT3)
pair_for no_watchdog = apart_then late_state (clock watchdog ++ read PT3)
pair_for same_events = record { first = idle_state; left = low SDA; right = high SDA }
pair_for equal_sda = apart_then idle_state (high SCL ++ low SDA)
