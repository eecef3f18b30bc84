-- The events of a trace: pin changes and 8 µs clocks, each with its time and the place of the token that brings it.
use Rattle.std.specs.Prelude.{ℕ, zero, suc, ◌+◌, ◌*◌, ◌/◌, Bool, true, false, List, [], ◌∷◌}
use Rattle.vcd_output.specs.Room.{clock_word, pin_word}

-- time is in ps, place is that of the token's first byte; tick: the event is a clock
pub record Event : Type 0 where
  pub place : ℕ
  pub time : ℕ
  pub word : ℕ
  pub tick : Bool

abbrev pub event : Bool → ℕ → ℕ → ℕ → Event
event tick place time word = record { place = place; time = time; word = word; tick = tick }

-- a clock stands every 8 µs, at 0 none: how many there are up to and at a time in units of scale ps
abbrev pub clocks_by : ℕ → ℕ → ℕ
clocks_by time scale = time * scale / 8000000

-- n clocks, after the first k
unfoldable pub clock_events : ℕ → ℕ → ℕ → List Event
clock_events place k zero = []
clock_events place k (suc n) = event true place ((k + 1) * 8000000) clock_word ∷ clock_events place (k + 1) n

-- a change of each pin of a list to one level, at one time
unfoldable pub pin_events : ℕ → ℕ → Bool → List ℕ → List Event
pin_events place time high [] = []
pin_events place time high (pin ∷ rest) = event false place time (pin_word high pin) ∷ pin_events place time high rest

-- the event words
unfoldable pub words : List Event → List ℕ
words [] = []
words (e ∷ rest) = e.word ∷ words rest
