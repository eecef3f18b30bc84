-- A replay as a value change dump (IEEE 1364, 18.2.3): times in ns, and changes. A dump has a header, the lines that begin, those of
-- each event word with what is watched after it, and the line that ends.
use Rattle.std.specs.Prelude.{ℕ, zero, suc, ◌+◌, ◌-◌, ◌*◌, ◌/◌, ◌%◌, Bool, true, false, ◌||◌, List, [], ◌∷◌, ◌++◌, eqb, ltb}
use Rattle.bits.specs.Byte.{pick, num}
use Rattle.wave_write.specs.declared.Writer.{Writer}
use Rattle.wave_write.specs.Decimal.{decimal, binary}
use Rattle.wave_write.specs.declared.Watch.{Watch}
use Rattle.wave_write.specs.Watch.{width_of, aligned}

-- ---- lines and their text

-- a time; a change of one of the four pins that the reader gives back; a change of a line that is watched only; of a vector: how many bits,
-- the bits, its number; the first level of a pin, as a vector of one bit, which the reader passes over
pub data Line : Type 0 where
  time : ℕ → Line
  pin : Bool → ℕ → Line
  level : Bool → ℕ → Line
  vector : ℕ → ℕ → ℕ → Line
  first : Bool → ℕ → Line

-- pins 24 to 27 have the codes a to d, lines 0 to 9 the codes A to J, vectors 0 to 5 the codes K to P
unfoldable pub line_bytes : Line → List ℕ
line_bytes (time t) = 35 ∷ decimal t
line_bytes (pin high p) = (48 + num high) ∷ (73 + p) ∷ []
line_bytes (level high k) = (48 + num high) ∷ (65 + k) ∷ []
line_bytes (vector n v k) = 98 ∷ (binary n v ++ (32 ∷ (75 + k) ∷ []))
line_bytes (first high p) = 98 ∷ (48 + num high) ∷ 32 ∷ (73 + p) ∷ []

-- each ends with a newline
unfoldable pub text : List Line → List ℕ
text [] = []
text (l ∷ ls) = line_bytes l ++ (10 ∷ text ls)

-- ---- the event words that are written

abbrev pub clock_word : ℕ
clock_word = 67108864

-- kind 3, A 24 to 27, B 0 or 1
unfoldable pub is_pin : ℕ → Bool
is_pin word = pick (ltb (word / 256) 196632) false (pick (ltb (word / 256) 196636) (ltb (word % 256) 2) false)

unfoldable pub pin_lines : ℕ → List Line
pin_lines word = pick (is_pin word) (pin (eqb (word % 256) 1) (word / 256 - 196608) ∷ []) []

-- the 8 µs clocks and the levels of the four pins
abbrev pub is_kept : ℕ → Bool
is_kept word = eqb word clock_word || is_pin word

unfoldable pub kept : List ℕ → List ℕ
kept [] = []
kept (word ∷ rest) = pick (is_kept word) (word ∷ kept rest) (kept rest)

-- ---- what is watched

-- a change for each of n lines, from the k-th on, that differs; the k-th is the lowest bit
unfoldable pub level_lines : ℕ → ℕ → ℕ → ℕ → List Line
level_lines zero k old new = []
level_lines (suc n) k old new =
    pick (eqb (old % 2) (new % 2)) (level_lines n (k + 1) (old / 2) (new / 2)) (level (eqb (new % 2) 1) k ∷ level_lines n (k + 1) (old / 2) (new / 2))

-- so of n vectors; the k-th has the twelve lowest bits
unfoldable pub vector_lines : ℕ → ℕ → ℕ → ℕ → List Line
vector_lines zero k old new = []
vector_lines (suc n) k old new =
    pick (eqb (old % 4096) (new % 4096))
    (vector_lines n (k + 1) (old / 4096) (new / 4096))
    (vector (width_of k) (aligned k (new % 4096)) k ∷ vector_lines n (k + 1) (old / 4096) (new / 4096))

abbrev pub watch_lines : Watch → Watch → List Line
watch_lines old new = level_lines 10 0 old.levels new.levels ++ vector_lines 6 0 old.vectors new.vectors

unfoldable pub same_watch : Watch → Watch → Bool
same_watch old new = pick (eqb old.levels new.levels) (eqb old.vectors new.vectors) false

-- ---- time

-- a number, and the greatest allowed where it is above that
unfoldable pub at_most : ℕ → ℕ → ℕ
at_most top x = pick (ltb x top) x top

-- as many clocks as leave every time below 64 bits in ps
abbrev pub clock_limit : ℕ
clock_limit = 2305843009212

-- 8000 ns for each 8 µs clock so far, and one for each further event since the last one; no event reaches the time of the next clock
unfoldable pub time_of : Writer → ℕ
time_of w = at_most clock_limit w.clocks * 8000 + at_most 7999 w.since

abbrev pub writer_at : ℕ → ℕ → Watch → Writer
writer_at clocks since watch = record { clocks = clocks; since = since; watch = watch }

-- after a word, and what is watched then; past the limit the time stands
unfoldable pub moved : Writer → ℕ → Watch → Writer
moved w word watch =
    pick (eqb word clock_word) (writer_at (at_most 2305843009211 w.clocks + 1) 0 watch) (writer_at w.clocks (at_most 7998 w.since + 1) watch)

-- ---- a replay

-- an event word, and what is watched after it
pub record Event : Type 0 where
  pub word : ℕ
  pub watch : Watch

unfoldable pub words_of : List Event → List ℕ
words_of [] = []
words_of (e ∷ es) = e.word ∷ words_of es

-- at a time: the pin's level, and what differs of what is watched
abbrev pub change_lines : ℕ → ℕ → Watch → Watch → List Line
change_lines t word old new = time t ∷ (pin_lines word ++ watch_lines old new)

-- nothing where no pin is given a level and nothing watched differs
unfoldable pub event_lines : Writer → ℕ → Watch → List Line
event_lines w word watch =
    pick (is_pin word) (change_lines (time_of (moved w word watch)) word w.watch watch)
    (pick (same_watch w.watch watch) [] (change_lines (time_of (moved w word watch)) word w.watch watch))

unfoldable pub lines : Writer → List Event → List Line
lines w [] = []
lines w (e ∷ es) = event_lines w e.word e.watch ++ lines (moved w e.word e.watch) es

unfoldable pub after : Writer → List Event → Writer
after w [] = w
after w (e ∷ es) = after (moved w e.word e.watch) es

-- before the first word
abbrev pub fresh : Watch → Writer
fresh watch = writer_at 0 0 watch

-- the first levels of pins 24 to 27, the lowest bit that of 24
unfoldable pub first_lines : ℕ → List Line
first_lines pins = first (eqb (pins % 2) 1) 24 ∷ first (eqb (pins / 2 % 2) 1) 25 ∷ first (eqb (pins / 4 % 2) 1) 26 ∷ first (eqb (pins / 8 % 2) 1) 27 ∷ []

-- every bit the other way round
abbrev pub opposite : Watch → Watch
opposite watch = record { levels = 65535 - watch.levels; vectors = 18446744073709551615 - watch.vectors }

-- every pin, line and vector at time 0: each line and vector differs from its opposite
unfoldable pub begin_lines : ℕ → Watch → List Line
begin_lines pins watch = time 0 ∷ (first_lines pins ++ watch_lines (opposite watch) watch)

-- the time of the last event, so that no clock is lost
abbrev pub end_lines : Writer → List Line
end_lines w = time (time_of w) ∷ []

unfoldable pub dump_lines : ℕ → Watch → List Event → List Line
dump_lines pins watch es = begin_lines pins watch ++ (lines (fresh watch) es ++ end_lines (after (fresh watch) es))
