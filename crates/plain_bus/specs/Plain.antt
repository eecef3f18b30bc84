-- A plain reading of the bus (document 02, Wish 11): STARTs, STOPs and addresses in a list of outside changes of SCL and SDA. Each
-- definition is of the list and of a place in it, counted from 0; no phase is kept from one place to the next.
use Rattle.std.specs.Prelude.{ℕ, zero, suc, ◌+◌, ◌-◌, ◌*◌, ◌/◌, ◌%◌, Bool, true, not, ◌&&◌, ◌||◌, List, [], ◌∷◌, ◌++◌, map, eqb, ltb, length, get_or, take}
use Rattle.bits.specs.Byte.{pick, num}
use Rattle.events.specs.Pins.{SDA, SCL}
use Rattle.bus.specs.declared.Comparison.{Comparison}
use Rattle.bus.specs.Bus.{is_own}
use Rattle.bus_ddc2b.specs.Ddc2b.{compared}

-- ---- a change

-- a change is a pair in one number: the line, by its pin number, in the upper byte, and the level in the lower
abbrev pub line_of : ℕ → ℕ
line_of change = change / 256

abbrev pub level_of : ℕ → ℕ
level_of change = change % 256

abbrev pub line_at : List ℕ → ℕ → ℕ
line_at cs i = line_of (get_or cs i 0)

abbrev pub high_at : List ℕ → ℕ → Bool
high_at cs i = eqb (level_of (get_or cs i 0)) 1

-- ---- levels and edges at a place

-- the level of a line just before place i: that of its last change before the place; both lines are 1 at first
unfoldable pub level_before : ℕ → List ℕ → ℕ → Bool
level_before line cs zero = true
level_before line cs (suc i) = pick (eqb (line_at cs i) line) (high_at cs i) (level_before line cs i)

abbrev pub scl_before : List ℕ → ℕ → Bool
scl_before cs i = level_before SCL cs i

abbrev pub sda_before : List ℕ → ℕ → Bool
sda_before cs i = level_before SDA cs i

-- SCL rises at place i
unfoldable pub rise_at : List ℕ → ℕ → Bool
rise_at cs i = eqb (line_at cs i) SCL && (high_at cs i && not (scl_before cs i))

-- START: SDA falls while SCL is high
unfoldable pub start_at : List ℕ → ℕ → Bool
start_at cs i = eqb (line_at cs i) SDA && (not (high_at cs i) && (scl_before cs i && sda_before cs i))

-- STOP: SDA rises while SCL is high
unfoldable pub stop_at : List ℕ → ℕ → Bool
stop_at cs i = eqb (line_at cs i) SDA && (high_at cs i && (scl_before cs i && not (sda_before cs i)))

-- ---- the rises since a START

-- the places of the rises of SCL among the n places from i on, up to the next START or STOP
unfoldable pub rises_from : List ℕ → ℕ → ℕ → List ℕ
rises_from cs i zero = []
rises_from cs i (suc n) = pick (start_at cs i || stop_at cs i) [] (pick (rise_at cs i) (i ∷ rises_from cs (suc i) n) (rises_from cs (suc i) n))

-- the rises since the START at place s: the n-th of them is the n-th rise since that START
abbrev pub rises_since : List ℕ → ℕ → List ℕ
rises_since cs s = rises_from cs (suc s) (length cs - suc s)

-- SDA's levels at rises
abbrev pub levels_at : List ℕ → List ℕ → List Bool
levels_at cs rises = map (sda_before cs) rises

-- ---- an address

-- the number that levels make, the first of them being the top bit
abbrev pub appended : ℕ → List Bool → ℕ
appended byte [] = byte
appended byte (level ∷ levels) = appended (byte * 2 + num level) levels

abbrev pub byte_of : List Bool → ℕ
byte_of levels = appended 0 levels

-- the address since a START is what SDA is at its first eight rises, the direction bit last
abbrev pub address_of : List ℕ → ℕ → ℕ
address_of cs s = byte_of (take 8 (levels_at cs (rises_since cs s)))

-- a START with this many rises
abbrev pub has_rises : ℕ → List ℕ → ℕ → Bool
has_rises n cs s = start_at cs s && not (ltb (length (rises_since cs s)) n)

-- an address as it is listed, with the outcome of its comparison: bits 7..1, with A0H and II ADR
pub record Found : Type 0 where
  pub byte : ℕ
  pub outcome : Comparison

abbrev pub found : ℕ → ℕ → Found
found own byte = record { byte = byte; outcome = compared own byte }

-- ---- the addresses of a list

-- the address of a START at place s, if eight rises follow before the next START or STOP
unfoldable pub address_at : ℕ → List ℕ → ℕ → List Found
address_at own cs s = pick (has_rises 8 cs s) (found own (address_of cs s) ∷ []) []

-- the reading stops after the ninth rise since the START of an address that matched
unfoldable pub ends_at : ℕ → List ℕ → ℕ → Bool
ends_at own cs s = has_rises 9 cs s && is_own (compared own (address_of cs s))

-- those of the STARTs from place s on, n places far, up to the stop
unfoldable pub addresses_from : ℕ → List ℕ → ℕ → ℕ → List Found
addresses_from own cs s zero = []
addresses_from own cs s (suc n) = address_at own cs s ++ pick (ends_at own cs s) [] (addresses_from own cs (suc s) n)

abbrev pub addresses : ℕ → List ℕ → List Found
addresses own cs = addresses_from own cs 0 (length cs)

-- how many changes there are up to and with that ninth rise; all of them where there is none
unfoldable pub changes_from : ℕ → List ℕ → ℕ → ℕ → ℕ
changes_from own cs s zero = s
changes_from own cs s (suc n) = pick (ends_at own cs s) (suc (get_or (rises_since cs s) 8 0)) (changes_from own cs (suc s) n)

abbrev pub changes_to_stop : ℕ → List ℕ → ℕ
changes_to_stop own cs = changes_from own cs 0 (length cs)
