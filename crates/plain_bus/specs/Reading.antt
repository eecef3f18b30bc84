-- The call: what it gives back, and what it leaves in the places lent to it (document 02, Wish 11).
use Rattle.std.specs.Prelude.{ℕ, ◌+◌, ◌*◌, ◌%◌, ◌≡◌, Bool, ◌&&◌, ◌||◌, List, [], ◌∷◌, ◌++◌, map, eqb, ltb, length, drop, take, Some, None}
use Rattle.std.specs.declared.option.Option.{Option}
use Rattle.bits.specs.Byte.{pick, num}
use Rattle.events.specs.Pins.{SDA, SCL}
use Rattle.bus.specs.declared.OwnAddress.{OwnAddress}
use Rattle.bus.specs.declared.OwnAddress.TheVariants.{A0, IiAdr, Both}
use Rattle.bus.specs.declared.Comparison.{Comparison}
use Rattle.bus.specs.declared.Comparison.TheVariants.{None as NoAddress, Own}
use Rattle.bus.specs.Bus.{is_own}
use Rattle.bus_ddc2b.specs.Ddc2b.{compared}
use Rattle.plain_bus.specs.Plain.{line_of, level_of, rises_since, levels_at, byte_of, sda_before, rise_at, start_at, Found, addresses}
use Rattle.plain_bus.specs.declared.Fault.{Fault}
use Rattle.plain_bus.specs.declared.Fault.TheVariants.{OtherLine, OtherLevel}
use Rattle.plain_bus.specs.declared.Reading.{Reading}
use Rattle.plain_bus.specs.declared.Reading.TheVariants.{Listed, BadLine, BadLevel, TooFewPlaces}
use Rattle.plain_bus.specs.declared.Transfer.{Transfer}

-- ---- refusals

-- a level above 1
abbrev pub level_fault : ℕ → Option Fault
level_fault change = pick (ltb 1 (level_of change)) (Some OtherLevel) None

-- what is wrong with a change: a line that is neither SDA nor SCL, then its level
unfoldable pub fault_of : ℕ → Option Fault
fault_of change = pick (eqb (line_of change) SDA || eqb (line_of change) SCL) (level_fault change) (Some OtherLine)

abbrev pub or_else : Option Fault → Option Fault → Option Fault
or_else None f = f
or_else (Some fault) f = Some fault

-- that of the first bad change, wherever it stands
unfoldable pub first_fault : List ℕ → Option Fault
first_fault [] = None
first_fault (c ∷ cs) = or_else (fault_of c) (first_fault cs)

-- ---- the answer

-- the number of each answer: 2 for a line that is neither SDA nor SCL, 3 for a level that is neither 0 nor 1, 7 for too few places
abbrev pub number_of : Reading → ℕ
number_of (Listed count) = 0
number_of BadLine = 2
number_of BadLevel = 3
number_of TooFewPlaces = 7

abbrev pub reading_by : Option Fault → ℕ → ℕ → Reading
reading_by None room count = pick (ltb room count) TooFewPlaces (Listed count)
reading_by (Some OtherLine) room count = BadLine
reading_by (Some OtherLevel) room count = BadLevel

unfoldable pub reading : ℕ → List ℕ → List ℕ → Reading
reading own cs places = reading_by (first_fault cs) (length places) (length (addresses own cs))

-- the number of a list of changes: that of its first bad change, next 7 where there are fewer places than addresses
abbrev pub number_by : Option Fault → Bool → ℕ
number_by None short = pick short 7 0
number_by (Some OtherLine) short = 2
number_by (Some OtherLevel) short = 3

-- the number and the values of an answer
pub record ReadingCase (own : ℕ) (cs places : List ℕ) (r : Reading) : Type 0 where
  pub number : number_of r ≡ number_by (first_fault cs) (ltb (length places) (length (addresses own cs)))
  pub values : number_of r ≡ 0 → r ≡ Listed (length (addresses own cs))

-- the number of each outcome
abbrev pub own_number : OwnAddress → ℕ
own_number A0 = 1
own_number IiAdr = 2
own_number Both = 3

abbrev pub outcome_number : Comparison → ℕ
outcome_number NoAddress = 0
outcome_number (Own matched) = own_number matched

-- an address in one number: the byte above, the number of its outcome below
abbrev pub word_of : Found → ℕ
word_of a = a.byte * 256 + outcome_number a.outcome

-- the places after an answer: as they were where it is a refusal; else the addresses, and what was there past them
abbrev pub written : Reading → List ℕ → List ℕ → List ℕ
written (Listed count) words places = words ++ drop count places
written BadLine words places = places
written BadLevel words places = places
written TooFewPlaces words places = places

unfoldable pub places_left : ℕ → List ℕ → List ℕ → List ℕ
places_left own cs places = written (reading own cs places) (map word_of (addresses own cs)) places

-- ---- what the code gathers at one START

-- the rises, counted up to nine, and the byte of the first eight
abbrev pub transfer_of : List Bool → Transfer
transfer_of levels = record { rises = length (take 9 levels); byte = byte_of (take 8 levels) }

-- a place with no START has none
unfoldable pub transfer_at : List ℕ → ℕ → Transfer
transfer_at cs s = transfer_of (pick (start_at cs s) (levels_at cs (rises_since cs s)) [])

-- one more rise, with SDA at this level: up to the eighth a bit of the byte
unfoldable pub risen_of : Transfer → Bool → Transfer
risen_of t level = pick (ltb t.rises 8) (record { rises = t.rises + 1; byte = t.byte % 128 * 2 + num level }) (record { rises = 9; byte = t.byte })

-- the change at a place that is neither START nor STOP
unfoldable pub taken_at : List ℕ → ℕ → Transfer → Transfer
taken_at cs i t = pick (rise_at cs i) (risen_of t (sda_before cs i)) t

-- the first eight rises are an address
abbrev pub has_address : Transfer → Bool
has_address t = ltb 7 t.rises

-- the reading stops at a transfer with a ninth rise and an address that matched
unfoldable pub ends_by : ℕ → Transfer → Bool
ends_by own t = eqb t.rises 9 && is_own (compared own t.byte)
