-- A state in a lent area (document 02, Wish 14): which bytes are accepted, what an area is read as, and what writing a state out
-- leaves. Refusals: 15 where the area has not 128 bytes, then 8, both before all others.
use Rattle.std.specs.Prelude.{ℕ, Bool, ◌&&◌, List, eqb, length, nat_eq, Ok, Err}
use Rattle.std.specs.Cmp.Lexicographic.{pointwise}
use Rattle.std.specs.declared.result.Result.{Result}
use Rattle.bits.specs.Byte.{pick}
use Rattle.chip.specs.declared.Chip.{Chip}
use Rattle.chip.specs.State.{fresh}
use Rattle.chip_well_formed.specs.WellFormed.{well_formed}
use Rattle.state_bytes.specs.Layout.{bytes_of, state_of}
use Rattle.state_area.specs.declared.AreaFault.{AreaFault}
use Rattle.state_area.specs.declared.AreaFault.TheVariants.{WrongLength, IllFormed}

abbrev pub fault_number : AreaFault → ℕ
fault_number WrongLength = 15
fault_number IllFormed = 8

abbrev pub same_bytes : List ℕ → List ℕ → Bool
same_bytes = pointwise nat_eq

-- bytes that a well formed state is written as: those of the state read from them, which is well formed. Every other way to write a
-- state is refused, spare bytes and bits that are not zero included
unfoldable pub accepted : List ℕ → Bool
accepted s = same_bytes s (bytes_of (state_of s)) && well_formed (state_of s)

-- what an area is read as: its state, or the fault
abbrev pub holds : Chip → Result Chip AreaFault
holds c = Ok c

abbrev pub refused : AreaFault → Result Chip AreaFault
refused fault = Err fault

abbrev pub read_as : List ℕ → Result Chip AreaFault
read_as s = pick (accepted s) (holds (state_of s)) (refused IllFormed)

unfoldable pub loaded : List ℕ → Result Chip AreaFault
loaded s = pick (eqb (length s) 128) (read_as s) (refused WrongLength)

-- the same as a number and a state: 0 and its state, or the number of the refusal and a fresh state
abbrev pub number_of : Result Chip AreaFault → ℕ
number_of (Ok c) = 0
number_of (Err fault) = fault_number fault

abbrev pub chip_of : Result Chip AreaFault → Chip
chip_of (Ok c) = c
chip_of (Err fault) = fresh

abbrev pub number_in : List ℕ → ℕ
number_in s = number_of (loaded s)

abbrev pub state_in : List ℕ → Chip
state_in s = chip_of (loaded s)

-- a state put into an area without a test of it: one of another length than 128 is left as it was
unfoldable pub put_in : Chip → List ℕ → List ℕ
put_in c s = pick (eqb (length s) 128) (bytes_of c) s

-- a state written out: whether it is, the number of that, and what the area holds then; it keeps its bytes where that is refused
abbrev pub stored : Chip → List ℕ → Result (Unit {0}) AreaFault
stored c s = pick (eqb (length s) 128) (pick (well_formed c) (Ok (tt {0})) (Err IllFormed)) (Err WrongLength)

unfoldable pub store_number : Chip → List ℕ → ℕ
store_number c s = pick (eqb (length s) 128) (pick (well_formed c) 0 8) 15

unfoldable pub store_left : Chip → List ℕ → List ℕ
store_left c s = pick (eqb (length s) 128) (pick (well_formed c) (bytes_of c) s) s
