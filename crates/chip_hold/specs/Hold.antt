-- How long the chip has held SCL low (document 02, Wish 9): what is told, and what each case says.
use Rattle.std.specs.Prelude.{ℕ, ◌+◌, ◌*◌, ◌≡◌, true, false, Ok, Err, Some, None}
use Rattle.std.specs.declared.result.Result.{Result}
use Rattle.std.specs.declared.option.Option.{Option}
use Rattle.bits.specs.Byte.{pick}
use Rattle.bus.specs.declared.OwnAddress.{OwnAddress}
use Rattle.bus.specs.declared.Phase.{Phase}
use Rattle.bus.specs.declared.Phase.TheVariants.{Held}
use Rattle.bus.specs.Bus.{pulls_scl, on_held}
use Rattle.chip.specs.declared.Chip.{Chip}
use Rattle.chip_well_formed.specs.declared.IllFormed.{IllFormed}
use Rattle.chip_well_formed.specs.WellFormed.{well_formed}

-- what is told of a state: for how many clocks of 8 µs SCL has been held, if it is, or that the state is ill formed
abbrev pub Hold : Type 0
Hold = Result (Option ℕ) IllFormed

-- by the phase: the count stands in the phase that holds SCL, so that none can be kept while it is not held
unfoldable pub hold_of : Phase → Option ℕ
hold_of = on_held None (λ matched clocks. Some clocks)

-- an ill formed state is told before all else
unfoldable pub hold_report : Chip → Hold
hold_report c = pick (well_formed c) (Ok (hold_of c.core.bus.phase)) (Err (record {}))

-- the number of each case, and the count that it tells: 0 where SCL is not held
abbrev pub hold_number : Hold → ℕ
hold_number (Err e) = 8
hold_number (Ok None) = 0
hold_number (Ok (Some clocks)) = 0

abbrev pub hold_clocks : Hold → ℕ
hold_clocks (Err e) = 0
hold_clocks (Ok None) = 0
hold_clocks (Ok (Some clocks)) = clocks

-- the same in one number: the paper's number in bits 31..24, the count below
abbrev pub hold_word : Hold → ℕ
hold_word h = hold_number h * 16777216 + hold_clocks h

-- what a case says of the chip
unfoldable pub HoldValues : Chip → Hold → Type 0
HoldValues c (Err e) = well_formed c ≡ false
HoldValues c (Ok None) = (well_formed c ≡ true) × (pulls_scl c.core.bus.phase ≡ false)
HoldValues c (Ok (Some clocks)) = (well_formed c ≡ true) × (m : OwnAddress) × (c.core.bus.phase ≡ Held m clocks)

-- the number that is told: 8 where the chip is ill formed, and no other
abbrev pub number_at : Chip → ℕ
number_at c = pick (well_formed c) 0 8

-- the number and the values of a case
pub record HoldCase (c : Chip) (h : Hold) : Type 0 where
  pub number : hold_number h ≡ number_at c
  pub values : HoldValues c h
