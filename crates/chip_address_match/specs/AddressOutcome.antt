-- Which of the chip's addresses the current transfer was called by (document 02, Wish 12): what is told, and what each case says.
use Rattle.std.specs.Prelude.{ℕ, ◌+◌, ◌*◌, ◌≡◌, true, false, Ok, Err, Some, None}
use Rattle.std.specs.declared.result.Result.{Result}
use Rattle.std.specs.declared.option.Option.{Option}
use Rattle.bits.specs.Byte.{pick}
use Rattle.bus.specs.declared.OwnAddress.{OwnAddress}
use Rattle.bus.specs.declared.OwnAddress.TheVariants.{A0, IiAdr, Both}
use Rattle.bus.specs.declared.Comparison.{Comparison}
use Rattle.bus.specs.declared.Comparison.TheVariants.{None as NoAddress, Own}
use Rattle.bus.specs.Bus.{compared_in}
use Rattle.chip.specs.declared.Chip.{Chip}
use Rattle.chip_well_formed.specs.declared.IllFormed.{IllFormed}
use Rattle.chip_well_formed.specs.WellFormed.{well_formed}

-- what is told of a state: by which address the transfer was called, if it was, or that the state is ill formed
abbrev pub AddressOutcome : Type 0
AddressOutcome = Result (Option OwnAddress) IllFormed

-- the three outcomes of an address of the chip's, and none
abbrev pub outcome_of : Comparison → Option OwnAddress
outcome_of NoAddress = None
outcome_of (Own matched) = Some matched

-- what the state keeps; an ill formed state is told before all else
unfoldable pub outcome_report : Chip → AddressOutcome
outcome_report c = pick (well_formed c) (Ok (outcome_of (compared_in c.core.bus.phase))) (Err (record {}))

-- the number of each case, and the value that stands for its outcome
abbrev pub outcome_number : AddressOutcome → ℕ
outcome_number (Err e) = 8
outcome_number (Ok o) = 0

abbrev pub outcome_value : AddressOutcome → ℕ
outcome_value (Err e) = 0
outcome_value (Ok None) = 0
outcome_value (Ok (Some A0)) = 1
outcome_value (Ok (Some IiAdr)) = 2
outcome_value (Ok (Some Both)) = 3

-- the same in one number: the paper's number in bits 31..24, the value below
abbrev pub outcome_word : AddressOutcome → ℕ
outcome_word o = outcome_number o * 16777216 + outcome_value o

-- a well formed chip keeps this outcome
abbrev pub Keeps : Chip → Comparison → Type 0
Keeps c k = (well_formed c ≡ true) × (compared_in c.core.bus.phase ≡ k)

-- what a case says of the chip
unfoldable pub OutcomeValues : Chip → AddressOutcome → Type 0
OutcomeValues c (Err e) = well_formed c ≡ false
OutcomeValues c (Ok None) = Keeps c NoAddress
OutcomeValues c (Ok (Some matched)) = Keeps c (Own matched)

-- the number that is told: 8 where the chip is ill formed, and no other
abbrev pub number_at : Chip → ℕ
number_at c = pick (well_formed c) 0 8

-- the number and the values of a case
pub record OutcomeCase (c : Chip) (o : AddressOutcome) : Type 0 where
  pub number : outcome_number o ≡ number_at c
  pub values : OutcomeValues c o
