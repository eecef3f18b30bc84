-- What the case that is told says holds of the chip.
-- Assumes nothing.
use mathlib.Core.Path.{◌≡◌, refl}
use mathlib.Core.Bool.{Bool, true, false}
use Rattle.std.specs.Prelude.{Ok, Err}
use Rattle.bits.specs.Byte.{pick}
use Rattle.bus.specs.declared.Comparison.{Comparison}
use Rattle.bus.specs.declared.Comparison.TheVariants.{None, Own}
use Rattle.bus.specs.Bus.{compared_in}
use Rattle.chip.specs.declared.Chip.{Chip}
use Rattle.chip_well_formed.specs.WellFormed.{well_formed}
use Rattle.chip_address_match.specs.AddressOutcome.{AddressOutcome, outcome_of, outcome_number, outcome_report, Keeps, OutcomeValues, number_at, OutcomeCase}

kept_case : (c : Chip) (k : Comparison) → Keeps c k → OutcomeValues c (Ok (outcome_of k))
unfolding OutcomeValues
kept_case c None h = h
kept_case c (Own matched) h = h

outcome_by : (c : Chip) (formed : Bool) → well_formed c ≡ formed → OutcomeValues c (pick formed (Ok (outcome_of (compared_in c.core.bus.phase))) (Err (record {})))
unfolding OutcomeValues
outcome_by c true h = kept_case c (compared_in c.core.bus.phase) (h, refl)
outcome_by c false h = h

pub outcome_case : (c : Chip) → OutcomeValues c (outcome_report c)
unfolding outcome_report
outcome_case c = outcome_by c (well_formed c) refl

-- what is told, with its number and what its case says
pub outcome_says : (c : Chip) (r : AddressOutcome) → r ≡ outcome_report c → outcome_number r ≡ number_at c → (r ≡ outcome_report c) × OutcomeCase c r
outcome_says c r e n = (e, record { number = n; values = rw e (outcome_case c) })
