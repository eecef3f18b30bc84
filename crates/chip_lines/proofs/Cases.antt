-- What the case that is reported says holds of the chip.
-- Assumes nothing.
use mathlib.Core.Path.{◌≡◌, refl}
use mathlib.Core.Bool.{Bool, true, false}
use Rattle.std.specs.Prelude.{Ok, Err}
use Rattle.bits.specs.Byte.{pick}
use Rattle.chip.specs.declared.Chip.{Chip}
use Rattle.chip_well_formed.specs.WellFormed.{well_formed}
use Rattle.chip_lines.specs.Lines.{Lines, levels_of, lines_number, lines_report, LinesValues, number_at, LinesCase}

lines_by : (c : Chip) (formed : Bool) → well_formed c ≡ formed → LinesValues c (pick formed (Ok (levels_of c)) (Err (record {})))
unfolding LinesValues
lines_by c true h = (h, refl, refl, refl, refl)
lines_by c false h = h

pub lines_case : (c : Chip) → LinesValues c (lines_report c)
unfolding lines_report
lines_case c = lines_by c (well_formed c) refl

-- what is reported, with its number and what its case says
pub lines_says : (c : Chip) (r : Lines) → r ≡ lines_report c → lines_number r ≡ number_at c → (r ≡ lines_report c) × LinesCase c r
lines_says c r e n = (e, record { number = n; values = rw e (lines_case c) })
