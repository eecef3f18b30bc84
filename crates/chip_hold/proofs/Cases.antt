-- What the case that is told says holds of the chip.
-- Assumes nothing.
use mathlib.Core.Path.{◌≡◌, refl}
use mathlib.Core.Bool.{Bool, true, false}
use Rattle.std.specs.Prelude.{ℕ, Ok, Err, Some, None}
use Rattle.std.specs.declared.option.Option.{Option}
use Rattle.bits.specs.Byte.{pick}
use Rattle.bus.specs.declared.OwnAddress.{OwnAddress}
use Rattle.bus.specs.declared.Phase.{Phase}
use Rattle.bus.specs.declared.Phase.TheVariants.{Idle, Address, Addressed, Ignoring, Receive, Transmit, Held}
use Rattle.bus.specs.Bus.{pulls_scl}
use Rattle.chip.specs.declared.Chip.{Chip}
use Rattle.chip_well_formed.specs.WellFormed.{well_formed}
use Rattle.chip_hold.specs.Hold.{Hold, hold_of, hold_number, hold_report, HoldValues, number_at, HoldCase}

phase_case : (c : Chip) (phase : Phase) → c.core.bus.phase ≡ phase → well_formed c ≡ true → HoldValues c (Ok (hold_of phase))
unfolding HoldValues hold_of pulls_scl
phase_case c Idle p h = (h, rw p refl)
phase_case c (Address count bits) p h = (h, rw p refl)
phase_case c (Addressed matched bits ninth) p h = (h, rw p refl)
phase_case c Ignoring p h = (h, rw p refl)
phase_case c (Receive matched count bits) p h = (h, rw p refl)
phase_case c (Transmit matched count byte) p h = (h, rw p refl)
phase_case c (Held matched clocks) p h = (h, matched, p)

hold_by : (c : Chip) (formed : Bool) → well_formed c ≡ formed → HoldValues c (pick formed (Ok (hold_of c.core.bus.phase)) (Err (record {})))
unfolding HoldValues
hold_by c true h = phase_case c c.core.bus.phase refl h
hold_by c false h = h

pub hold_case : (c : Chip) → HoldValues c (hold_report c)
unfolding hold_report
hold_case c = hold_by c (well_formed c) refl

-- what is told, with its number and what its case says
pub hold_says : (c : Chip) (r : Hold) → r ≡ hold_report c → hold_number r ≡ number_at c → (r ≡ hold_report c) × HoldCase c r
hold_says c r e n = (e, record { number = n; values = rw e (hold_case c) })

-- what is told of a well formed state has no number
pub told_number : (o : Option ℕ) → hold_number (Ok o) ≡ 0
told_number None = refl
told_number (Some clocks) = refl

-- in every phase but one SCL is not held
pub told_none : (phase : Phase) → ((m : OwnAddress) (clocks : ℕ) → phase ≡ Held m clocks → ⊥) → None ≡ hold_of phase
unfolding hold_of
told_none Idle h = refl
told_none (Address count bits) h = refl
told_none (Addressed matched bits ninth) h = refl
told_none Ignoring h = refl
told_none (Receive matched count bits) h = refl
told_none (Transmit matched count byte) h = refl
told_none (Held matched clocks) h = absurd (h matched clocks refl)
