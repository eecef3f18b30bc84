-- The addresses that the stepping engine completes, told from its states alone (document 02, Wish 11).
use Rattle.std.specs.Prelude.{ℕ, ◌≡◌, Bool, true, false, List, [], ◌∷◌, ◌++◌, eqb}
use Rattle.bits.specs.Byte.{pick, bit}
use Rattle.registers.specs.Names.{INTA}
use Rattle.events.specs.Word.{event_word}
use Rattle.bus.specs.declared.Mode.TheVariants.{Ddc2b}
use Rattle.bus.specs.declared.Comparison.{Comparison}
use Rattle.bus.specs.declared.Comparison.TheVariants.{None, Own}
use Rattle.bus.specs.declared.Phase.{Phase}
use Rattle.bus.specs.declared.Phase.TheVariants.{Idle, Address, Addressed, Ignoring, Receive, Transmit, Held}
use Rattle.bus.specs.Bus.{on_address}
use Rattle.bus_ddc2b.specs.Ddc2b.{address_bits}
use Rattle.chip.specs.declared.Chip.{Chip}
use Rattle.chip.specs.State.{mode_of}
use Rattle.chip_well_formed.specs.WellFormed.{well_formed}
use Rattle.step.specs.Step.{step}
use Rattle.plain_bus.specs.Plain.{line_of, level_of, Found}

-- seven bits of an address are gathered
abbrev pub lacks_one : Phase → Bool
lacks_one = on_address false (λ count bits. eqb count 7)

-- an address and what its comparison gave
abbrev pub told : ℕ → Comparison → Found
told byte outcome = record { byte = byte; outcome = outcome }

-- the address that the phase after the eighth bit tells of, its byte being in II DAT; one that matched has set flag A
abbrev pub told_by : Bool → Phase → ℕ → List Found
told_by flag Idle byte = []
told_by flag (Address count bits) byte = []
told_by flag (Addressed matched bits ninth) byte = pick flag (told byte (Own matched) ∷ []) []
told_by flag Ignoring byte = told byte None ∷ []
told_by flag (Receive matched count bits) byte = []
told_by flag (Transmit matched count sent) byte = []
told_by flag (Held matched clocks) byte = []

-- what a step from one state to the next completes
abbrev pub completes : Chip → Chip → List Found
completes c d = pick (lacks_one c.core.bus.phase) (told_by (bit INTA d.core.irqx) d.core.bus.phase d.core.bus.iidat) []

-- the event word of a change
abbrev pub event_of : ℕ → ℕ
event_of change = event_word 3 (line_of change) (level_of change)

-- what the chip completes when the changes are given to it one by one
abbrev pub completed_by : Chip → List ℕ → List Found
completed_by c [] = []
completed_by c (change ∷ changes) = completes c (step c (event_of change)).chip ++ completed_by (step c (event_of change)).chip changes

-- the state that the wish names: both lines and RESET high, idle in DDC2B, II ADR given, of which bits 7..1 count
pub record Begins (own : ℕ) (c : Chip) : Type 0 where
  pub well : well_formed c ≡ true
  pub ddc2b : mode_of c.core ≡ Ddc2b
  pub idle : c.core.bus.phase ≡ Idle
  pub scl_high_lem : c.core.scl ≡ true
  pub sda_high : c.core.sda ≡ true
  pub reset_high : c.core.reset ≡ true
  pub address : address_bits c.core.bus.iiadr ≡ address_bits own
