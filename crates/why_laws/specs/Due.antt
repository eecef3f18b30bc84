-- Which of the three answers is due for a source (document 02, Wish 3), told by the chips before and after each word of the list.
use Rattle.std.specs.Prelude.{ℕ, suc, ◌<◌, ◌≤◌, ◌≡◌, Bool, true, false, ◌&&◌, List, eqb, length, take, get_or}
use Rattle.bits.specs.Byte.{bit}
use Rattle.events.specs.Word.{decode}
use Rattle.events.specs.Decoded.{Decoded}
use Rattle.bus.specs.declared.Comparison.{Comparison}
use Rattle.bus.specs.declared.Comparison.TheVariants.{None, Own}
use Rattle.bus.specs.declared.Phase.{Phase}
use Rattle.bus.specs.Bus.{line, pulls_sda, on_address}
use Rattle.bus_ddc2b.specs.Ddc2b.{gathered, compared}
use Rattle.chip.specs.declared.Chip.{Chip}
use Rattle.list_call.specs.Run.{advanced}
use Rattle.chip_flag_laws.specs.Causes.{Source as Cause, raises, rises_vsynci, rises_p16, falls_scl, in_ddc1, in_ddc2b, in_ninth_clock}
use Rattle.chip_flag_laws.specs.Causes.Source.{SclFall as ByScl, DataByte as ByData, AddressMatch as ByAddress, TimerOverflow as ByTimer, ExternalRise as ByP16, VsyncRise as ByVsync}
use Rattle.why_last_set.specs.declared.Sort.{Sort}
use Rattle.why_last_set.specs.declared.Sort.TheVariants.{VsyncRise, P16Rise, Timer, MatchedAddress, NinthClock, Ddc1Load, SclFall}
use Rattle.why_last_set.specs.LastSet.{Source, bit_of}
use Rattle.why_last_set.specs.LastSet.Source.{IntV, IntE, IntR, IntA, IntD, IntS}
use Rattle.why_reasons.specs.declared.Reason.{Reason}
use Rattle.why_reasons.specs.declared.Reason.TheVariants.{NotRequested, AlreadySet, Event}
use Rattle.why_reasons.specs.Explain.{requesting}

-- the source by its name among the causes
abbrev pub cause_of : Source → Cause
cause_of IntV = ByVsync
cause_of IntE = ByP16
cause_of IntR = ByTimer
cause_of IntA = ByAddress
cause_of IntD = ByData
cause_of IntS = ByScl

-- its flag in IRQX is 1, whether enabled or not
abbrev pub is_set : Source → Chip → Bool
is_set s c = bit (bit_of s) c.core.irqx

-- the chip before the word at a place; at the list's length, that after all words
abbrev pub chip_at : Chip → List ℕ → ℕ → Chip
chip_at c words n = advanced c (take n words)

-- the word at place n, from 0, takes the flag from 0 to 1
pub record SetAt (s : Source) (c : Chip) (words : List ℕ) (n : ℕ) : Type 0 where
  pub within : n < length words
  pub clear : is_set s (chip_at c words n) ≡ false
  pub set : is_set s (chip_at c words (suc n)) ≡ true

-- ---- the sorts

-- what the address that the next rise completes is equal to (Wish 12)
abbrev pub completed : ℕ → Bool → Phase → Comparison
completed own sda = on_address None (λ count bits. compared own (gathered bits sda))

abbrev pub address_outcome : Chip → Comparison
address_outcome c = completed c.core.bus.iiadr (line (pulls_sda c.core.bus.phase) c.core.sda) c.core.bus.phase

-- an event at a chip is of this sort; a rise of VSYNCI may be a load as well, and a fall of SCL the end of a ninth clock
unfoldable pub IsSort : Chip → Decoded → Sort → Type 0
IsSort c e VsyncRise = rises_vsynci c e ≡ true
IsSort c e P16Rise = rises_p16 c e ≡ true
IsSort c e Timer = raises ByTimer c e ≡ true
IsSort c e (MatchedAddress matched) = (raises ByAddress c e ≡ true) × (address_outcome c ≡ Own matched)
IsSort c e NinthClock = (falls_scl c e && (in_ddc2b c && in_ninth_clock c.core.bus.phase)) ≡ true
IsSort c e Ddc1Load = (rises_vsynci c e && (in_ddc1 c && eqb c.core.bus.shifter.edges 0)) ≡ true
IsSort c e SclFall = raises ByScl c e ≡ true

-- the source whose flag an event of this sort sets
abbrev pub source_of : Sort → Source
source_of VsyncRise = IntV
source_of P16Rise = IntE
source_of Timer = IntR
source_of (MatchedAddress matched) = IntA
source_of NinthClock = IntD
source_of Ddc1Load = IntD
source_of SclFall = IntS

-- ---- the three answers

-- the word at place n set the flag, none behind it did, and its event is of this sort
pub record LastAt (s : Source) (c : Chip) (words : List ℕ) (n : ℕ) (sort : Sort) : Type 0 where
  pub set : SetAt s c words n
  pub last : (m : ℕ) → n < m → SetAt s c words m → ⊥
  pub source : source_of sort ≡ s
  pub event : IsSort (chip_at c words n) (decode (get_or words n 0)) sort

-- what each answer says: the line is not up after the words; it is, and the flag was 1 at the start and after every word; it is, and
-- this word was the last that set the flag
unfoldable pub Due : Source → Chip → List ℕ → Reason → Type 0
Due s c words NotRequested = requesting s (advanced c words) ≡ false
Due s c words AlreadySet = (requesting s (advanced c words) ≡ true) × ((n : ℕ) → n ≤ length words → is_set s (chip_at c words n) ≡ true)
Due s c words (Event n sort) = (requesting s (advanced c words) ≡ true) × LastAt s c words n sort
