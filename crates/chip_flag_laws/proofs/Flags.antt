-- Flags set in IRQX and flags cleared in it, seen at the place of a source.
-- Assumes nothing.
use mathlib.Core.Path.{◌≡◌, refl}
use mathlib.Core.Bool.{Bool, true, false, not, ◌&&◌, ◌||◌, and_comm, or_comm}
use Prim.Native.Nat.{ℕ, ◌-◌, ◌<◌}
use native.Mathlib.Omega.{arith}
use lib.Bits.{bit_and, bit_or}
use Rattle.bits.specs.Byte.{pick, bit}
use Rattle.bits.proofs.Bitwise.{bit_or_lem, bit_and_lem, bit_not}
use Rattle.std.specs.Prelude.{Ok, Err}
use Rattle.events.specs.Decoded.{Decoded}
use Rattle.events.specs.declared.Refusal.{Refusal}
use Rattle.events.specs.declared.Event.TheVariants.{Read, Write, Pin, Polarity}
use Rattle.chip.specs.declared.Core.{Core}
use Rattle.chip.specs.declared.Chip.{Chip}
use Rattle.chip_flag_laws.specs.Causes.{Source, place, flag, raises, clears}
use Rattle.chip_flag_laws.specs.Causes.Source.{SclFall, DataByte, AddressMatch, TimerOverflow, ExternalRise, VsyncRise}

-- the flag of a source after an event: set, or not cleared and set before
abbrev pub after : Source → Chip → Decoded → Bool
after s c e = raises s c e || (not (clears s c e) && flag s c)

-- the flag in a core
abbrev pub flag_in : Source → Core → Bool
flag_in s x = bit (place s) x.irqx

-- what holds at each source
by_source : (P : Source → Type 0) → P SclFall → P DataByte → P AddressMatch → P TimerOverflow → P ExternalRise → P VsyncRise → (s : Source) → P s
by_source P f d a t e v SclFall = f
by_source P f d a t e v DataByte = d
by_source P f d a t e v AddressMatch = a
by_source P f d a t e v TimerOverflow = t
by_source P f d a t e v ExternalRise = e
by_source P f d a t e v VsyncRise = v

-- ---- events that set no flag

pub never_read : (s : Source) (c : Chip) (a : ℕ) → raises s c (Ok (Read a)) ≡ false
unfolding raises
never_read s c a = by_source (λ s. raises s c (Ok (Read a)) ≡ false) refl refl refl refl refl refl s

pub never_write : (s : Source) (c : Chip) (a b : ℕ) → raises s c (Ok (Write a b)) ≡ false
unfolding raises
never_write s c a b = by_source (λ s. raises s c (Ok (Write a b)) ≡ false) refl refl refl refl refl refl s

-- RESET is put
pub never_reset : (s : Source) (c : Chip) (level : Bool) → raises s c (Ok (Pin 28 level)) ≡ false
unfolding raises
never_reset s c level = by_source (λ s. raises s c (Ok (Pin 28 level)) ≡ false) refl refl refl refl refl refl s

pub never_polarity : (s : Source) (c : Chip) (vertical level : Bool) → raises s c (Ok (Polarity vertical level)) ≡ false
unfolding raises
never_polarity s c vertical level = by_source (λ s. raises s c (Ok (Polarity vertical level)) ≡ false) refl refl refl refl refl refl s

pub never_refused : (s : Source) (c : Chip) (r : Refusal) → raises s c (Err r) ≡ false
unfolding raises
never_refused s c r = by_source (λ s. raises s c (Err r) ≡ false) refl refl refl refl refl refl s

-- ---- flags of a byte

place_lt : (s : Source) → place s < 8
place_lt = by_source (λ s. place s < 8) (omega arith) (omega arith) (omega arith) (omega arith) (omega arith) (omega arith)

-- flags set on top of those that are
pub set_bit : (s : Source) (x flags : ℕ) (raised : Bool) → bit (place s) flags ≡ raised → bit (place s) (bit_or x flags) ≡ (raised || bit (place s) x)
set_bit s x flags raised e = rw (bit_or_lem (place s) x flags, e) (or_comm (bit (place s) x) raised)

-- the flags that have a 1 in the byte, cleared
pub clear_bit : (s : Source) (x b : ℕ) (written : Bool) → b < 256 →
    bit (place s) (pick written (bit_and x (255 - b)) x) ≡ (not (written && bit (place s) b) && bit (place s) x)
clear_bit s x b true h = rw (bit_and_lem (place s) x (255 - b), bit_not (place s) b (place_lt s) h) (and_comm (bit (place s) x) (not (bit (place s) b)))
clear_bit s x b false h = refl

-- all flags cleared
pub zero_bit : (s : Source) → bit (place s) 0 ≡ false
unfolding bit
zero_bit = by_source (λ s. bit (place s) 0 ≡ false) refl refl refl refl refl refl
