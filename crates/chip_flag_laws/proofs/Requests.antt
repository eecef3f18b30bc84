-- The request lines: a source asks for an interrupt where its flag and its enable bit are both 1, and the answer word shows it.
-- Assumes nothing.
use mathlib.Core.Path.{◌≡◌, refl, ◌∙◌}
use mathlib.Core.Bool.{Bool, true, false, ◌&&◌}
use Prim.Native.Nat.{ℕ, ◌+◌, ◌/◌, ◌%◌, ◌^◌, ◌<◌}
use native.Mathlib.Omega.{arith}
use Rattle.bits.specs.Byte.{pick, bit}
use Rattle.bits.proofs.Bitwise.{bit_and_lem}
use Rattle.registers.specs.Names.{IEX}
use Rattle.events.specs.Decoded.{Decoded}
use Rattle.events.specs.Word.{decode}
use Rattle.answers.specs.Answer.{answer_word}
use Rattle.chip.specs.declared.Chip.{Chip}
use Rattle.chip.specs.State.{requested, requests as requests_of, register_at}
use Rattle.chip_well_formed.specs.WellFormed.{well_formed}
use Rattle.step.specs.declared.Stepped.{Stepped}
use Rattle.chip_events.proofs.Byte.{byte_lt}
use Rattle.step.specs.Step.{answered, advance, step}
use Rattle.chip_events.specs.Outcome.{next, number_given, byte_given, watchdog_reset}
use Rattle.chip_flag_laws.specs.Causes.{Source, place, flag, enabled}
use Rattle.chip_flag_laws.specs.Causes.Source.{SclFall, DataByte, AddressMatch, TimerOverflow, ExternalRise, VsyncRise}

-- ---- a request is a flag that is enabled

pub requests : (s : Source) (c : Chip) → bit (place s) (requests_of c) ≡ (flag s c && enabled s c)
unfolding requested
requests s c = bit_and_lem (place s) c.core.irqx (register_at c.registers IEX)

-- ---- the same on the answer word

-- bits 15..8 of an answer word are the requests
module _ (number : ℕ) (watchdog : Bool) (requests byte : ℕ) (h : byte < 256) where
  digit : (s : Source) → answer_word number watchdog requests byte / 2 ^ (8 + place s) % 2 ≡ requests / 2 ^ place s % 2
  digit SclFall = omega arith
  digit DataByte = omega arith
  digit AddressMatch = omega arith
  digit TimerOverflow = omega arith
  digit ExternalRise = omega arith
  digit VsyncRise = omega arith

  answer_bit : (s : Source) → bit (8 + place s) (answer_word number watchdog requests byte) ≡ bit (place s) requests
  unfolding bit
  answer_bit s = rw (digit s)

-- the answer to a decoded word, at any state
advance_bit : (s : Source) (c : Chip) (e : Decoded) →
    bit (8 + place s) (advance c e).answer ≡ (flag s (advance c e).chip && enabled s (advance c e).chip)
unfolding advance answered
advance_bit s c e =
    answer_bit (number_given c e) (watchdog_reset c e) (requests_of (next c e)) (byte_given c e) (byte_lt c e) s
    ∙ requests s (next c e)

-- the number 8 comes without requests
refused_bit : (s : Source) → bit (8 + place s) 0x08000000 ≡ false
unfolding bit
refused_bit SclFall = refl
refused_bit DataByte = refl
refused_bit AddressMatch = refl
refused_bit TimerOverflow = refl
refused_bit ExternalRise = refl
refused_bit VsyncRise = refl

answer_by : (well : Bool) (s : Source) (c : Chip) (e : Decoded) →
    let a : Stepped = pick well (advance c e) (record { chip = c; answer = 0x08000000 }) in
    bit (8 + place s) a.answer ≡ (well && (flag s a.chip && enabled s a.chip))
answer_by true s c e = advance_bit s c e
answer_by false s c e = refused_bit s

-- for every state and every word: the answer's bits 13..8 are the enabled flags of the state that it leaves
pub answer_requests : (s : Source) (c : Chip) (word : ℕ) →
    bit (8 + place s) (step c word).answer ≡ (well_formed c && (flag s (step c word).chip && enabled s (step c word).chip))
unfolding step
answer_requests s c word = answer_by (well_formed c) s c (decode word)
