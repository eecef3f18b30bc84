-- Reading what was written gives the state, so that unequal states have unequal bytes.
-- Assumes nothing.
use mathlib.Core.Path.{◌≡◌, refl, sym, ap, ◌∙◌}
use mathlib.Core.Bool.{Bool, true, false}
use mathlib.Core.List.{List}
use Prim.Native.Nat.{ℕ}
use native.Mathlib.Omega.{arith}
use lib.Dec.{eqb}
use lib.ListN.{length, drop, length-drop}
use Rattle.bits.specs.Byte.{num}
use Rattle.bus.specs.declared.OwnAddress.{OwnAddress}
use Rattle.bus.specs.declared.OwnAddress.TheVariants.{A0, IiAdr, Both}
use Rattle.bus.specs.declared.Phase.{Phase}
use Rattle.bus.specs.declared.Phase.TheVariants.{Idle, Address, Addressed, Ignoring, Receive, Transmit, Held}
use Rattle.chip.specs.declared.Chip.{Chip}
use Rattle.state_bytes.specs.Layout.{low, high, word, level, own_number, own_of, ninth_count, fields, fields_of, phase_of, bytes_of, state_of}

-- ---- a law for each kind of field

pub word_back : (n : ℕ) → word (low n) (high n) ≡ n
word_back n = omega arith

pub level_back : (b : Bool) → level (num b) ≡ b
level_back true = refl
level_back false = refl

pub ninth_back : (b : Bool) → eqb (ninth_count b) 9 ≡ b
ninth_back true = refl
ninth_back false = refl

pub own_back : (a : OwnAddress) → own_of (own_number a) ≡ a
unfolding own_of own_number
own_back A0 = refl
own_back IiAdr = refl
own_back Both = refl

pub phase_back : (p : Phase) → phase_of (fields (fields_of p).number (fields_of p).matched (fields_of p).count (fields_of p).bits (fields_of p).clocks) ≡ p
unfolding phase_of fields_of
phase_back Idle = refl
phase_back (Address n b) = refl
phase_back (Addressed m b n) = rw (own_back m, ninth_back n) refl
phase_back Ignoring = refl
phase_back (Receive m n b) = rw (own_back m) refl
phase_back (Transmit m n b) = rw (own_back m) refl
phase_back (Held m n) = rw (own_back m) refl

-- ---- the whole state

-- for every state, well formed or not
pub read_written : (c : Chip) → state_of (bytes_of c) ≡ c
unfolding state_of bytes_of
read_written c = simp (word_back, level_back, phase_back)

-- two states with the same bytes are the same
pub bytes_injective : (c d : Chip) → bytes_of c ≡ bytes_of d → c ≡ d
bytes_injective c d e = sym (read_written c) ∙ ap state_of e ∙ read_written d

pub bytes_length : (c : Chip) → length c.registers ≡ 38 → length (bytes_of c) ≡ 128
unfolding bytes_of
bytes_length c h = rw h

pub registers_length : (s : List ℕ) → length s ≡ 128 → length (state_of s).registers ≡ 38
unfolding state_of
registers_length s h = length-drop 90 s ∙ rw h
