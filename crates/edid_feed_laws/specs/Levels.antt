-- Bytes fed through DDC1 (document 02, Wish 7): the bytes that a list writes, and the levels that the chip puts on SDA.
use Rattle.std.specs.Prelude.{ℕ, ◌-◌, ◌<◌, ◌≡◌, List, [], ◌∷◌, ◌++◌, Bool, true, false, not, ◌&&◌, ◌||◌, eqb, ltb, length, get_or, take}
use Rattle.bits.specs.Byte.{pick, bit}
use Rattle.registers.specs.Names.{IIDAT}
use Rattle.events.specs.Pins as pin
use Rattle.events.specs.Decoded.{Decoded}
use Rattle.events.specs.Kinds.{on_write, on_pin}
use Rattle.events.specs.Word.{decode}
use Rattle.bus.specs.Bus.{line, sda_pulled}
use Rattle.chip.specs.declared.Core.{Core}
use Rattle.chip.specs.declared.Chip.{Chip}
use Rattle.chip_edges.specs.Edges.{active_mode}
use Rattle.step.specs.Step.{step}
use Rattle.edid_feed_laws.specs.Observer.{Observer, observer_of, accepted, shifts, observe, throughout}

-- ---- the bytes written

-- the byte that a write carried out brings to II DAT
abbrev pub byte_taken : ℕ → ℕ → List ℕ
byte_taken a b = pick (eqb a IIDAT) (b ∷ []) []

-- the byte that an event writes to II DAT
abbrev pub byte_written : Observer → Decoded → List ℕ
byte_written o = on_write [] (λ a b. pick (accepted o a) (byte_taken a b) [])

-- the bytes that a list writes to II DAT, in order
abbrev pub bytes_written : Observer → List ℕ → List ℕ
bytes_written o [] = []
bytes_written o (w ∷ ws) = byte_written o (decode w) ++ bytes_written (observe o (decode w)) ws

-- ---- the levels put on SDA

-- SDA is pulled by the chip
abbrev pub pulls_sda_now : Core → Bool
pulls_sda_now c = sda_pulled (active_mode c) c.bus.phase c.bus.shifter

-- the level that the chip puts on SDA: 0 where it pulls
abbrev pub sda_put : Core → Bool
sda_put c = not (pulls_sda_now c)

-- SDA's outside level, and the line: what is outside and what the chip puts
abbrev pub sda_outside : Core → Bool
sda_outside c = c.sda

abbrev pub sda_level : Core → Bool
sda_level c = line (pulls_sda_now c) (sda_outside c)

-- a level put on SDA, and whether a load put it
pub record Level : Type 0 where
  pub load : Bool
  pub put : Bool

abbrev pub level : Bool → Bool → Level
level load put = record { load = load; put = put }

-- an event after which a level is listed: a load, or a rise of VSYNCI that shifts once a byte was loaded
abbrev pub shows : Observer → Decoded → Bool
shows o = on_pin false (λ p level. eqb p pin.VSYNCI && (shifts o level && (eqb o.left 0 || o.loaded)))

-- the levels put on SDA after the first load and each rise after it, in order, by the step
abbrev pub levels_put : Observer → Chip → List ℕ → List Level
levels_put o c [] = []
levels_put o c (w ∷ ws) =
    pick (shows o (decode w)) (level (eqb o.left 0) (sda_put (step c w).chip.core) ∷ []) []
    ++ levels_put (observe o (decode w)) (step c w).chip ws

-- level i of a list
abbrev pub level_at : List Level → ℕ → Level
level_at levels i = get_or levels i (level false true)

-- ---- the bits of bytes

-- the bits below the top one, the highest first
abbrev pub low_bits : ℕ → List Bool
low_bits b = bit 6 b ∷ bit 5 b ∷ bit 4 b ∷ bit 3 b ∷ bit 2 b ∷ bit 1 b ∷ bit 0 b ∷ []

-- levels put by shifts
abbrev pub by_shifts : List Bool → List Level
by_shifts [] = []
by_shifts (x ∷ xs) = level false x ∷ by_shifts xs

-- a byte on SDA: a load puts its top bit, seven rises the other bits, and one more the null bit 1
abbrev pub levels_of : ℕ → List Level
levels_of b = level true (bit 7 b) ∷ by_shifts (low_bits b ++ (true ∷ []))

-- bytes one after the other
abbrev pub serial : List ℕ → List Level
serial [] = []
serial (b ∷ bs) = levels_of b ++ serial bs

-- the same by places: level j after the load of byte b, both counted from 0; place 0 is the load's, place 8 the null bit's
abbrev pub level_of : ℕ → ℕ → Level
level_of b j = level (eqb j 0) (pick (ltb j 8) (bit (7 - j) b) true)

-- ---- a list that feeds a block

-- the conditions hold throughout, and the bytes written are the block's, in order, as far as the list goes
pub record Feeds (c : Chip) (block ws : List ℕ) : Type 0 where
  pub kept : throughout (observer_of c) ws ≡ true
  pub bytes : bytes_written (observer_of c) ws ≡ take (length (bytes_written (observer_of c) ws)) block

-- numbers of a byte each
abbrev pub Bytes : List ℕ → Type 0
Bytes block = (i : ℕ) → get_or block i 0 < 256
