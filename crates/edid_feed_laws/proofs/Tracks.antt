-- A chip that is fed, its observer, the bits of the loaded byte that are still to come, and the byte that awaits its load.
-- Assumes nothing.
use Prim.Native.Nat.{ℕ}
use mathlib.Core.Path.{◌≡◌, ap}
use mathlib.Core.List.{List, [], ◌∷◌, ◌++◌}
use mathlib.Core.Bool.{Bool, true, false}
use lib.ListN.{length, take}
use Rattle.bits.specs.Byte.{bit}
use Rattle.sync.specs.declared.Sync.{Sync}
use Rattle.bus.specs.declared.Mode.{Mode}
use Rattle.bus.specs.declared.Mode.TheVariants.{Off, Ddc1}
use Rattle.bus.specs.declared.Phase.{Phase}
use Rattle.bus.specs.declared.Phase.TheVariants.{Idle}
use Rattle.bus.specs.declared.Shifter.{Shifter}
use Rattle.bus.specs.Bus.{mode, mode_by}
use Rattle.bus.specs.Ddc1.{shifter}
use Rattle.chip.specs.declared.Core.{Core}
use Rattle.chip.specs.State.{bus_of, with_bus, with_scl, with_reset}
use Rattle.edid_feed_laws.specs.Observer.{Observer, vsynci_of, iists_of, mdcon_of, watchdog_of}
use Rattle.edid_feed_laws.specs.Levels.{Level, level, low_bits, by_shifts, serial}
use Rattle.edid_feed_laws.proofs.Bits.{Holds}

-- ---- parts of the state that the conditions do not read

abbrev pub iiadr_of : Core → ℕ
iiadr_of c = c.bus.iiadr

abbrev pub iidat_of : Core → ℕ
iidat_of c = c.bus.iidat

abbrev pub phase_of : Core → Phase
phase_of c = c.bus.phase

abbrev pub shifter_of : Core → Shifter
shifter_of c = c.bus.shifter

abbrev pub sync_of : Core → Sync
sync_of c = c.sync

abbrev pub polarity_of : Core → ℕ
polarity_of c = c.polarity

abbrev pub bt_of : Core → ℕ
bt_of c = c.bt

-- the chip g but for RESET, SCL, II DAT and the shift register, with no transfer
abbrev pub frame : Core → Bool → Bool → ℕ → ℕ → ℕ → Core
frame g reset scl iidat register edges =
    with_reset (with_scl (with_bus g (bus_of (iists_of g) (iiadr_of g) iidat Idle (shifter register edges))) scl) reset

abbrev pub observer : Bool → Bool → Bool → Bool → Bool → ℕ → ℕ → Bool → Bool → Observer
observer reset scl vsynci off md left watchdog loaded written =
    record { scl = scl; vsynci = vsynci; reset = reset; off = off; md = md; left = left; watchdog = watchdog; loaded = loaded; written = written }

-- the observer of a chip as g, with RESET, SCL, the mode and what it counted
abbrev pub seen : Core → Bool → Bool → Bool → Bool → ℕ → Bool → Bool → Observer
seen g reset scl off md left loaded written = observer reset scl (vsynci_of g) off md left (watchdog_of g) loaded written

-- the two bits of the mode
pub record ModeBits (iists mdcon : ℕ) (off md : Bool) : Type 0 where
  pub enddc : bit 3 iists ≡ off
  pub md12 : bit 0 mdcon ≡ md

abbrev pub ModeOf : Core → Bool → Bool → Type 0
ModeOf g off md = ModeBits (iists_of g) (mdcon_of g) off md

-- DDC off; DDC1 before the first load; a byte loaded, with the levels p to come
pub data Stage : Bool → Bool → Bool → ℕ → ℕ → List Bool → Type 0 where
  turned_off_lem : (md : Bool) (n r : ℕ) → Stage true md false n r []
  awaiting : (n r : ℕ) → Stage false true false n r []
  sending : (r : ℕ) (p : List Bool) → Holds r p → Stage false true true (length p) r p

-- the byte that awaits its load is in II DAT
pub data Pending : Bool → ℕ → List ℕ → Type 0 where
  nothing : (y : ℕ) → Pending false y []
  waiting : (b : ℕ) → Pending true b (b ∷ [])

-- in DDC2B nothing is claimed, and it stays
pub data Tracks : Core → Observer → List Bool → List ℕ → Type 0 where
  tracks : (g : Core) (z s : Bool) {off md loaded written : Bool} {y r n : ℕ} {p : List Bool} {d : List ℕ} → ModeOf g off md → Stage off md loaded n r p → Pending written y d
      → Tracks (frame g z s y r n) (seen g z s off md n loaded written) p d
  in_ddc2b_lem : (c : Core) (z s v : Bool) (n w : ℕ) (loaded written : Bool) (p : List Bool) (d : List ℕ) → Tracks c (observer z s v false false n w loaded written) p d

-- what an event does: nothing to what is to come; it brings a byte; it loads one; it shifts
pub data Moved (c : Core) (o : Observer) : List Level → List ℕ → List Bool → List ℕ → Type 0 where
  kept : {p : List Bool} {d : List ℕ} → Tracks c o p d → Moved c o [] [] p d
  brings : {p : List Bool} (b : ℕ) → Tracks c o p (b ∷ []) → Moved c o [] (b ∷ []) p []
  loads : (put : Bool) (b : ℕ) → put ≡ bit 7 b → Tracks c o (low_bits b ++ (true ∷ [])) [] → Moved c o (level true put ∷ []) [] [] (b ∷ [])
  shifts : (put x : Bool) {p : List Bool} {d : List ℕ} → put ≡ x → Tracks c o p d → Moved c o (level false put ∷ []) [] (x ∷ p) d

-- the levels that follow
pub followed : {c : Core} {o : Observer} {sh : List Level} {wr : List ℕ} {p : List Bool} {d : List ℕ} → Moved c o sh wr p d → (ls : List Level) (bs : List ℕ)
    → ((q : List Bool) (e : List ℕ) → Tracks c o q e → take (length ls) (by_shifts q ++ serial (e ++ bs)) ≡ ls)
    → take (length (sh ++ ls)) (by_shifts p ++ serial (d ++ (wr ++ bs))) ≡ sh ++ ls
followed (kept f) ls bs k = k _ _ f
followed (brings b f) ls bs k = k _ _ f
followed (loads put b e f) ls bs k = rw e (ap (λ (l : List Level). level true (bit 7 b) ∷ l) (k _ _ f))
followed (shifts put x {p} {d} e f) ls bs k = rw e (ap (λ (l : List Level). level false x ∷ l) (k _ _ f))

-- ---- the mode

pub off_mode : {iists mdcon : ℕ} {md : Bool} → ModeBits iists mdcon true md → mode iists mdcon ≡ Off
unfolding mode
off_mode k = rw k.enddc

pub ddc1_mode : {iists mdcon : ℕ} → ModeBits iists mdcon false true → mode iists mdcon ≡ Ddc1
unfolding mode
ddc1_mode k = rw (k.enddc, k.md12)

-- DDC off or in DDC1
pub data OffOrDdc1 : Mode → Type 0 where
  is_off : OffOrDdc1 Off
  is_ddc1 : OffOrDdc1 Ddc1

pub off_or_ddc1 : {iists mdcon : ℕ} {a b loaded : Bool} {n r : ℕ} {p : List Bool} → ModeBits iists mdcon a b → Stage a b loaded n r p → OffOrDdc1 (mode iists mdcon)
off_or_ddc1 k (turned_off_lem md n r) = rw (off_mode k) is_off
off_or_ddc1 k (awaiting n r) = rw (ddc1_mode k) is_ddc1
off_or_ddc1 k (sending r p h) = rw (ddc1_mode k) is_ddc1
