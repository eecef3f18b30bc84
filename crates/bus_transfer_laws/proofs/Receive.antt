-- A byte received: after the eighth rise II DAT holds the levels of SDA at the eight rises, the first on top.
-- Assumes nothing.
use mathlib.Core.Path.{◌≡◌, refl, ap, ◌∙◌}
use mathlib.Core.Bool.{Bool, true, false, ◌&&◌, beq}
use mathlib.Core.List.{List, [], ◌∷◌}
use Prim.Native.Nat.{ℕ, ◌+◌, ◌<◌}
use native.Mathlib.Omega.{arith}
use borrow.Author.Tests.{lt-ltb, le-ltb, ne_eqb}
use lib.Bits.{bit_and}
use Rattle.bits.specs.Byte.{bit}
use Rattle.bits.proofs.Finite.{beq_eq, both, T_true}
use Rattle.registers.specs.Names.{IIDAT}
use Rattle.registers.specs.Table.{row_of, read_mask, is_readable, updated}
use Rattle.std.specs.Prelude.{Ok}
use Rattle.events.specs.Pins.{SDA, SCL}
use Rattle.events.specs.declared.Event.TheVariants.{Write, Pin}
use Rattle.bus.specs.declared.OwnAddress.{OwnAddress}
use Rattle.bus.specs.declared.Phase.{Phase}
use Rattle.bus.specs.declared.Phase.TheVariants.{Receive}
use Rattle.bus.specs.Bus.{line, pulls_sda, pulls_scl}
use Rattle.bus_ddc2b.specs.Ddc2b.{gathered, phase_at_rise, data_at_rise, status_at_rise, phase_at_fall}
use Rattle.chip.specs.declared.Chip.{Chip}
use Rattle.chip_reads.specs.Reads.{shown, reading}
use Rattle.chip_events.specs.Outcome.{next}
use Rattle.list_call.specs.Run.{advanced}
use Rattle.chip_flag_laws.proofs.Bools.{at_eight}
use Rattle.bus_transfer_laws.specs.Transfers.{bits_of, Holding, write_data, put_sda, raise_scl, lower_scl, clock_in}
use Rattle.bus_transfer_laws.proofs.Steps.{given, At, after_sda, after_rise, after_fall, called_by, let_go}

-- ---- the phase of a receive

module _ (m : OwnAddress) (n bits : ℕ) (h : n < 8) where
  gathers : (own : ℕ) (sda : Bool) → phase_at_rise own sda (Receive m n bits) ≡ Receive m (n + 1) (gathered bits sda)
  unfolding phase_at_rise
  gathers own sda = rw (lt-ltb n 8 h)

  stays : (status : ℕ) → phase_at_fall status (Receive m n bits) ≡ Receive m n bits
  unfolding phase_at_fall
  stays status = rw (le-ltb 8 n (omega arith), ne_eqb n 8 (λ e. absurd (omega arith)))

  unpulled : pulls_sda (Receive m n bits) ≡ false
  unfolding pulls_sda
  unpulled = ne_eqb n 9 (λ e. absurd (omega arith))

  status_stays : (sda : Bool) (status : ℕ) → status_at_rise sda (Receive m n bits) status ≡ status
  unfolding status_at_rise
  status_stays sda status = refl

  free : pulls_scl (Receive m n bits) ≡ false
  unfolding pulls_scl
  free = refl

data_stays : (m : OwnAddress) (n bits : ℕ) → n < 7 → (sda : Bool) (byte : ℕ) → data_at_rise sda (Receive m n bits) byte ≡ byte
unfolding data_at_rise
data_stays m n bits h sda byte = rw (ne_eqb n 7 (λ e. absurd (omega arith)))

data_taken : (m : OwnAddress) (bits : ℕ) (sda : Bool) (byte : ℕ) → data_at_rise sda (Receive m 7 bits) byte ≡ gathered bits sda
unfolding data_at_rise
data_taken m bits sda byte = refl

-- ---- a level taken

module _ {m : OwnAddress} {n bits status byte : ℕ} {sda : Bool} (c : Chip) (level : Bool) (h : n < 8) (a : At (Receive m n bits) status byte false sda c.core) where
  risen : At (Receive m (n + 1) (gathered bits level)) status (data_at_rise level (Receive m n bits) byte) true level (next (next c (Ok (Pin SDA level))) (Ok (Pin SCL true))).core
  risen =
      let x : Chip = next c (Ok (Pin SDA level)) in
      let b = after_sda c (free m n bits h) level a in
      rw (unpulled m n bits h, gathers m n bits h x.core.bus.iiadr level, status_stays m n bits h level status) at
      (after_rise x (free m n bits h) b (rw (status_stays m n bits h (line (pulls_sda (Receive m n bits)) level) status) b.enddc))

module _ {m : OwnAddress} {n bits status byte : ℕ} {sda : Bool} (P : Chip → Type 0) (c : Chip) (level : Bool) (ws : List ℕ) (h : n < 7) (a : At (Receive m n bits) status byte false sda c.core) where
  -- one of the first seven
  clocked : ((x : Chip) → At (Receive m (n + 1) (gathered bits level)) status byte false level x.core → P (advanced x ws)) → P (advanced c (put_sda level ∷ raise_scl ∷ lower_scl ∷ ws))
  clocked k =
      let x : Chip = next c (Ok (Pin SDA level)) in
      let y : Chip = next x (Ok (Pin SCL true)) in
      let z : Chip = next y (Ok (Pin SCL false)) in
      let b : At (Receive m (n + 1) (gathered bits level)) status byte true level y.core = rw (data_stays m n bits h level byte) at (risen c level (omega arith) a) in
      let d : At (Receive m (n + 1) (gathered bits level)) status byte false level z.core = rw (stays m (n + 1) (gathered bits level) (omega arith) status) at (after_fall y (free m (n + 1) (gathered bits level) (omega arith)) b) in
      rw (given c (Ok (Pin SDA level)) (raise_scl ∷ lower_scl ∷ ws) refl, given x (Ok (Pin SCL true)) (lower_scl ∷ ws) refl, given y (Ok (Pin SCL false)) ws refl) (k z d)

-- ---- what II DAT shows

data_shown : (c : Chip) {byte : ℕ} {p : Phase} {status : ℕ} {scl sda : Bool} → At p status byte scl sda c.core → (reading c IIDAT).byte ≡ bit_and byte 255
unfolding reading is_readable read_mask row_of shown
data_shown c a = rw (a.reset, a.iidat)

-- eight levels, as they are gathered
abbrev seven : Bool → Bool → Bool → Bool → Bool → Bool → Bool → ℕ
seven a b d e f g h = gathered (gathered (gathered (gathered (gathered (gathered (gathered 0 a) b) d) e) f) g) h

abbrev eight : Bool → Bool → Bool → Bool → Bool → Bool → Bool → Bool → ℕ
eight a b d e f g h i = gathered (seven a b d e f g h) i

abbrev same : List Bool → List Bool → Bool
same [] [] = true
same [] (y ∷ ys) = false
same (x ∷ xs) [] = false
same (x ∷ xs) (y ∷ ys) = beq x y && same xs ys

same_eq : (xs ys : List Bool) → same xs ys ≡ true → xs ≡ ys
same_eq [] [] h = refl
same_eq [] (y ∷ ys) h = cc
same_eq (x ∷ xs) [] h = cc
same_eq (x ∷ xs) (y ∷ ys) h = let k = both (beq x y) (same xs ys) h in rw (beq_eq x y (rw k.0 tt), same_eq xs ys k.1)

top_first : (a b d e f g h i : Bool) → bits_of (bit_and (eight a b d e f g h i) 255) ≡ a ∷ b ∷ d ∷ e ∷ f ∷ g ∷ h ∷ i ∷ []
unfolding bit gathered
top_first a b d e f g h i = same_eq _ _ (T_true _ (at_eight (λ a b d e f g h i. same (bits_of (bit_and (eight a b d e f g h i) 255)) (a ∷ b ∷ d ∷ e ∷ f ∷ g ∷ h ∷ i ∷ [])) tt a b d e f g h i))

-- the eighth level completes the byte
last : (P : Chip → Type 0) (m : OwnAddress) {bits status : ℕ} (byte : ℕ) {sda : Bool} (c : Chip) (level : Bool) → At (Receive m 7 bits) status byte false sda c.core →
    ((x : Chip) → At (Receive m 8 (gathered bits level)) status (gathered bits level) true level x.core → P x) → P (advanced c (put_sda level ∷ raise_scl ∷ []))
last P m {bits} {status} byte c level a k =
    let x : Chip = next c (Ok (Pin SDA level)) in
    let y : Chip = next x (Ok (Pin SCL true)) in
    let r : At (Receive m 8 (gathered bits level)) status (gathered bits level) true level y.core = rw (data_taken m bits level byte) at (risen c level (omega arith) a) in
    rw (given c (Ok (Pin SDA level)) (raise_scl ∷ []) refl, given x (Ok (Pin SCL true)) [] refl) (k y r)

-- from a hold with TRX 0: the chip at the eighth rise, with the bits that were gathered
module _ (P : Chip → Type 0) (c : Chip) (byte : ℕ) (l : byte < 256) (hold : Holding false c) (a b d e f g h i : Bool) where
  pub at_eighth_rise : ((x : Chip) → At (Receive (called_by c hold) 8 (eight a b d e f g h i)) c.core.bus.iists (eight a b d e f g h i) true i x.core → P x) →
      P (advanced c (write_data byte ∷ clock_in (a ∷ b ∷ d ∷ e ∷ f ∷ g ∷ h ∷ []) (put_sda i ∷ raise_scl ∷ [])))
  at_eighth_rise k =
      let m : OwnAddress = called_by c hold in
      let end : List ℕ = put_sda i ∷ raise_scl ∷ [] in
      rw (given c (Ok (Write IIDAT byte)) (clock_in (a ∷ b ∷ d ∷ e ∷ f ∷ g ∷ h ∷ []) end) (omega arith, l))
      (clocked P (next c (Ok (Write IIDAT byte))) a (clock_in (b ∷ d ∷ e ∷ f ∷ g ∷ h ∷ []) end) (omega arith) (let_go c hold byte) (λ x1 a1.
      clocked P x1 b (clock_in (d ∷ e ∷ f ∷ g ∷ h ∷ []) end) (omega arith) a1 (λ x2 a2.
      clocked P x2 d (clock_in (e ∷ f ∷ g ∷ h ∷ []) end) (omega arith) a2 (λ x3 a3.
      clocked P x3 e (clock_in (f ∷ g ∷ h ∷ []) end) (omega arith) a3 (λ x4 a4.
      clocked P x4 f (clock_in (g ∷ h ∷ []) end) (omega arith) a4 (λ x5 a5.
      clocked P x5 g (clock_in (h ∷ []) end) (omega arith) a5 (λ x6 a6.
      clocked P x6 h end (omega arith) a6 (λ x7 a7. last P m (updated IIDAT c.core.bus.iidat byte) x7 i a7 k))))))))

-- and what II DAT shows there
pub received : (c : Chip) (byte : ℕ) → byte < 256 → Holding false c → (a b d e f g h i : Bool) →
    bits_of (reading (advanced c (write_data byte ∷ clock_in (a ∷ b ∷ d ∷ e ∷ f ∷ g ∷ h ∷ []) (put_sda i ∷ raise_scl ∷ []))) IIDAT).byte ≡ a ∷ b ∷ d ∷ e ∷ f ∷ g ∷ h ∷ i ∷ []
received c byte l hold a b d e f g h i =
    at_eighth_rise (λ (x : Chip). bits_of (reading x IIDAT).byte ≡ a ∷ b ∷ d ∷ e ∷ f ∷ g ∷ h ∷ i ∷ []) c byte l hold a b d e f g h i
    (λ x at. ap bits_of (data_shown x at) ∙ top_first a b d e f g h i)
