-- A byte transmitted: the chip puts its bits on SDA, the first on top, and takes the ninth level as RXAK.
-- Assumes nothing.
use mathlib.Core.Path.{◌≡◌, refl, ap, ap₂, ◌∙◌}
use mathlib.Core.Bool.{Bool, true, false, not}
use mathlib.Core.List.{List, [], ◌∷◌}
use Prim.Native.Nat.{ℕ, ◌+◌, ◌<◌}
use native.Mathlib.Omega.{arith}
use borrow.Author.Tests.{lt-ltb, ne_eqb}
use lib.Dec.{eqb}
use Rattle.bits.specs.Byte.{pick, bit, with_bit}
use Rattle.bits.proofs.Bitwise.{bit_with_bit}
use Rattle.registers.specs.Names.{IIDAT, IISTS, RXAK}
use Rattle.registers.specs.Table.{updated}
use Rattle.std.specs.Prelude.{Ok}
use Rattle.events.specs.Pins.{SDA, SCL}
use Rattle.events.specs.declared.Event.TheVariants.{Write, Pin}
use Rattle.bus.specs.declared.OwnAddress.{OwnAddress}
use Rattle.bus.specs.declared.Phase.{Phase}
use Rattle.bus.specs.declared.Phase.TheVariants.{Transmit}
use Rattle.bus.specs.Bus.{line, mode, pulls_at_bit, pulls_sda, pulls_scl, sda_pulled}
use Rattle.bus_ddc2b.specs.Ddc2b.{phase_at_rise, data_at_rise, status_at_rise, phase_at_fall}
use Rattle.chip.specs.declared.Chip.{Chip}
use Rattle.chip_events.specs.Outcome.{next}
use Rattle.list_call.specs.Run.{advanced}
use Rattle.bus_transfer_laws.specs.Transfers.{shows, bits_of, puts, Holding, write_data, put_sda, raise_scl, lower_scl, clocks, over_clocks, puts_at_rise}
use Rattle.bus_transfer_laws.proofs.Status.{status_shown}
use Rattle.bus_transfer_laws.proofs.Steps.{given, At, after_sda, after_rise, after_fall, called_by, let_go}

-- ---- the phase of a transmit

module _ (m : OwnAddress) (n byte : ℕ) (h : n < 9) where
  waits : (own : ℕ) (sda : Bool) → phase_at_rise own sda (Transmit m n byte) ≡ Transmit m n byte
  unfolding phase_at_rise
  waits own sda = rw (ne_eqb n 9 (λ e. absurd (omega arith)))

  moves : (status : ℕ) → phase_at_fall status (Transmit m n byte) ≡ Transmit m (n + 1) byte
  unfolding phase_at_fall
  moves status = rw (lt-ltb n 9 h)

  status_stays : (sda : Bool) (status : ℕ) → status_at_rise sda (Transmit m n byte) status ≡ status
  unfolding status_at_rise
  status_stays sda status = rw (ne_eqb n 9 (λ e. absurd (omega arith)))

data_stays : (m : OwnAddress) (n byte : ℕ) (sda : Bool) (kept : ℕ) → data_at_rise sda (Transmit m n byte) kept ≡ kept
unfolding data_at_rise
data_stays m n byte sda kept = refl

free : (m : OwnAddress) (n byte : ℕ) → pulls_scl (Transmit m n byte) ≡ false
unfolding pulls_scl
free m n byte = refl

-- ---- what is put on SDA

puts_at : {p : Phase} {status kept : ℕ} {scl sda : Bool} (c : Chip) → At p status kept scl sda c.core → puts c ≡ line (pulls_sda p) true
unfolding mode sda_pulled
puts_at c a = rw (a.iists, a.enddc, a.md, a.phase)

line_not : (x : Bool) → line (not x) true ≡ x
line_not true = refl
line_not false = refl

-- ---- a clock

module _ {m : OwnAddress} {n byte status kept : ℕ} {sda : Bool} (c : Chip) (h : n < 9) (a : At (Transmit m n byte) status kept false sda c.core) where
  risen : At (Transmit m n byte) status kept true sda (next c (Ok (Pin SCL true))).core
  risen =
      let level : Bool = line (pulls_sda (Transmit m n byte)) sda in
      rw (waits m n byte h c.core.bus.iiadr level, status_stays m n byte h level status, data_stays m n byte level kept) at
      (after_rise c (free m n byte) a (rw (status_stays m n byte h level status) a.enddc))

  fallen : At (Transmit m (n + 1) byte) status kept false sda (next (next c (Ok (Pin SCL true))) (Ok (Pin SCL false))).core
  fallen = rw (moves m n byte h status) at (after_fall (next c (Ok (Pin SCL true))) (free m n byte) risen)

  two : (ws : List ℕ) → advanced c (raise_scl ∷ lower_scl ∷ ws) ≡ advanced (next (next c (Ok (Pin SCL true))) (Ok (Pin SCL false))) ws
  two ws = given c (Ok (Pin SCL true)) (lower_scl ∷ ws) refl ∙ given (next c (Ok (Pin SCL true))) (Ok (Pin SCL false)) ws refl

  clocked : At (Transmit m (n + 1) byte) status kept false sda (advanced c (raise_scl ∷ lower_scl ∷ [])).core
  clocked = rw (two []) fallen

  clocked_on : (P : Chip → Type 0) (ws : List ℕ) → ((x : Chip) → At (Transmit m (n + 1) byte) status kept false sda x.core → P (advanced x ws)) → P (advanced c (raise_scl ∷ lower_scl ∷ ws))
  clocked_on P ws k = rw (two ws) (k (next (next c (Ok (Pin SCL true))) (Ok (Pin SCL false))) fallen)

  out : puts c ≡ line (pulls_sda (Transmit m n byte)) true
  out = puts_at c a

  out_high : puts_at_rise c ≡ line (pulls_sda (Transmit m n byte)) true
  out_high = rw (given c (Ok (Pin SCL true)) [] refl) (puts_at (next c (Ok (Pin SCL true))) risen)

-- ---- eight bits

-- something seen that the phase alone settles
abbrev Sees : (Chip → Bool) → OwnAddress → ℕ → ℕ → ℕ → Bool → Type 0
Sees seen m byte status kept sda = (n : ℕ) (c : Chip) → n < 9 → At (Transmit m n byte) status kept false sda c.core → seen c ≡ line (pulls_sda (Transmit m n byte)) true

cons : {x y : Bool} {xs ys : List Bool} → x ≡ y → xs ≡ ys → x ∷ xs ≡ y ∷ ys
cons e f = ap₂ (λ (x : Bool) (xs : List Bool). x ∷ xs) e f

module _ (seen : Chip → Bool) {m : OwnAddress} {byte status kept : ℕ} {sda : Bool} (sees : Sees seen m byte status kept sda) where
  eight : (c : Chip) → At (Transmit m 1 byte) status kept false sda c.core → over_clocks seen 8 c ≡ bits_of byte
  unfolding pulls_sda pulls_at_bit
  eight c a1 =
      let x2 : Chip = advanced c (raise_scl ∷ lower_scl ∷ []) in
      let a2 : At (Transmit m 2 byte) status kept false sda x2.core = clocked c (omega arith) a1 in
      let x3 : Chip = advanced x2 (raise_scl ∷ lower_scl ∷ []) in
      let a3 : At (Transmit m 3 byte) status kept false sda x3.core = clocked x2 (omega arith) a2 in
      let x4 : Chip = advanced x3 (raise_scl ∷ lower_scl ∷ []) in
      let a4 : At (Transmit m 4 byte) status kept false sda x4.core = clocked x3 (omega arith) a3 in
      let x5 : Chip = advanced x4 (raise_scl ∷ lower_scl ∷ []) in
      let a5 : At (Transmit m 5 byte) status kept false sda x5.core = clocked x4 (omega arith) a4 in
      let x6 : Chip = advanced x5 (raise_scl ∷ lower_scl ∷ []) in
      let a6 : At (Transmit m 6 byte) status kept false sda x6.core = clocked x5 (omega arith) a5 in
      let x7 : Chip = advanced x6 (raise_scl ∷ lower_scl ∷ []) in
      let a7 : At (Transmit m 7 byte) status kept false sda x7.core = clocked x6 (omega arith) a6 in
      let x8 : Chip = advanced x7 (raise_scl ∷ lower_scl ∷ []) in
      let a8 : At (Transmit m 8 byte) status kept false sda x8.core = clocked x7 (omega arith) a7 in
      cons (sees 1 c (omega arith) a1 ∙ line_not (bit 7 byte))
      (cons (sees 2 x2 (omega arith) a2 ∙ line_not (bit 6 byte))
      (cons (sees 3 x3 (omega arith) a3 ∙ line_not (bit 5 byte))
      (cons (sees 4 x4 (omega arith) a4 ∙ line_not (bit 4 byte))
      (cons (sees 5 x5 (omega arith) a5 ∙ line_not (bit 3 byte))
      (cons (sees 6 x6 (omega arith) a6 ∙ line_not (bit 2 byte))
      (cons (sees 7 x7 (omega arith) a7 ∙ line_not (bit 1 byte))
      (cons (sees 8 x8 (omega arith) a8 ∙ line_not (bit 0 byte)) refl)))))))

-- ---- the ninth level

module _ {m : OwnAddress} {byte status kept : ℕ} {sda : Bool} (c : Chip) (a : At (Transmit m 9 byte) status kept false sda c.core) (level : Bool) where
  ninth_status : (k : ℕ) → k < 8 → bit k (with_bit status RXAK level) ≡ pick (eqb k RXAK) level (bit k status)
  ninth_status k h = bit_with_bit k RXAK status level h (omega arith)

  ninth_risen : At (Transmit m 10 byte) (with_bit status RXAK level) kept true level (next (next c (Ok (Pin SDA level))) (Ok (Pin SCL true))).core
  unfolding phase_at_rise status_at_rise data_at_rise pulls_sda pulls_at_bit
  ninth_risen =
      let x : Chip = next c (Ok (Pin SDA level)) in
      let b = after_sda c (free m 9 byte) level a in
      after_rise x (free m 9 byte) b (ninth_status 3 (omega arith) ∙ a.enddc)

  ninth : shows IISTS RXAK (advanced c (put_sda level ∷ raise_scl ∷ [])) ≡ level
  unfolding bit
  ninth =
      let x : Chip = next c (Ok (Pin SDA level)) in
      let y : Chip = next x (Ok (Pin SCL true)) in
      rw (given c (Ok (Pin SDA level)) (raise_scl ∷ []) refl, given x (Ok (Pin SCL true)) [] refl)
      (status_shown y RXAK ninth_risen.reset refl ∙ ap (bit RXAK) ninth_risen.iists ∙ ninth_status RXAK (omega arith))

-- ---- a whole byte

-- what holds of every run from the eighth fall on
module _ (P : Chip → Type 0) (ws : List ℕ) {m : OwnAddress} {byte status kept : ℕ} {sda : Bool} where
  from_eighth : (c : Chip) → At (Transmit m 1 byte) status kept false sda c.core → ((x : Chip) → At (Transmit m 9 byte) status kept false sda x.core → P (advanced x ws)) → P (advanced c (clocks 8 ws))
  from_eighth c a1 k =
      clocked_on c (omega arith) a1 P (clocks 7 ws) (λ x2 a2.
      clocked_on x2 (omega arith) a2 P (clocks 6 ws) (λ x3 a3.
      clocked_on x3 (omega arith) a3 P (clocks 5 ws) (λ x4 a4.
      clocked_on x4 (omega arith) a4 P (clocks 4 ws) (λ x5 a5.
      clocked_on x5 (omega arith) a5 P (clocks 3 ws) (λ x6 a6.
      clocked_on x6 (omega arith) a6 P (clocks 2 ws) (λ x7 a7.
      clocked_on x7 (omega arith) a7 P (clocks 1 ws) (λ x8 a8.
      clocked_on x8 (omega arith) a8 P ws k)))))))

module _ (c : Chip) (byte : ℕ) (l : byte < 256) (hold : Holding true c) where
  let_go_at : At (Transmit (called_by c hold) 1 byte) c.core.bus.iists (updated IIDAT c.core.bus.iidat byte) false c.core.sda (advanced c (write_data byte ∷ [])).core
  let_go_at = rw (given c (Ok (Write IIDAT byte)) [] (omega arith, l)) (let_go c hold byte)

  -- from a hold with TRX 1: the levels after letting go and after each of the next seven falls
  pub transmitted : over_clocks puts 8 (advanced c (write_data byte ∷ [])) ≡ bits_of byte
  transmitted = eight puts (λ n x h a. out x h a) (advanced c (write_data byte ∷ [])) let_go_at

  -- and with SCL high at each of the eight rises
  pub transmitted_at_rises : over_clocks puts_at_rise 8 (advanced c (write_data byte ∷ [])) ≡ bits_of byte
  transmitted_at_rises = eight puts_at_rise (λ n x h a. out_high x h a) (advanced c (write_data byte ∷ [])) let_go_at

  -- the eighth fall releases SDA
  pub released_at_eighth : puts (advanced c (write_data byte ∷ clocks 8 [])) ≡ true
  unfolding pulls_sda pulls_at_bit
  released_at_eighth =
      rw (given c (Ok (Write IIDAT byte)) (clocks 8 []) (omega arith, l))
      (from_eighth (λ (x : Chip). puts x ≡ true) [] (next c (Ok (Write IIDAT byte))) (let_go c hold byte) (λ x a. puts_at x a))

  -- and the level then put on SDA is what RXAK shows after the ninth rise
  pub acknowledge_shown : (level : Bool) → shows IISTS RXAK (advanced c (write_data byte ∷ clocks 8 (put_sda level ∷ raise_scl ∷ []))) ≡ level
  acknowledge_shown level =
      rw (given c (Ok (Write IIDAT byte)) (clocks 8 (put_sda level ∷ raise_scl ∷ [])) (omega arith, l))
      (from_eighth (λ (x : Chip). shows IISTS RXAK x ≡ level) (put_sda level ∷ raise_scl ∷ []) (next c (Ok (Write IIDAT byte))) (let_go c hold byte) (λ x a. ninth x a level))
