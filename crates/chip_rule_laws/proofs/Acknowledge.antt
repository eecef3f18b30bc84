-- The acknowledge of a received byte is TXAK's as it stood at the eighth fall; that of the chip's own address is always given; the ninth fall ends both.
use mathlib.Core.Path.{◌≡◌, refl, sym, ◌∙◌}
use mathlib.Core.Bool.{Bool, true, false, not, ◌||◌, true≢false}
use mathlib.Core.List.{List, [], ◌∷◌}
use Prim.Native.Nat.{ℕ, ◌<◌}
use native.Mathlib.Omega.{arith}
use borrow.Author.Tests.{lt-ltb, eqb-true, not-true}
use lib.Dec.{eqb, ltb}
use lib.Bits.{bit_or}
use Rattle.bits.specs.Byte.{pick, weight, weight_if, bit}
use Rattle.bits.proofs.Bitwise.{bit_or_lem}
use Rattle.bits.proofs.Finite.{both}
use Rattle.registers.specs.Names.{INTD, INTS}
use Rattle.std.specs.Prelude.{Ok, Err}
use Rattle.events.specs.Pins.{SCL}
use Rattle.events.specs.Decoded.{Decoded}
use Rattle.events.specs.declared.Event.TheVariants.{Read, Write, Pin, Clock, Polarity}
use Rattle.bus.specs.declared.Mode.{Mode}
use Rattle.bus.specs.declared.Mode.TheVariants.{Off, Ddc1, Ddc2b}
use Rattle.bus.specs.declared.Shifter.{Shifter}
use Rattle.bus.specs.declared.OwnAddress.{OwnAddress}
use Rattle.bus.specs.declared.Comparison.{Comparison}
use Rattle.bus.specs.declared.Comparison.TheVariants.{None, Own}
use Rattle.bus.specs.declared.Phase.{Phase}
use Rattle.bus.specs.declared.Phase.TheVariants.{Idle, Address, Addressed, Ignoring, Receive, Transmit, Held}
use Rattle.bus.specs.Bus.{is_own, line, mode, pulls_sda, pulls_scl, sda_pulled, scl_pulled}
use Rattle.bus_ddc2b.specs.Ddc2b.{matches, compared, gathered, acknowledges, phase_at_rise, status_at_rise, holds_at_fall, phase_at_fall}
use Rattle.bus_ddc2b.proofs.Own.{own_matches}
use Rattle.chip.specs.declared.Core.{Core}
use Rattle.chip.specs.declared.Chip.{Chip}
use Rattle.chip.specs.State.{mode_of, with_scl}
use Rattle.chip_edges.specs.Edges.{bus_at_rise, scl_rise, scl_fall, on_scl, on_scl_ddc2b, scl_moved}
use Rattle.chip_pins.specs.Pins.{pin_kind, pin_moved_as, pin_moved}
use Rattle.chip_events.specs.Outcome.{core_after, next}
use Rattle.list_call.specs.Run.{advanced}
use Rattle.chip_flag_laws.specs.Causes.{completes_match, raises}
use Rattle.chip_flag_laws.specs.Causes.Source.{AddressMatch}
use Rattle.bus_transfer_laws.specs.Transfers.{Holding, puts, write_data, put_sda, raise_scl, lower_scl, clock_in}
use Rattle.bus_transfer_laws.proofs.Steps.{given}
use Rattle.bus_transfer_laws.proofs.Receive.{at_eighth_rise}
use Rattle.chip_rule_laws.specs.Acknowledge.{puts_scl, txak, lasts, Ended, InNinth}
use Rattle.chip_rule_laws.specs.Steady.{In}
use Rattle.chip_rule_laws.proofs.Steady.{Steady, addressed_steady, received_steady, steady_over, scl_over}

in_mode : {p : Phase} {c : Core} → In p c → mode_of c ≡ Ddc2b
unfolding mode
in_mode h = rw (h.enddc, h.md)

-- what the chip puts on the lines in a phase of DDC2B
puts_in : {p : Phase} (c : Chip) → In p c.core → puts c ≡ line (pulls_sda p) true
unfolding sda_pulled
puts_in c h = rw (in_mode h, h.phase) refl

puts_scl_in : {p : Phase} (c : Chip) → In p c.core → puts_scl c ≡ line (pulls_scl p) true
unfolding scl_pulled
puts_scl_in c h = rw (in_mode h, h.phase) refl

-- ---- a fall of SCL in a phase that does not hold it

module _ {p : Phase} (c : Chip) (free : pulls_scl p ≡ false) (h : In p c.core) (high : c.core.scl ≡ true) where
  seen : (next c (Ok (Pin SCL false))).core ≡ scl_fall (with_scl c.core false)
  unfolding next core_after pin_moved pin_moved_as pin_kind scl_moved on_scl on_scl_ddc2b scl_pulled
  seen = rw (h.reset, in_mode h, h.phase, high, free) refl

  fallen : In (phase_at_fall c.core.bus.iists p) (next c (Ok (Pin SCL false))).core
  unfolding scl_fall
  fallen = rw seen (record { reset = h.reset; enddc = h.enddc; md = h.md; phase = rw h.phase refl })

  flags_after : (next c (Ok (Pin SCL false))).core.irqx ≡ bit_or c.core.irqx (bit_or (weight INTS) (weight_if (holds_at_fall p) INTD))
  unfolding scl_fall
  flags_after = rw (seen, h.phase) refl

or_true : (x : Bool) → (x || true) ≡ true
or_true true = refl
or_true false = refl

-- one that the next fall ends
module _ {p : Phase} {m : OwnAddress} (c : Chip) (free : pulls_scl p ≡ false) (holds : holds_at_fall p ≡ true) (moves : (status : ℕ) → phase_at_fall status p ≡ Held m 0) (h : In p c.core) where
  ends_byte_lem : c.core.scl ≡ true → Ended (advanced c (lower_scl ∷ []))
  unfolding pulls_sda pulls_scl bit
  ends_byte_lem high =
      rw (given c (Ok (Pin SCL false)) [] refl)
      (let f : In (Held m 0) (next c (Ok (Pin SCL false))).core = rw (moves c.core.bus.iists) at (fallen c free h high) in
      record {
        flag_d = rw (flags_after c free h high, holds) (bit_or_lem INTD c.core.irqx 48 ∙ or_true (bit INTD c.core.irqx));
        sda = puts_in (next c (Ok (Pin SCL false))) f;
        scl = puts_scl_in (next c (Ok (Pin SCL false))) f;
      })

-- ---- the ninth clock, from its first moment on

module _ {p : Phase} {m : OwnAddress} (st : Steady p) (holds : holds_at_fall p ≡ true) (moves : (status : ℕ) → phase_at_fall status p ≡ Held m 0) where
  ninth : (c : Chip) (ws : List ℕ) → In p c.core → lasts c ws ≡ true → InNinth (line (pulls_sda p) true) (advanced c ws)
  ninth c ws h z =
      let x : Chip = advanced c ws in
      let i : In p x.core = steady_over st c ws h z in
      record { sda = puts_in x i; scl = puts_scl_in x i ∙ rw st.free refl; fall = ends_byte_lem x st.free holds moves i }

-- ---- a data byte

-- its two positions behind the eighth fall
past_eight : (acknowledged : Bool) → 8 < pick acknowledged 9 10
past_eight true = omega arith
past_eight false = omega arith

receive_holds : (m : OwnAddress) (n bits : ℕ) → 8 < n → holds_at_fall (Receive m n bits) ≡ true
unfolding holds_at_fall
receive_holds m n bits h = lt-ltb 8 n h

receive_moves : (m : OwnAddress) (n bits : ℕ) → 8 < n → (status : ℕ) → phase_at_fall status (Receive m n bits) ≡ Held m 0
unfolding phase_at_fall
receive_moves m n bits h status = rw (lt-ltb 8 n h) refl

by_txak : (b : Bool) → line (eqb (pick (not b) 9 10) 9) true ≡ b
by_txak true = refl
by_txak false = refl

eighth_fall : (m : OwnAddress) (bits status : ℕ) → phase_at_fall status (Receive m 8 bits) ≡ Receive m (pick (not (bit 0 status)) 9 10) bits
unfolding phase_at_fall acknowledges
eighth_fall m bits status = refl

data_puts : (m : OwnAddress) (bits : ℕ) (b : Bool) → line (pulls_sda (Receive m (pick (not b) 9 10) bits)) true ≡ b
unfolding pulls_sda
data_puts m bits b = by_txak b

received_at : (m : OwnAddress) (bits : ℕ) (c : Chip) (us vs : List ℕ) → In (Receive m 8 bits) c.core → c.core.scl ≡ true → lasts c us ≡ true →
    lasts (advanced (advanced c us) (lower_scl ∷ [])) vs ≡ true → InNinth (txak (advanced c us)) (advanced (advanced c us) (lower_scl ∷ vs))
unfolding pulls_scl
received_at m bits c us vs h high before within =
    let x : Chip = advanced c us in
    let i : In (Receive m 8 bits) x.core = steady_over (received_steady m 8 bits (omega arith)) c us h before in
    let t : Bool = txak x in
    let n : ℕ = pick (not t) 9 10 in
    let f : In (Receive m n bits) (next x (Ok (Pin SCL false))).core = rw (eighth_fall m bits x.core.bus.iists) at (fallen x refl i (scl_over c us before high)) in
    let l : 8 < n = past_eight (not t) in
    rw (given x (Ok (Pin SCL false)) vs refl)
    (rw (data_puts m bits t) at
    (ninth (received_steady m n bits (omega (arith, l))) (receive_holds m n bits l) (receive_moves m n bits l) (next x (Ok (Pin SCL false))) vs f (rw (given x (Ok (Pin SCL false)) [] refl) at within)))

-- A byte is clocked in from a hold with TRX 0. After the eighth rise come any words that leave the clock as it is, then the eighth fall, and again any such words:
-- the chip puts on SDA what TXAK was just before that fall, and the ninth fall sets D and holds SCL with SDA free, acknowledged or not.
pub received_acknowledged : (c : Chip) (byte : ℕ) → byte < 256 → Holding false c → (a b d e f g h i : Bool) (us vs : List ℕ) →
    lasts (advanced c (write_data byte ∷ clock_in (a ∷ b ∷ d ∷ e ∷ f ∷ g ∷ h ∷ []) (put_sda i ∷ raise_scl ∷ []))) us ≡ true →
    lasts (advanced (advanced (advanced c (write_data byte ∷ clock_in (a ∷ b ∷ d ∷ e ∷ f ∷ g ∷ h ∷ []) (put_sda i ∷ raise_scl ∷ []))) us) (lower_scl ∷ [])) vs ≡ true →
    InNinth (txak (advanced (advanced c (write_data byte ∷ clock_in (a ∷ b ∷ d ∷ e ∷ f ∷ g ∷ h ∷ []) (put_sda i ∷ raise_scl ∷ []))) us))
    (advanced (advanced (advanced c (write_data byte ∷ clock_in (a ∷ b ∷ d ∷ e ∷ f ∷ g ∷ h ∷ []) (put_sda i ∷ raise_scl ∷ []))) us) (lower_scl ∷ vs))
received_acknowledged c byte l hold a b d e f g h i us vs =
    at_eighth_rise
    (λ (x : Chip). lasts x us ≡ true → lasts (advanced (advanced x us) (lower_scl ∷ [])) vs ≡ true → InNinth (txak (advanced x us)) (advanced (advanced x us) (lower_scl ∷ vs)))
    c byte l hold a b d e f g h i
    (λ x at. received_at _ _ x us vs (record { reset = at.reset; enddc = rw at.iists at.enddc; md = at.md; phase = at.phase }) at.scl)

-- ---- the chip's own address

addressed_fall : (m : OwnAddress) (bits status : ℕ) → phase_at_fall status (Addressed m bits false) ≡ Addressed m bits true
unfolding phase_at_fall
addressed_fall m bits status = refl

addressed_moves : (m : OwnAddress) (bits status : ℕ) → phase_at_fall status (Addressed m bits true) ≡ Held m 0
unfolding phase_at_fall
addressed_moves m bits status = refl

-- An address that matched, its eight bits gathered: in the ninth clock SDA is 0 whatever II STS holds, until the ninth fall
pub address_acknowledged : (m : OwnAddress) (bits : ℕ) (c : Chip) (us vs : List ℕ) → In (Addressed m bits false) c.core → c.core.scl ≡ true → lasts c us ≡ true →
    lasts (advanced (advanced c us) (lower_scl ∷ [])) vs ≡ true → InNinth false (advanced (advanced c us) (lower_scl ∷ vs))
unfolding pulls_sda pulls_scl holds_at_fall
address_acknowledged m bits c us vs h high before within =
    let x : Chip = advanced c us in
    let i : In (Addressed m bits false) x.core = steady_over (addressed_steady m bits false) c us h before in
    let f : In (Addressed m bits true) (next x (Ok (Pin SCL false))).core = rw (addressed_fall m bits x.core.bus.iists) at (fallen x refl i (scl_over c us before high)) in
    rw (given x (Ok (Pin SCL false)) vs refl)
    (ninth (addressed_steady m bits true) refl (addressed_moves m bits) (next x (Ok (Pin SCL false))) vs f (rw (given x (Ok (Pin SCL false)) [] refl) at within))

-- ---- the event that sets flag A

-- the phase that the eighth bit of an address of the chip ends in
record Matched (own status : ℕ) (sda : Bool) (p : Phase) : Type 0 where
  pub address : OwnAddress
  pub bits : ℕ
  pub phase : phase_at_rise own sda p ≡ Addressed address bits false
  pub status_kept : status_at_rise sda p status ≡ status
  pub free : pulls_scl p ≡ false

module _ (own status count bits : ℕ) (sda : Bool) (full : ltb count 7 ≡ false) where
  matched_by : (k : Comparison) → compared own (gathered bits sda) ≡ k → is_own k ≡ true → Matched own status sda (Address count bits)
  unfolding phase_at_rise status_at_rise pulls_scl
  matched_by None e h = absurd (true≢false (sym h))
  matched_by (Own m) e h = record { address = m; bits = gathered bits sda; phase = rw (full, e) refl; status_kept = refl; free = refl }

matched : (own status : ℕ) (sda : Bool) (p : Phase) → completes_match own sda p ≡ true → Matched own status sda p
matched own status sda Idle h = absurd (true≢false (sym h))
matched own status sda (Address count bits) h =
    let k = both (not (ltb count 7)) (matches own (gathered bits sda)) h in
    matched_by own status count bits sda (not-true (ltb count 7) k.0) (compared own (gathered bits sda)) refl (own_matches own (gathered bits sda) ∙ k.1)
matched own status sda (Addressed m bits ninth) h = absurd (true≢false (sym h))
matched own status sda Ignoring h = absurd (true≢false (sym h))
matched own status sda (Receive m count bits) h = absurd (true≢false (sym h))
matched own status sda (Transmit m count byte) h = absurd (true≢false (sym h))
matched own status sda (Held m clocks) h = absurd (true≢false (sym h))

-- behind it the chip is in such a phase, SCL high
record Called (c : Chip) : Type 0 where
  pub address : OwnAddress
  pub bits : ℕ
  pub within : In (Addressed address bits false) c.core
  pub scl : c.core.scl ≡ true

module _ (c : Chip) (reset : c.core.reset ≡ true) (low : c.core.scl ≡ false) (enddc : bit 3 c.core.bus.iists ≡ false) (md : bit 0 c.core.mdcon ≡ false) where
  rise_seen : pulls_scl c.core.bus.phase ≡ false → (next c (Ok (Pin SCL true))).core ≡ scl_rise (with_scl c.core true)
  unfolding next core_after pin_moved pin_moved_as pin_kind scl_moved on_scl on_scl_ddc2b scl_pulled mode
  rise_seen free = rw (reset, enddc, md, low, free) refl

  called_at : completes_match c.core.bus.iiadr (line (pulls_sda c.core.bus.phase) c.core.sda) c.core.bus.phase ≡ true → Called (next c (Ok (Pin SCL true)))
  unfolding scl_rise bus_at_rise
  called_at h =
      let m = matched c.core.bus.iiadr c.core.bus.iists (line (pulls_sda c.core.bus.phase) c.core.sda) c.core.bus.phase h in
      let s = rise_seen m.free in
      record {
        address = m.address;
        bits = m.bits;
        within = rw s (record { reset = reset; enddc = rw m.status_kept enddc; md = md; phase = m.phase });
        scl = rw s refl;
      }

called : (c : Chip) (e : Decoded) → raises AddressMatch c e ≡ true → Called (next c e)
unfolding raises
called c (Ok (Read a)) h = absurd (true≢false (sym h))
called c (Ok (Write a b)) h = absurd (true≢false (sym h))
called c (Ok (Pin p level)) h =
    let x = both _ _ h in
    let y = both _ _ x.0 in
    let put = both (eqb p 25) level y.0 in
    let z = both _ _ y.1 in
    let u = both _ _ z.1 in
    let v = both _ _ x.1 in
    let on = both _ _ v.0 in
    rw (eqb-true p 25 put.0, put.1) (called_at c z.0 (not-true c.core.scl u.0) (not-true _ on.0) (not-true _ on.1) v.1)
called c (Ok (Clock k)) h = absurd (true≢false (sym h))
called c (Ok (Polarity vertical level)) h = absurd (true≢false (sym h))
called c (Err r) h = absurd (true≢false (sym h))

-- After the event that sets flag A, whatever was written to II STS or is: any words that leave the clock as it is, the eighth fall, and again any such words. The
-- chip puts 0 on SDA, and the ninth fall sets D and holds SCL with SDA free.
pub match_acknowledged : (c : Chip) (e : Decoded) (us vs : List ℕ) → raises AddressMatch c e ≡ true → lasts (next c e) us ≡ true →
    lasts (advanced (advanced (next c e) us) (lower_scl ∷ [])) vs ≡ true → InNinth false (advanced (advanced (next c e) us) (lower_scl ∷ vs))
match_acknowledged c e us vs h before within =
    let k = called c e h in
    address_acknowledged k.address k.bits (next c e) us vs k.within k.scl before within

-- ---- while SCL is held

is_pulled : (x : Bool) → line x true ≡ false → x ≡ true
is_pulled true h = refl
is_pulled false h = absurd (true≢false h)

held_free : (p : Phase) → pulls_scl p ≡ true → pulls_sda p ≡ false
unfolding pulls_scl pulls_sda
held_free Idle h = refl
held_free (Address count bits) h = refl
held_free (Addressed m bits ninth) h = absurd (true≢false (sym h))
held_free Ignoring h = refl
held_free (Receive m count bits) h = absurd (true≢false (sym h))
held_free (Transmit m count byte) h = absurd (true≢false (sym h))
held_free (Held m clocks) h = refl

free_by : (m : Mode) (p : Phase) (s : Shifter) → line (scl_pulled m p) true ≡ false → line (sda_pulled m p s) true ≡ true
unfolding scl_pulled sda_pulled
free_by Off p s h = refl
free_by Ddc1 p s h = absurd (true≢false h)
free_by Ddc2b p s h = rw (held_free p (is_pulled (pulls_scl p) h)) refl

-- in every state in which the chip holds SCL it leaves SDA free
pub free_while_held : (c : Chip) → puts_scl c ≡ false → puts c ≡ true
free_while_held c h = free_by (mode_of c.core) c.core.bus.phase c.core.bus.shifter h
