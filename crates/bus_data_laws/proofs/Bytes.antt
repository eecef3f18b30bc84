-- The phases of a byte by the rises of the SCL line since it began and the line's level: a rise counts one, a fall none, and the fall at nine is
-- the one that ends the byte.
-- Assumes nothing.
use mathlib.Core.Path.{◌≡◌, refl, sym, ap, ◌∙◌}
use mathlib.Core.Bool.{Bool, true, false, not, ◌&&◌, and-false}
use Prim.Native.Nat.{ℕ, ◌+◌, ◌<◌, ◌≤◌}
use native.Mathlib.Omega.{arith}
use borrow.Author.Tests.{ltb-true, ltb-false, eqb-true, eqb-false, lt-ltb, le-ltb, ne_eqb, eq-eqb}
use lib.Dec.{eqb, ltb}
use Rattle.bits.specs.Byte.{pick, num}
use Rattle.bits.proofs.Level.{pick_by}
use Rattle.bus.specs.declared.OwnAddress.{OwnAddress}
use Rattle.bus.specs.declared.Comparison.{Comparison}
use Rattle.bus.specs.declared.Comparison.TheVariants.{None, Own}
use Rattle.bus.specs.declared.Phase.{Phase}
use Rattle.bus.specs.declared.Phase.TheVariants.{Idle, Address, Addressed, Ignoring, Receive, Transmit, Held}
use Rattle.bus.specs.Bus.{pulls_scl, compared_in, is_own}
use Rattle.bus_ddc2b.specs.Ddc2b.{compared, gathered, addressed, acknowledges, ninth_clock, phase_at_rise, phase_at_fall, phase_let_go}
use Rattle.chip_flag_laws.specs.Causes.{in_ninth_clock}
use Rattle.bus_address_laws.proofs.Events.{clash}

-- of the byte n rises are taken, and the line is at this level; `called` tells a byte that begins with a START, which can be an address
pub data InByte (called : Bool) (n : ℕ) (scl : Bool) : Phase → Type 0 where
  gathering : (k bits : ℕ) → called ≡ true → k < 8 → n ≡ k → InByte called n scl (Address k bits)
  matched : (m : OwnAddress) (bits : ℕ) → n ≡ 8 → scl ≡ true → InByte called n scl (Addressed m bits false)
  answering : (m : OwnAddress) (bits : ℕ) → n ≡ 8 + num scl → InByte called n scl (Addressed m bits true)
  foreign : called ≡ true → InByte called n scl Ignoring
  receiving : (m : OwnAddress) (k bits : ℕ) → k < 8 → n ≡ k → InByte called n scl (Receive m k bits)
  received : (m : OwnAddress) (k bits : ℕ) → k ≡ 8 → n ≡ 8 → scl ≡ true → InByte called n scl (Receive m k bits)
  acknowledging : (m : OwnAddress) (k bits : ℕ) → 8 < k → n ≡ 8 + num scl → InByte called n scl (Receive m k bits)
  sending : (m : OwnAddress) (k byte : ℕ) → k + num scl ≤ 9 → k + num scl ≡ n + 1 → InByte called n scl (Transmit m k byte)
  answered : (m : OwnAddress) (k byte : ℕ) → k ≡ 10 → n ≡ 9 → scl ≡ true → InByte called n scl (Transmit m k byte)
  held : (m : OwnAddress) (clocks : ℕ) → n ≡ 9 → InByte called n scl (Held m clocks)

-- ---- a rise

module _ (called : Bool) (n : ℕ) where
  after_eighth : (o : Comparison) (byte : ℕ) → called ≡ true → n + 1 ≡ 8 → InByte called (n + 1) true (addressed o byte)
  after_eighth None byte c e = foreign c
  after_eighth (Own m) byte c e = matched m byte e refl

  -- one bit more of a receive
  one_more : (m : OwnAddress) (k bits : ℕ) (t : Bool) → ltb (k + 1) 8 ≡ t → k < 8 → n ≡ k → InByte called (n + 1) true (Receive m (k + 1) bits)
  one_more m k bits true t l e = receiving m (k + 1) bits (ltb-true (k + 1) 8 t) (omega (arith, e))
  one_more m k bits false t l e =
      let last : 8 ≤ k + 1 = ltb-false (k + 1) 8 t in
      received m (k + 1) bits (omega (arith, last, l)) (omega (arith, last, l, e)) refl

  pub at_rise_lem : (own : ℕ) (sda : Bool) {p : Phase} → InByte called n false p → pulls_scl p ≡ false → InByte called (n + 1) true (phase_at_rise own sda p)
  unfolding phase_at_rise pulls_scl
  at_rise_lem own sda (gathering k bits c l e) h =
      pick_by (InByte called (n + 1) true) (ltb k 7)
      (λ t. gathering (k + 1) (gathered bits sda) c (omega (arith, ltb-true k 7 t)) (omega (arith, e)))
      (λ t. after_eighth (compared own (gathered bits sda)) (gathered bits sda) c (omega (arith, ltb-false k 7 t, l, e)))
  at_rise_lem own sda (matched m bits e s) h = clash false s refl
  at_rise_lem own sda (answering m bits e) h = answering m bits (omega (arith, e))
  at_rise_lem own sda (foreign c) h = foreign c
  at_rise_lem own sda (receiving m k bits l e) h =
      pick_by (InByte called (n + 1) true) (ltb k 8) (λ _. one_more m k (gathered bits sda) (ltb (k + 1) 8) refl l e) (λ t. clash (ltb k 8) (lt-ltb k 8 l) t)
  at_rise_lem own sda (received m k bits q e s) h = clash false s refl
  at_rise_lem own sda (acknowledging m k bits l e) h =
      pick_by (InByte called (n + 1) true) (ltb k 8) (λ t. clash (ltb k 8) t (le-ltb k 8 (omega (arith, l)))) (λ _. acknowledging m k bits l (omega (arith, e)))
  at_rise_lem own sda (sending m k byte l e) h =
      pick_by (InByte called (n + 1) true) (eqb k 9)
      (λ t. answered m 10 byte refl (omega (arith, eqb-true k 9 t, e)) refl)
      (λ t. let other = eqb-false k 9 t in sending m k byte (omega (arith, other, l)) (omega (arith, e)))
  at_rise_lem own sda (answered m k byte q e s) h = clash false s refl
  at_rise_lem own sda (held m clocks e) h = clash true refl h

-- ---- a fall

past_eight : (status : ℕ) → 8 < ninth_clock status
past_eight status = pick_by (λ (k : ℕ). 8 < k) (acknowledges status) (λ _. omega arith) (λ _. omega arith)

module _ (called : Bool) (n : ℕ) where
  pub at_fall_lem : (status : ℕ) {p : Phase} → InByte called n true p → pulls_scl p ≡ false → InByte called n false (phase_at_fall status p)
  unfolding phase_at_fall pulls_scl
  at_fall_lem status (gathering k bits c l e) h = gathering k bits c l e
  at_fall_lem status (matched m bits e s) h = answering m bits (omega (arith, e))
  at_fall_lem status (answering m bits e) h = held m 0 (omega (arith, e))
  at_fall_lem status (foreign c) h = foreign c
  at_fall_lem status (receiving m k bits l e) h =
      pick_by (InByte called n false) (ltb 8 k) (λ t. clash (ltb 8 k) t (le-ltb 8 k (omega (arith, l))))
      (λ _. pick_by (InByte called n false) (eqb k 8) (λ t. absurd (omega (arith, l, eqb-true k 8 t))) (λ _. receiving m k bits l e))
  at_fall_lem status (received m k bits q e s) h =
      pick_by (InByte called n false) (ltb 8 k) (λ t. clash (ltb 8 k) t (le-ltb 8 k (omega (arith, q))))
      (λ _. pick_by (InByte called n false) (eqb k 8) (λ _. acknowledging m (ninth_clock status) bits (past_eight status) (omega (arith, e))) (λ t. absurd (eqb-false k 8 t q)))
  at_fall_lem status (acknowledging m k bits l e) h =
      pick_by (InByte called n false) (ltb 8 k) (λ _. held m 0 (omega (arith, e))) (λ t. clash (ltb 8 k) (lt-ltb 8 k l) t)
  at_fall_lem status (sending m k byte l e) h =
      pick_by (InByte called n false) (ltb k 9) (λ _. sending m (k + 1) byte (omega (arith, l)) (omega (arith, e))) (λ t. clash (ltb k 9) (lt-ltb k 9 (omega (arith, l))) t)
  at_fall_lem status (answered m k byte q e s) h =
      pick_by (InByte called n false) (ltb k 9) (λ t. clash (ltb k 9) t (le-ltb k 9 (omega (arith, q))))
      (λ _. pick_by (InByte called n false) (eqb k 10) (λ _. held m 0 e) (λ t. absurd (eqb-false k 10 t q)))
  at_fall_lem status (held m clocks e) h = clash true refl h

  -- the fall at nine rises is the one that ends the byte, where the address was one of the chip's
  pub at_nine : {p : Phase} → InByte called n true p → pulls_scl p ≡ false → in_ninth_clock p ≡ (eqb n 9 && is_own (compared_in p))
  unfolding pulls_scl compared_in
  at_nine (gathering k bits c l e) h = sym (and-false (eqb n 9))
  at_nine (matched m bits e s) h = rw (ne_eqb n 9 (λ q. omega (arith, e, q)))
  at_nine (answering m bits e) h = rw (eq-eqb n 9 (omega (arith, e)))
  at_nine (foreign c) h = sym (and-false (eqb n 9))
  at_nine (receiving m k bits l e) h = rw (le-ltb 8 k (omega (arith, l)), ne_eqb n 9 (λ q. omega (arith, e, l, q)))
  at_nine (received m k bits r e s) h = rw (le-ltb 8 k (omega (arith, r)), ne_eqb n 9 (λ q. omega (arith, e, q)))
  at_nine (acknowledging m k bits l e) h = rw (lt-ltb 8 k l, eq-eqb n 9 (omega (arith, e)))
  at_nine (sending m k byte l e) h = rw (ne_eqb k 10 (λ q. omega (arith, l, q)), ne_eqb n 9 (λ q. omega (arith, l, e, q)))
  at_nine (answered m k byte r e s) h = rw (eq-eqb k 10 r, eq-eqb n 9 e)
  at_nine (held m clocks e) h = clash true refl h

  -- ---- a hold

  pub held_nine : {scl : Bool} {p : Phase} → InByte called n scl p → pulls_scl p ≡ true → n ≡ 9
  unfolding pulls_scl
  held_nine (gathering k bits c l e) h = clash false h refl
  held_nine (matched m bits e s) h = clash false h refl
  held_nine (answering m bits e) h = clash false h refl
  held_nine (foreign c) h = clash false h refl
  held_nine (receiving m k bits l e) h = clash false h refl
  held_nine (received m k bits q e s) h = clash false h refl
  held_nine (acknowledging m k bits l e) h = clash false h refl
  held_nine (sending m k byte l e) h = clash false h refl
  held_nine (answered m k byte q e s) h = clash false h refl
  held_nine (held m clocks e) h = e

  pub still_held : {scl : Bool} (p : Phase) → pulls_scl p ≡ true → n ≡ 9 → InByte called n scl p
  unfolding pulls_scl
  still_held Idle h e = clash false h refl
  still_held (Address count bits) h e = clash false h refl
  still_held (Addressed m bits ninth) h e = clash false h refl
  still_held Ignoring h e = clash false h refl
  still_held (Receive m count bits) h e = clash false h refl
  still_held (Transmit m count byte) h e = clash false h refl
  still_held (Held m clocks) h e = held m clocks e

-- ---- where a byte begins

pub from_let_go : (m : OwnAddress) (scl trx sda : Bool) (own byte : ℕ) →
    InByte false (num scl) scl (pick scl (phase_at_rise own sda (phase_let_go (Own m) trx byte)) (phase_let_go (Own m) trx byte))
unfolding phase_at_rise phase_let_go
from_let_go m true true sda own byte = sending m 1 byte (omega arith) refl
from_let_go m true false sda own byte = receiving m 1 (gathered 0 sda) (omega arith) refl
from_let_go m false true sda own byte = sending m 1 byte (omega arith) refl
from_let_go m false false sda own byte = receiving m 0 0 (omega arith) refl

-- a byte that begins where SCL is let go is of a transfer with the chip
pub own_byte : {n : ℕ} {scl : Bool} {p : Phase} → InByte false n scl p → is_own (compared_in p) ≡ true
unfolding compared_in
own_byte (gathering k bits c l e) = clash false c refl
own_byte (matched m bits e s) = refl
own_byte (answering m bits e) = refl
own_byte (foreign c) = clash false c refl
own_byte (receiving m k bits l e) = refl
own_byte (received m k bits q e s) = refl
own_byte (acknowledging m k bits l e) = refl
own_byte (sending m k byte l e) = refl
own_byte (answered m k byte q e s) = refl
own_byte (held m clocks e) = refl
