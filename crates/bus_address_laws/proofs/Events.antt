-- What one event does to the phase, as far as addresses go: it ends the transfer, it is a rise of the SCL line in DDC2B, or the outcome and the bits of an
-- address stay.
-- Assumes nothing.
use mathlib.Core.Path.{◌≡◌, refl, sym, ◌∙◌}
use mathlib.Core.Bool.{Bool, true, false, not, ◌&&◌, ◌||◌, beq, true≢false}
use Prim.Native.Nat.{ℕ}
use native.Mathlib.Omega.{arith}
use borrow.Author.Tests.{eqb-true}
use lib.Dec.{eqb, ltb}
use Rattle.bits.specs.Byte.{pick, bit, with_bit}
use Rattle.bits.proofs.Level.{pick_by}
use Rattle.bits.proofs.Finite.{beq_eq}
use Rattle.bits.proofs.Bitwise.{bit_with_bit}
use Rattle.registers.specs.Names.{MDCON, IIDAT, IISTS, BTCON}
use Rattle.registers.specs.Table.{table, row_of, is_writable, updated}
use Rattle.std.specs.Prelude.{Ok, Err}
use Rattle.events.specs.Decoded.{Decoded}
use Rattle.events.specs.declared.Event.TheVariants.{Read, Write, Pin, Clock, Polarity}
use Rattle.bus.specs.declared.Mode.{Mode}
use Rattle.bus.specs.declared.Mode.TheVariants.{Off, Ddc1, Ddc2b}
use Rattle.bus.specs.declared.Edge.{Edge}
use Rattle.bus.specs.declared.Edge.TheVariants.{Flat, Rise, Fall}
use Rattle.bus.specs.declared.OwnAddress.{OwnAddress}
use Rattle.bus.specs.declared.Comparison.TheVariants.{None, Own}
use Rattle.bus.specs.declared.Phase.{Phase}
use Rattle.bus.specs.declared.Phase.TheVariants.{Idle, Address, Addressed as CalledAddress, Ignoring, Receive, Transmit, Held}
use Rattle.bus.specs.Bus.{edge, line, mode, mode_by, changes_mode, pulls_sda, pulls_scl, sda_pulled, scl_pulled, compared_in}
use Rattle.bus_ddc2b.specs.Ddc2b.{status_at_rise, phase_at_rise, phase_at_fall, phase_at_period, phase_let_go, ninth_clock}
use Rattle.counters.specs.Count.{watchdog_fires, watchdog_next}
use Rattle.chip.specs.declared.Bus.{Bus}
use Rattle.chip.specs.declared.Core.{Core}
use Rattle.chip.specs.declared.Chip.{Chip}
use Rattle.chip.specs.State.{bus_of, mode_of, released, register_at, reset_at, reset_core, with_reset, with_scl, with_sda, with_watchdog}
use Rattle.chip_edges.specs.Edges.{active_mode, bus_at_mode, bus_at_rise, on_scl, on_scl_ddc1, on_scl_ddc2b, scl_rise, scl_fall, leave_ddc1, scl_moved, on_sda, on_sda_ddc2b, started, stopped, sda_moved, bus_at_vsync}
use Rattle.chip_ddc_writes.specs.DdcWrites.{mdcon_written, iiadr_written, status_written, iists_written, bus_let_go, bus_risen, bus_at_iidat, iidat_written}
use Rattle.chip_ddc_writes.proofs.Modes.{md_written, enddc_written}
use Rattle.chip_writes.specs.declared.Target.{Target}
use Rattle.chip_writes.specs.Writes.{clrflg_written, clrwdt_written, written_to, written, write_register}
use Rattle.chip_writes.proofs.Addresses.{Addressed, at_mdcon, at_hvcon, at_clrflg, at_clrwdt, at_iiadr, at_iidat, at_iists, at_bt, at_plain, addressed}
use Rattle.chip_pins.specs.declared.PinKind.{PinKind}
use Rattle.chip_pins.specs.Pins.{rises, port0_moved, port1_moved, port2_moved, p16_moved, hsync_moved, vsync_moved, vsync_rise, on_reset, reset_moved, pin_moved_as, pin_moved}
use Rattle.chip_pins.specs.Numbers.{Unnamed, Numbered, p16_pin, sda_pin, scl_pin, hsynci_pin, vsynci_pin, reset_pin, port0_pin, port1_pin, port2_pin, no_pin}
use Rattle.chip_pins.proofs.Numbers.{numbered}
use Rattle.chip_clocks.specs.Clocks.{period_clock, timer_runs, timer_step, timer_clock, watchdog_clock, clocked_as, clocked, polarity_found}
use Rattle.chip_events.specs.Outcome.{core_after, next}
use Rattle.chip_flag_laws.specs.Causes.{in_ddc2b}
use Rattle.chip_flag_laws.proofs.Bools.{at_six, at_eight}
use Rattle.chip_flag_laws.proofs.Clocks.{watchdog_last}
use Rattle.bus_address_laws.specs.Addressed.{sda_level, takes_level, ends}

pub clash : {A : Type 0} (t : Bool) → t ≡ true → t ≡ false → A
clash t h k = absurd (true≢false (sym h ∙ k))

-- ---- phases

-- an address is being gathered
abbrev pub addressing : Phase → Bool
addressing Idle = false
addressing (Address count bits) = true
addressing (CalledAddress matched bits ninth) = false
addressing Ignoring = false
addressing (Receive matched count bits) = false
addressing (Transmit matched count byte) = false
addressing (Held matched clocks) = false

-- from one phase to another: the outcome stays, an address being gathered does, and none begins
pub record Kept (p q : Phase) : Type 0 where
  pub outcome : compared_in q ≡ compared_in p
  pub address : addressing p ≡ true → q ≡ p
  pub other : addressing p ≡ false → addressing q ≡ false

kept_same : (p : Phase) → Kept p p
kept_same p = record { outcome = refl; address = λ _. refl; other = λ h. h }

-- phases that gather no address
kept_other : (p q : Phase) → compared_in q ≡ compared_in p → addressing p ≡ false → addressing q ≡ false → Kept p q
kept_other p q o h k = record { outcome = o; address = λ a. clash (addressing p) a h; other = λ _. k }

module _ (m : OwnAddress) where
  kept_called : (bits : ℕ) (ninth : Bool) → Kept (CalledAddress m bits ninth) (pick ninth (Held m 0) (CalledAddress m bits true))
  unfolding compared_in
  kept_called bits true = kept_other _ _ refl refl refl
  kept_called bits false = kept_other _ _ refl refl refl

  kept_receive : (past last : Bool) (count bits next : ℕ) → Kept (Receive m count bits) (pick past (Held m 0) (pick last (Receive m next bits) (Receive m count bits)))
  unfolding compared_in
  kept_receive true last count bits next = kept_other _ _ refl refl refl
  kept_receive false true count bits next = kept_other _ _ refl refl refl
  kept_receive false false count bits next = kept_same _

  kept_transmit : (few last : Bool) (count byte next : ℕ) → Kept (Transmit m count byte) (pick few (Transmit m next byte) (pick last (Held m 0) (Transmit m count byte)))
  unfolding compared_in
  kept_transmit true last count byte next = kept_other _ _ refl refl refl
  kept_transmit false true count byte next = kept_other _ _ refl refl refl
  kept_transmit false false count byte next = kept_same _

  kept_let_go : (scl trx sda : Bool) (own byte clocks : ℕ) → Kept (Held m clocks) (pick scl (phase_at_rise own sda (phase_let_go (Own m) trx byte)) (phase_let_go (Own m) trx byte))
  unfolding compared_in phase_at_rise phase_let_go
  kept_let_go true true sda own byte clocks = kept_other _ _ refl refl refl
  kept_let_go true false sda own byte clocks = kept_other _ _ refl refl refl
  kept_let_go false true sda own byte clocks = kept_other _ _ refl refl refl
  kept_let_go false false sda own byte clocks = kept_other _ _ refl refl refl

kept_fall : (status : ℕ) (p : Phase) → Kept p (phase_at_fall status p)
unfolding phase_at_fall
kept_fall status Idle = kept_same _
kept_fall status (Address count bits) = kept_same _
kept_fall status (CalledAddress matched bits ninth) = kept_called matched bits ninth
kept_fall status Ignoring = kept_same _
kept_fall status (Receive matched count bits) = kept_receive matched (ltb 8 count) (eqb count 8) count bits (ninth_clock status)
kept_fall status (Transmit matched count byte) = kept_transmit matched (ltb count 9) (eqb count 10) count byte _
kept_fall status (Held matched clocks) = kept_same _

kept_period : (p : Phase) → Kept p (phase_at_period p)
unfolding phase_at_period compared_in
kept_period Idle = kept_same _
kept_period (Address count bits) = kept_same _
kept_period (CalledAddress matched bits ninth) = kept_same _
kept_period Ignoring = kept_same _
kept_period (Receive matched count bits) = kept_same _
kept_period (Transmit matched count byte) = kept_same _
kept_period (Held matched clocks) = kept_other _ _ refl refl refl

-- a write to II DAT lets SCL go where it is held
kept_written : (p : Phase) (scl trx sda : Bool) (own byte : ℕ) → pulls_scl p ≡ true →
    Kept p (pick scl (phase_at_rise own sda (phase_let_go (compared_in p) trx byte)) (phase_let_go (compared_in p) trx byte))
unfolding pulls_scl compared_in
kept_written Idle scl trx sda own byte h = clash _ h refl
kept_written (Address count bits) scl trx sda own byte h = clash _ h refl
kept_written (CalledAddress matched bits ninth) scl trx sda own byte h = clash _ h refl
kept_written Ignoring scl trx sda own byte h = clash _ h refl
kept_written (Receive matched count bits) scl trx sda own byte h = clash _ h refl
kept_written (Transmit matched count sent) scl trx sda own byte h = clash _ h refl
kept_written (Held matched clocks) scl trx sda own byte h = kept_let_go matched scl trx sda own byte clocks

idle_none : compared_in Idle ≡ None
unfolding compared_in
idle_none = refl

-- ---- an event

-- DDC2B stays
abbrev pub Stays : Chip → Core → Type 0
Stays c after = in_ddc2b c ≡ true → (not (bit 3 after.bus.iists) && not (bit 0 after.mdcon)) ≡ true

pub data Effect (c : Chip) (e : Decoded) (after : Core) : Type 0 where
  over : ends c e ≡ true → takes_level c e ≡ false → compared_in after.bus.phase ≡ None → Effect c e after
  taken : ends c e ≡ false → takes_level c e ≡ true → after.bus.phase ≡ phase_at_rise c.core.bus.iiadr (sda_level c) c.core.bus.phase → Stays c after → Effect c e after
  still : ends c e ≡ false → takes_level c e ≡ false → Kept c.core.bus.phase after.bus.phase → Stays c after → Effect c e after

-- an event that moves nothing of the bus
plain : {c : Chip} {e : Decoded} {after : Core} → ends c e ≡ false → takes_level c e ≡ false → after.bus ≡ c.core.bus → after.mdcon ≡ c.core.mdcon → Effect c e after
plain {c = c} n t b m = still n t (rw b (kept_same c.core.bus.phase)) (λ h. rw (b, m) h)

-- ---- the mode

-- the mode changes where MD1/2 is turned with DDC on, and where ENDDC is turned
md_turns : (enddc old new : Bool) → ((((pick (not old) new (not new)) && not enddc) || false) || false) ≡ changes_mode (mode_by enddc old) (mode_by enddc new)
unfolding changes_mode
md_turns true true true = refl
md_turns true true false = refl
md_turns true false true = refl
md_turns true false false = refl
md_turns false true true = refl
md_turns false true false = refl
md_turns false false true = refl
md_turns false false false = refl

enddc_turns : (old new md : Bool) → ((pick (not old) new (not new) || false) || false) ≡ changes_mode (mode_by old md) (mode_by new md)
unfolding changes_mode
enddc_turns true true md = refl
enddc_turns true false true = refl
enddc_turns true false false = refl
enddc_turns false true true = refl
enddc_turns false true false = refl
enddc_turns false false true = refl
enddc_turns false false false = refl

-- and where it does not, DDC2B stays
bits_stay : (e m e' m' : Bool) → changes_mode (mode_by e m) (mode_by e' m') ≡ false → (not e && not m) ≡ true → (not e' && not m') ≡ true
unfolding changes_mode
bits_stay true m e' m' h k = clash _ k refl
bits_stay false true e' m' h k = clash _ k refl
bits_stay false false true m' h k = clash _ refl h
bits_stay false false false true h k = clash _ refl h
bits_stay false false false false h k = refl

mode_stays : (iists mdcon iists' mdcon' : ℕ) → changes_mode (mode iists mdcon) (mode iists' mdcon') ≡ false → (not (bit 3 iists) && not (bit 0 mdcon)) ≡ true →
    (not (bit 3 iists') && not (bit 0 mdcon')) ≡ true
unfolding mode
mode_stays iists mdcon iists' mdcon' h k = bits_stay (bit 3 iists) (bit 0 mdcon) (bit 3 iists') (bit 0 mdcon') h k

mode_phase : (old new : Mode) (b : Bus) → (bus_at_mode old new b).phase ≡ pick (changes_mode old new) Idle b.phase
unfolding bus_at_mode released
mode_phase old new b = by_test (changes_mode old new)
  where
    by_test : (t : Bool) → (pick t (released b) b).phase ≡ pick t Idle b.phase
    by_test true = refl
    by_test false = refl

mode_status : (old new : Mode) (b : Bus) → (bus_at_mode old new b).iists ≡ b.iists
unfolding bus_at_mode released
mode_status old new b = pick_by (λ (x : Bus). x.iists ≡ b.iists) (changes_mode old new) (λ _. refl) (λ _. refl)

by_mode : {c : Chip} {e : Decoded} {after : Core} (t : Bool) → ends c e ≡ t → takes_level c e ≡ false → after.bus.phase ≡ pick t Idle c.core.bus.phase → (t ≡ false → Stays c after) → Effect c e after
by_mode true n k p s = over n k (rw p idle_none)
by_mode {c = c} false n k p s = still n k (rw p (kept_same c.core.bus.phase)) (s refl)

-- ---- writes

rxak_bit : (status : ℕ) (sda : Bool) → bit 3 (with_bit status 1 sda) ≡ bit 3 status
rxak_bit status sda = bit_with_bit 3 1 status sda (omega arith) (omega arith)

-- a rise of the SCL line leaves ENDDC
status_bit_lem : (sda : Bool) (p : Phase) (status : ℕ) → bit 3 (status_at_rise sda p status) ≡ bit 3 status
unfolding status_at_rise
status_bit_lem sda Idle status = refl
status_bit_lem sda (Address count bits) status = refl
status_bit_lem sda (CalledAddress matched bits ninth) status = refl
status_bit_lem sda Ignoring status = refl
status_bit_lem sda (Receive matched count bits) status = refl
status_bit_lem sda (Transmit matched count byte) status = pick_by (λ (n : ℕ). bit 3 n ≡ bit 3 status) (eqb count 9) (λ _. rxak_bit status sda) (λ _. refl)
status_bit_lem sda (Held matched clocks) status = refl

-- SCL let go, and the line risen where its outside level is 1
risen_phase : (scl sda : Bool) (byte : ℕ) (b : Bus) → pulls_scl b.phase ≡ true → Kept b.phase (bus_risen scl sda (bus_let_go byte b)).phase
unfolding bus_risen bus_at_rise
risen_phase true sda byte b h = kept_written b.phase true (bit 2 b.iists) _ b.iiadr byte h
risen_phase false sda byte b h = kept_written b.phase false (bit 2 b.iists) sda b.iiadr byte h

risen_status : (scl sda : Bool) (byte : ℕ) (b : Bus) → bit 3 (bus_risen scl sda (bus_let_go byte b)).iists ≡ bit 3 b.iists
unfolding bus_risen bus_at_rise
risen_status true sda byte b = status_bit_lem _ _ b.iists
risen_status false sda byte b = refl

module _ (c : Chip) (b : ℕ) (r : c.core.reset ≡ true) where
  ends_mdcon : ends c (Ok (Write MDCON b)) ≡ changes_mode (mode c.core.bus.iists c.core.mdcon) (mode c.core.bus.iists (updated MDCON c.core.mdcon b))
  unfolding ends mode
  ends_mdcon = rw (r, md_written c.core.mdcon b) (md_turns (bit 3 c.core.bus.iists) (bit 0 c.core.mdcon) (bit 0 b))

  ends_iists : ends c (Ok (Write IISTS b)) ≡ changes_mode (mode c.core.bus.iists c.core.mdcon) (mode (status_written c.core.bus.iists b) c.core.mdcon)
  unfolding ends mode
  ends_iists = rw (r, enddc_written c.core.bus.iists b) (enddc_turns (bit 3 c.core.bus.iists) (bit 3 b) (bit 0 c.core.mdcon))

  to_mdcon : Effect c (Ok (Write MDCON b)) (mdcon_written c.core b)
  unfolding mdcon_written takes_level
  to_mdcon =
      let bus : Bus = c.core.bus in
      by_mode _ ends_mdcon refl (mode_phase _ _ bus)
      (λ same h. rw (mode_status (mode bus.iists c.core.mdcon) (mode bus.iists (updated MDCON c.core.mdcon b)) bus) (mode_stays bus.iists c.core.mdcon bus.iists (updated MDCON c.core.mdcon b) same h))

  to_iists : Effect c (Ok (Write IISTS b)) (iists_written c.core b)
  unfolding iists_written takes_level
  to_iists =
      let bus : Bus = c.core.bus in
      let put : Bus = bus_of (status_written bus.iists b) bus.iiadr bus.iidat bus.phase bus.shifter in
      by_mode _ ends_iists refl (mode_phase _ _ put)
      (λ same h. rw (mode_status (mode bus.iists c.core.mdcon) (mode (status_written bus.iists b) c.core.mdcon) put) (mode_stays bus.iists c.core.mdcon (status_written bus.iists b) c.core.mdcon same h))

  to_iidat : Effect c (Ok (Write IIDAT b)) (iidat_written c.core b)
  unfolding iidat_written bus_at_iidat ends takes_level
  to_iidat =
      let bus : Bus = c.core.bus in
      let parts =
      pick_by (λ (x : Bus). Kept bus.phase x.phase × (bit 3 x.iists ≡ bit 3 bus.iists)) (pulls_scl bus.phase)
      (λ h. (risen_phase c.core.scl c.core.sda b bus h, risen_status c.core.scl c.core.sda b bus))
      (λ _. (kept_same bus.phase, refl))
      in
      still refl refl parts.0 (λ h. rw parts.1 h)

  to_target : {t : Target} {a : ℕ} → Addressed t a → Effect c (Ok (Write a b)) (pick (is_writable a) (written_to t c.core b) c.core)
  unfolding is_writable row_of table written_to clrflg_written clrwdt_written iiadr_written ends takes_level
  to_target at_mdcon = to_mdcon
  to_target at_hvcon = plain refl refl refl refl
  to_target at_clrflg = plain refl refl refl refl
  to_target at_clrwdt = plain refl refl refl refl
  to_target at_iiadr = still refl refl (kept_same c.core.bus.phase) (λ h. h)
  to_target at_iidat = to_iidat
  to_target at_iists = to_iists
  to_target at_bt = plain refl refl refl refl
  to_target {a = a} (at_plain p) = pick_by (Effect c (Ok (Write a b))) (is_writable a) (λ _. plain (rw (p.iists, p.mdcon)) refl refl refl) (λ _. plain (rw (p.iists, p.mdcon)) refl refl refl)

-- while RESET is low a write is refused
low_write : (c : Chip) (a b : ℕ) → c.core.reset ≡ false → Effect c (Ok (Write a b)) c.core
unfolding ends takes_level
low_write c a b r = plain (rw r (none (eqb a IISTS) (eqb a MDCON) (not (bit 3 c.core.bus.iists)))) refl refl refl
  where
    none : (x y z : Bool) → (((x && false) || (((y && false) && z) || false)) || false) ≡ false
    none true true z = refl
    none true false z = refl
    none false true z = refl
    none false false z = refl

at_write : (c : Chip) (a b : ℕ) → Effect c (Ok (Write a b)) (next c (Ok (Write a b))).core
unfolding next core_after write_register written
at_write c a b = pick_by (Effect c (Ok (Write a b))) c.core.reset (λ r. to_target c b r (addressed a)) (λ r. low_write c a b r)

-- ---- SCL

-- what an edge of the SCL line does, by the mode: in DDC1 a fall leaves it, in DDC2B a rise takes a level
abbrev leaves : Mode → Edge → Bool
leaves Off e = false
leaves Ddc1 Flat = false
leaves Ddc1 Rise = false
leaves Ddc1 Fall = true
leaves Ddc2b e = false

abbrev takes : Mode → Edge → Bool
takes Off e = false
takes Ddc1 e = false
takes Ddc2b Flat = false
takes Ddc2b Rise = true
takes Ddc2b Fall = false

abbrev pulled_by : Mode → Bool → Bool
pulled_by Off held = false
pulled_by Ddc1 held = false
pulled_by Ddc2b held = held

scl_pulled_lem : (m : Mode) (p : Phase) → scl_pulled m p ≡ pulled_by m (pulls_scl p)
unfolding scl_pulled
scl_pulled_lem Off p = refl
scl_pulled_lem Ddc1 p = refl
scl_pulled_lem Ddc2b p = refl

-- the edge by RESET, ENDDC, MD1/2, whether the phase holds SCL, and the levels before and after
abbrev edge_by : Mode → Bool → Bool → Bool → Edge
edge_by m held old new = edge (line (pulled_by m held) old) (line (pulled_by m held) new)

abbrev mode_at : Bool → Bool → Bool → Mode
mode_at reset enddc md = pick reset (mode_by enddc md) Off

leaves_is : (reset enddc md held old new : Bool) →
    (((not new && (reset && (old && not ((not enddc && not md) && held)))) && (not enddc && md)) || false)
    ≡ leaves (mode_at reset enddc md) (edge_by (mode_at reset enddc md) held old new)
leaves_is reset enddc md held old new =
    beq_eq _ _
    (at_six
    (λ r e m h o l. beq (((not l && (r && (o && not ((not e && not m) && h)))) && (not e && m)) || false) (leaves (mode_at r e m) (edge_by (mode_at r e m) h o l)))
    tt reset enddc md held old new)

takes_is : (reset enddc md held old new : Bool) →
    ((new && (reset && (not old && not ((not enddc && not md) && held)))) && (not enddc && not md))
    ≡ takes (mode_at reset enddc md) (edge_by (mode_at reset enddc md) held old new)
takes_is reset enddc md held old new =
    beq_eq _ _
    (at_six
    (λ r e m h o l. beq ((l && (r && (not o && not ((not e && not m) && h)))) && (not e && not m)) (takes (mode_at r e m) (edge_by (mode_at r e m) h o l)))
    tt reset enddc md held old new)

module _ (c : Chip) (level : Bool) where
  scl_by : (m : Mode) (e : Edge) → ends c (Ok (Pin 25 level)) ≡ leaves m e → takes_level c (Ok (Pin 25 level)) ≡ takes m e → Effect c (Ok (Pin 25 level)) (on_scl m e (with_scl c.core level))
  unfolding on_scl on_scl_ddc1 on_scl_ddc2b scl_rise scl_fall leave_ddc1 bus_at_rise released
  scl_by Off e n t = plain n t refl refl
  scl_by Ddc1 Flat n t = plain n t refl refl
  scl_by Ddc1 Rise n t = plain n t refl refl
  scl_by Ddc1 Fall n t = over n t idle_none
  scl_by Ddc2b Flat n t = plain n t refl refl
  scl_by Ddc2b Rise n t = taken n t refl (λ h. rw (status_bit_lem (sda_level c) c.core.bus.phase c.core.bus.iists) h)
  scl_by Ddc2b Fall n t = still n t (kept_fall c.core.bus.iists c.core.bus.phase) (λ h. h)

  ends_scl : ends c (Ok (Pin 25 level)) ≡ leaves (active_mode c.core) (edge_by (active_mode c.core) (pulls_scl c.core.bus.phase) c.core.scl level)
  unfolding ends mode
  ends_scl = leaves_is c.core.reset (bit 3 c.core.bus.iists) (bit 0 c.core.mdcon) (pulls_scl c.core.bus.phase) c.core.scl level

  takes_scl_lem : takes_level c (Ok (Pin 25 level)) ≡ takes (active_mode c.core) (edge_by (active_mode c.core) (pulls_scl c.core.bus.phase) c.core.scl level)
  unfolding takes_level mode
  takes_scl_lem = takes_is c.core.reset (bit 3 c.core.bus.iists) (bit 0 c.core.mdcon) (pulls_scl c.core.bus.phase) c.core.scl level

  at_scl : Effect c (Ok (Pin 25 level)) (scl_moved c.core level)
  unfolding scl_moved
  at_scl = rw (scl_pulled_lem (active_mode c.core) c.core.bus.phase) (scl_by _ _ ends_scl takes_scl_lem)

-- ---- SDA

-- START and STOP, by the mode and the level of the SCL line
abbrev moved : Mode → Bool → Edge → Bool
moved Off high e = false
moved Ddc1 high e = false
moved Ddc2b high Flat = false
moved Ddc2b high Rise = high
moved Ddc2b high Fall = high

-- SDA pulled, by the mode: in DDC1 by the shift register
abbrev sda_by : Mode → Bool → Bool → Bool
sda_by Off top pulls = false
sda_by Ddc1 top pulls = top
sda_by Ddc2b top pulls = pulls

sda_pulled_lem : (m : Mode) (p : Phase) (top : ℕ) (edges : ℕ) → sda_pulled m p (record { register = top; edges = edges }) ≡ sda_by m (not (bit 7 top)) (pulls_sda p)
unfolding sda_pulled
sda_pulled_lem Off p top edges = refl
sda_pulled_lem Ddc1 p top edges = refl
sda_pulled_lem Ddc2b p top edges = refl

abbrev sda_edge : Mode → Bool → Bool → Bool → Bool → Edge
sda_edge m top pulls old new = edge (line (sda_by m top pulls) old) (line (sda_by m top pulls) new)

abbrev moves_by : Bool → Bool → Bool → Bool → Bool → Bool → Bool → Bool → Bool
moves_by reset enddc md held pulls scl old new =
    let seen : Bool = (not enddc && not md) && (scl && not ((not enddc && not md) && held)) in
    (not new && (reset && ((old && not pulls) && seen))) || ((new && (reset && ((not old && not pulls) && seen))) || false)

moved_is : (top reset enddc md held pulls scl old new : Bool) →
    moves_by reset enddc md held pulls scl old new
    ≡ moved (mode_at reset enddc md) (line (pulled_by (mode_at reset enddc md) held) scl) (sda_edge (mode_at reset enddc md) top pulls old new)
moved_is true reset enddc md held pulls scl old new =
    beq_eq _ _
    (at_eight
    (λ r e m h p s o l. beq (moves_by r e m h p s o l) (moved (mode_at r e m) (line (pulled_by (mode_at r e m) h) s) (sda_edge (mode_at r e m) true p o l)))
    tt reset enddc md held pulls scl old new)
moved_is false reset enddc md held pulls scl old new =
    beq_eq _ _
    (at_eight
    (λ r e m h p s o l. beq (moves_by r e m h p s o l) (moved (mode_at r e m) (line (pulled_by (mode_at r e m) h) s) (sda_edge (mode_at r e m) false p o l)))
    tt reset enddc md held pulls scl old new)

module _ (c : Chip) (level : Bool) where
  sda_by_lem : (m : Mode) (high : Bool) (e : Edge) → ends c (Ok (Pin 24 level)) ≡ moved m high e → takes_level c (Ok (Pin 24 level)) ≡ false → Effect c (Ok (Pin 24 level)) (on_sda m high e (with_sda c.core level))
  unfolding on_sda on_sda_ddc2b started stopped compared_in
  sda_by_lem Off high e n t = plain n t refl refl
  sda_by_lem Ddc1 high e n t = plain n t refl refl
  sda_by_lem Ddc2b high Flat n t = plain n t refl refl
  sda_by_lem Ddc2b true Rise n t = over n t refl
  sda_by_lem Ddc2b false Rise n t = plain n t refl refl
  sda_by_lem Ddc2b true Fall n t = over n t refl
  sda_by_lem Ddc2b false Fall n t = plain n t refl refl

  ends_sda : ends c (Ok (Pin 24 level)) ≡
      moved (active_mode c.core) (line (pulled_by (active_mode c.core) (pulls_scl c.core.bus.phase)) c.core.scl)
      (sda_edge (active_mode c.core) (not (bit 7 c.core.bus.shifter.register)) (pulls_sda c.core.bus.phase) c.core.sda level)
  unfolding ends mode
  ends_sda =
      moved_is (not (bit 7 c.core.bus.shifter.register)) c.core.reset (bit 3 c.core.bus.iists) (bit 0 c.core.mdcon) (pulls_scl c.core.bus.phase)
      (pulls_sda c.core.bus.phase) c.core.scl c.core.sda level

  takes_sda : takes_level c (Ok (Pin 24 level)) ≡ false
  unfolding takes_level
  takes_sda = refl

  at_sda : Effect c (Ok (Pin 24 level)) (sda_moved c.core level)
  unfolding sda_moved
  at_sda =
      rw (scl_pulled_lem (active_mode c.core) c.core.bus.phase, sda_pulled_lem (active_mode c.core) c.core.bus.phase c.core.bus.shifter.register c.core.bus.shifter.edges)
      (sda_by_lem _ _ _ ends_sda takes_sda)

-- ---- the other pins

-- a pin that is none of SDA, SCL and RESET
plain_pin : {c : Chip} {after : Core} (p : ℕ) (level : Bool) → eqb p 24 ≡ false → eqb p 25 ≡ false → eqb p 28 ≡ false → after.bus ≡ c.core.bus → after.mdcon ≡ c.core.mdcon →
    Effect c (Ok (Pin p level)) after
unfolding ends takes_level
plain_pin p level sda scl reset b m = plain (rw (sda, scl, reset)) (rw scl) b m

unnamed_pin : {c : Chip} {after : Core} {p : ℕ} (level : Bool) → Unnamed p → after.bus ≡ c.core.bus → after.mdcon ≡ c.core.mdcon → Effect c (Ok (Pin p level)) after
unnamed_pin {p = p} level u b m = plain_pin p level u.sda u.scl u.reset b m

-- VSYNCI clocks the shift register in DDC1 alone
vsync_kept : (m : Mode) (b : Bus) → Kept b.phase (bus_at_vsync m b).phase × ((bus_at_vsync m b).iists ≡ b.iists)
unfolding bus_at_vsync
vsync_kept Off b = (kept_same _, refl)
vsync_kept Ddc1 b = (kept_same _, refl)
vsync_kept Ddc2b b = (kept_same _, refl)

module _ (c : Chip) (level : Bool) where
  at_vsynci : Effect c (Ok (Pin 27 level)) (vsync_moved c.core level)
  unfolding vsync_moved vsync_rise ends takes_level
  at_vsynci =
      let v = vsync_kept (mode_of c.core) c.core.bus in
      pick_by (Effect c (Ok (Pin 27 level))) (rises c.core.reset c.core.pins.vsynci level)
      (λ _. still refl refl v.0 (λ h. rw v.1 h))
      (λ _. plain refl refl refl refl)

  reset_by : (old new : Bool) → c.core.reset ≡ old → level ≡ new → Effect c (Ok (Pin 28 level)) (on_reset (edge old new) (with_reset c.core new))
  unfolding on_reset reset_core reset_at ends takes_level
  reset_by true true r l = plain (rw (r, l)) refl refl refl
  reset_by true false r l = over (rw (r, l)) refl idle_none
  reset_by false true r l = plain (rw r) refl refl refl
  reset_by false false r l = plain (rw r) refl refl refl

  at_kind_lem : {k : PinKind} {p : ℕ} → Numbered k p → Effect c (Ok (Pin p level)) (pin_moved_as k c.core p level)
  unfolding pin_moved_as port0_moved port1_moved port2_moved p16_moved hsync_moved reset_moved
  at_kind_lem (port0_pin u high) = unnamed_pin level u refl refl
  at_kind_lem (port1_pin u low high) = unnamed_pin level u refl refl
  at_kind_lem (port2_pin u low high) = unnamed_pin level u refl refl
  at_kind_lem (no_pin u none) = unnamed_pin level u refl refl
  at_kind_lem p16_pin = plain_pin 14 level refl refl refl refl refl
  at_kind_lem sda_pin = at_sda c level
  at_kind_lem scl_pin = at_scl c level
  at_kind_lem hsynci_pin = plain_pin 26 level refl refl refl refl refl
  at_kind_lem vsynci_pin = at_vsynci
  at_kind_lem reset_pin = reset_by c.core.reset level refl refl

at_pin : (c : Chip) (p : ℕ) (level : Bool) → Effect c (Ok (Pin p level)) (next c (Ok (Pin p level))).core
unfolding next core_after pin_moved
at_pin c p level = at_kind_lem c level (numbered p)

-- ---- clocks

module _ (c : Chip) where
  -- 8 µs
  at_period : Effect c (Ok (Clock 0)) (pick c.core.reset (period_clock c.core) c.core)
  unfolding ends takes_level period_clock
  at_period =
      pick_by (Effect c (Ok (Clock 0))) c.core.reset (λ _. still refl refl (kept_period c.core.bus.phase) (λ h. h))
      (λ _. plain refl refl refl refl)

  -- base clocks
  at_timer : (k : ℕ) → eqb k 3 ≡ false → Effect c (Ok (Clock k)) (pick c.core.reset (timer_clock (register_at c.registers BTCON) c.core k) c.core)
  unfolding ends takes_level timer_clock timer_step
  at_timer k w =
      pick_by (Effect c (Ok (Clock k))) c.core.reset
      (λ _. pick_by (Effect c (Ok (Clock k))) (timer_runs (register_at c.registers BTCON) k) (λ _. plain (rw w) refl refl refl) (λ _. plain (rw w) refl refl refl))
      (λ _. plain (rw w) refl refl refl)

  -- the watchdog's
  watchdog_by : (reset fires : Bool) (m : ℕ) → c.core.reset ≡ reset → watchdog_fires c.core.watchdog ≡ fires →
      Effect c (Ok (Clock 3)) (pick reset (pick fires (reset_core c.core) (with_watchdog c.core m)) c.core)
  unfolding ends takes_level reset_core reset_at
  watchdog_by true true m r f = over (rw (r, ← (watchdog_last c.core.watchdog), f)) refl idle_none
  watchdog_by true false m r f = plain (rw (r, ← (watchdog_last c.core.watchdog), f)) refl refl refl
  watchdog_by false fires m r f = plain (rw r) refl refl refl

  clock_by : (k : ℕ) (period watchdog : Bool) → eqb k 0 ≡ period → eqb k 3 ≡ watchdog → Effect c (Ok (Clock k)) (next c (Ok (Clock k))).core
  unfolding next core_after clocked clocked_as watchdog_clock
  clock_by k true watchdog e f = rw (eqb-true k 0 e) at_period
  clock_by k false true e f = rw (eqb-true k 3 f) (watchdog_by c.core.reset (watchdog_fires c.core.watchdog) (watchdog_next c.core.watchdog) refl refl)
  clock_by k false false e f = rw (e, f) (at_timer k f)

-- ---- every event

at_polarity : (c : Chip) (vertical level : Bool) → Effect c (Ok (Polarity vertical level)) (next c (Ok (Polarity vertical level))).core
unfolding next core_after polarity_found ends takes_level
at_polarity c vertical level = pick_by (Effect c (Ok (Polarity vertical level))) c.core.reset (λ _. plain refl refl refl refl) (λ _. plain refl refl refl refl)

pub effect : (c : Chip) (e : Decoded) → Effect c e (next c e).core
unfolding next core_after ends takes_level
effect c (Ok (Read a)) = plain refl refl refl refl
effect c (Ok (Write a b)) = at_write c a b
effect c (Ok (Pin p level)) = at_pin c p level
effect c (Ok (Clock k)) = clock_by c k _ _ refl refl
effect c (Ok (Polarity vertical level)) = at_polarity c vertical level
effect c (Err r) = plain refl refl refl refl
