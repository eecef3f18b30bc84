-- What one event does while the chip holds SCL: it lets SCL go, or the hold goes on and an 8 µs clock is counted.
-- Assumes nothing.
use mathlib.Core.Path.{◌≡◌, refl, sym, ◌∙◌}
use mathlib.Core.Bool.{Bool, true, false, not, ◌&&◌, ◌||◌}
use Prim.Native.Nat.{ℕ}
use native.Mathlib.Omega.{arith}
use borrow.Author.Tests.{eqb-true}
use lib.Dec.{eqb}
use Rattle.bits.specs.Byte.{pick, bit}
use Rattle.bits.proofs.Level.{pick_by}
use Rattle.registers.specs.Names.{MDCON, IIDAT, IISTS, BTCON}
use Rattle.registers.specs.Table.{table, row_of, is_writable, updated}
use Rattle.std.specs.Prelude.{Ok, Err}
use Rattle.events.specs.Decoded.{Decoded}
use Rattle.events.specs.declared.Event.TheVariants.{Read, Write, Pin, Clock, Polarity}
use Rattle.bus.specs.declared.Mode.TheVariants.{Off, Ddc2b}
use Rattle.bus.specs.declared.Edge.{Edge}
use Rattle.bus.specs.declared.Edge.TheVariants.{Flat, Rise, Fall}
use Rattle.bus.specs.declared.OwnAddress.{OwnAddress}
use Rattle.bus.specs.declared.Comparison.{Comparison}
use Rattle.bus.specs.declared.Comparison.TheVariants.{None, Own}
use Rattle.bus.specs.declared.Phase.{Phase}
use Rattle.bus.specs.declared.Phase.TheVariants.{Held}
use Rattle.bus.specs.Bus.{edge, line, mode, changes_mode, pulls_scl, scl_pulled, compared_in}
use Rattle.bus_ddc2b.specs.Ddc2b.{phase_at_rise, phase_let_go, held_longer, phase_at_period}
use Rattle.counters.specs.Count.{watchdog_fires, watchdog_next}
use Rattle.chip.specs.declared.Bus.{Bus}
use Rattle.chip.specs.declared.Core.{Core}
use Rattle.chip.specs.declared.Chip.{Chip}
use Rattle.chip.specs.State.{bus_of, mode_of, released, register_at, reset_at, reset_core, with_reset, with_scl, with_sda, with_watchdog}
use Rattle.chip_edges.specs.Edges.{bus_at_mode, bus_at_rise, on_scl, on_scl_ddc2b, scl_moved, on_sda, on_sda_ddc2b, sda_moved, bus_at_vsync}
use Rattle.chip_ddc_writes.specs.DdcWrites.{mdcon_written, iiadr_written, status_written, iists_written, bus_let_go, bus_risen, bus_at_iidat, iidat_written}
use Rattle.chip_ddc_writes.proofs.Modes.{md_written, enddc_written}
use Rattle.chip_writes.specs.declared.Target.{Target}
use Rattle.chip_writes.specs.Writes.{clrflg_written, clrwdt_written, written_to, written, write_register}
use Rattle.chip_writes.proofs.Addresses.{Addressed, at_mdcon, at_hvcon, at_clrflg, at_clrwdt, at_iiadr, at_iidat, at_iists, at_bt, at_plain, addressed}
use Rattle.chip_pins.specs.declared.PinKind.{PinKind}
use Rattle.chip_pins.specs.Pins.{rises, port0_moved, port1_moved, port2_moved, p16_moved, hsync_moved, vsync_moved, vsync_rise, on_reset, reset_moved, pin_moved_as, pin_moved}
use Rattle.chip_pins.specs.Numbers.{Numbered, p16_pin, sda_pin, scl_pin, hsynci_pin, vsynci_pin, reset_pin, port0_pin, port1_pin, port2_pin, no_pin}
use Rattle.chip_pins.proofs.Numbers.{numbered}
use Rattle.chip_clocks.specs.Clocks.{period_clock, timer_runs, timer_step, timer_clock, watchdog_clock, clocked_as, clocked, polarity_found}
use Rattle.chip_events.specs.Outcome.{core_after, next}
use Rattle.chip_flag_laws.specs.Causes.{is_clock}
use Rattle.chip_flag_laws.proofs.Clocks.{watchdog_last}
use Rattle.chip_hold_laws.specs.Stretching.{lets_go}

pub clash : {A : Type 0} (t : Bool) → t ≡ true → t ≡ false → A
clash t h k = absurd (let z : ◌≡◌ {A = ℕ} 0 1 = cc in omega arith)

-- a core that holds SCL: DDC2B by its two bits, and the clocks counted
pub record Holds (n : ℕ) (c : Core) : Type 0 where
  pub enddc : bit 3 c.bus.iists ≡ false
  pub md : bit 0 c.mdcon ≡ false
  pub matched : OwnAddress
  pub held : c.bus.phase ≡ Held matched n

-- what an event does to a hold
pub record Effect (n : ℕ) (c : Chip) (e : Decoded) (after : Core) : Type 0 where
  pub kept : lets_go c e ≡ false → Holds (pick (is_clock 0 e && c.core.reset) (held_longer n) n) after
  pub over : lets_go c e ≡ true → pulls_scl after.bus.phase ≡ false

-- an event that neither lets SCL go nor is counted
plain : {n : ℕ} {c : Chip} {e : Decoded} {after : Core} → lets_go c e ≡ false → (is_clock 0 e && c.core.reset) ≡ false → Holds n after → Effect n c e after
plain {c = c} {e = e} t k h = record { kept = λ _. rw k h; over = λ z. clash (lets_go c e) z t }

-- ---- the mode

-- from DDC2B: to DDC2B nothing moves, and to another mode the bus is released
module _ (iists mdcon iists' mdcon' : ℕ) (b : Bus) (e : bit 3 iists ≡ false) (m : bit 0 mdcon ≡ false) where
  mode_kept : bit 3 iists' ≡ false → bit 0 mdcon' ≡ false → bus_at_mode (mode iists mdcon) (mode iists' mdcon') b ≡ b
  unfolding bus_at_mode mode changes_mode
  mode_kept e' m' = rw (e, m, e', m')

  turned_off_lem : bit 3 iists' ≡ true → pulls_scl (bus_at_mode (mode iists mdcon) (mode iists' mdcon') b).phase ≡ false
  unfolding bus_at_mode mode changes_mode released pulls_scl
  turned_off_lem e' = rw (e, m, e')

  to_ddc1 : bit 3 iists' ≡ false → bit 0 mdcon' ≡ true → pulls_scl (bus_at_mode (mode iists mdcon) (mode iists' mdcon') b).phase ≡ false
  unfolding bus_at_mode mode changes_mode released pulls_scl
  to_ddc1 e' m' = rw (e, m, e', m')

in_ddc2b_lem : {n : ℕ} {c : Core} → Holds n c → mode_of c ≡ Ddc2b
unfolding mode
in_ddc2b_lem h = rw (h.enddc, h.md)

pub held_pulls : {m : OwnAddress} {n : ℕ} (p : Phase) → p ≡ Held m n → pulls_scl p ≡ true
unfolding pulls_scl
held_pulls p h = rw h

-- ---- writes

-- the byte begins, received or sent, and SCL's rise gathers a bit at most
let_go : (k : Comparison) (scl trx sda : Bool) (own byte : ℕ) → pulls_scl (pick scl (phase_at_rise own sda (phase_let_go k trx byte)) (phase_let_go k trx byte)) ≡ false
unfolding phase_at_rise pulls_scl phase_let_go
let_go None true trx sda own byte = refl
let_go None false trx sda own byte = refl
let_go (Own matched) true true sda own byte = refl
let_go (Own matched) true false sda own byte = refl
let_go (Own matched) false true sda own byte = refl
let_go (Own matched) false false sda own byte = refl

risen_phase : (scl sda : Bool) (byte : ℕ) (b : Bus) → pulls_scl (bus_risen scl sda (bus_let_go byte b)).phase ≡ false
unfolding bus_risen bus_at_rise
risen_phase true sda byte b = let_go (compared_in b.phase) true (bit 2 b.iists) _ b.iiadr byte
risen_phase false sda byte b = let_go (compared_in b.phase) false (bit 2 b.iists) sda b.iiadr byte

module _ (n : ℕ) (c : Chip) (b : ℕ) (h : Holds n c.core) (r : c.core.reset ≡ true) where
  lets_mdcon : lets_go c (Ok (Write MDCON b)) ≡ bit 0 b
  unfolding lets_go
  lets_mdcon = rw (r, h.md)

  lets_iists : lets_go c (Ok (Write IISTS b)) ≡ bit 3 b
  unfolding lets_go
  lets_iists = rw (r, h.enddc) (or_false (bit 3 b))
    where
      or_false : (x : Bool) → (x || false) ≡ x
      or_false true = refl
      or_false false = refl

  lets_iidat : lets_go c (Ok (Write IIDAT b)) ≡ true
  unfolding lets_go
  lets_iidat = first c.core.reset r
    where
      first : (x : Bool) → x ≡ true → (x || false) ≡ true
      first true h = refl
      first false h = h

  at_target : {t : Target} {a : ℕ} → Addressed t a → Effect n c (Ok (Write a b)) (pick (is_writable a) (written_to t c.core b) c.core)
  unfolding is_writable row_of table written_to mdcon_written clrflg_written clrwdt_written iiadr_written iidat_written iists_written bus_at_iidat lets_go
  at_target at_mdcon =
      let bus : Bus = c.core.bus in
      record {
        kept = λ z.
            let m = md_written c.core.mdcon b ∙ sym lets_mdcon ∙ z in
            let same = mode_kept bus.iists c.core.mdcon bus.iists (updated MDCON c.core.mdcon b) bus h.enddc h.md h.enddc m in
            record { enddc = rw same h.enddc; md = m; matched = h.matched; held = rw same h.held };
        over = λ z. to_ddc1 bus.iists c.core.mdcon bus.iists _ bus h.enddc h.md h.enddc (md_written c.core.mdcon b ∙ sym lets_mdcon ∙ z);
      }
  at_target at_hvcon = plain refl refl (record { enddc = h.enddc; md = h.md; matched = h.matched; held = h.held })
  at_target at_clrflg = plain refl refl (record { enddc = h.enddc; md = h.md; matched = h.matched; held = h.held })
  at_target at_clrwdt = plain refl refl (record { enddc = h.enddc; md = h.md; matched = h.matched; held = h.held })
  at_target at_iiadr = plain refl refl (record { enddc = h.enddc; md = h.md; matched = h.matched; held = h.held })
  at_target at_iidat =
      record {
        kept = λ z. clash _ lets_iidat z;
        over = λ _. rw (held_pulls c.core.bus.phase h.held) (risen_phase c.core.scl c.core.sda b c.core.bus);
      }
  at_target at_iists =
      let bus : Bus = c.core.bus in
      let put : Bus = bus_of (status_written bus.iists b) bus.iiadr bus.iidat bus.phase bus.shifter in
      record {
        kept = λ z.
            let e = enddc_written bus.iists b ∙ sym lets_iists ∙ z in
            let same = mode_kept bus.iists c.core.mdcon (status_written bus.iists b) c.core.mdcon put h.enddc h.md e h.md in
            record { enddc = rw same e; md = h.md; matched = h.matched; held = rw same h.held };
        over = λ z. turned_off_lem bus.iists c.core.mdcon (status_written bus.iists b) c.core.mdcon put h.enddc h.md (enddc_written bus.iists b ∙ sym lets_iists ∙ z);
      }
  at_target at_bt = plain refl refl (record { enddc = h.enddc; md = h.md; matched = h.matched; held = h.held })
  at_target {a = a} (at_plain p) = plain (rw (p.iidat, p.iists, p.mdcon)) refl (pick_by (Holds n) (is_writable a) (λ _. h) (λ _. h))

-- while RESET is low a write is refused
low_write : (n : ℕ) (c : Chip) (a b : ℕ) → Holds n c.core → c.core.reset ≡ false → Effect n c (Ok (Write a b)) c.core
unfolding lets_go
low_write n c a b h r = plain (rw r (none (eqb a IIDAT) (eqb a IISTS) (eqb a MDCON))) refl h
  where
    none : (x y z : Bool) → ((x && false) || ((y && false) || (z && false))) ≡ false
    none true true true = refl
    none true true false = refl
    none true false true = refl
    none true false false = refl
    none false true true = refl
    none false true false = refl
    none false false true = refl
    none false false false = refl

at_write : (n : ℕ) (c : Chip) (a b : ℕ) → Holds n c.core → Effect n c (Ok (Write a b)) (next c (Ok (Write a b))).core
unfolding next core_after write_register written
at_write n c a b h = pick_by (Effect n c (Ok (Write a b))) c.core.reset (λ r. at_target n c b h r (addressed a)) (λ r. low_write n c a b h r)

-- ---- pins

-- while SCL is held the SCL line is low: it has no edge, and SDA makes no START and no STOP
scl_kept : (reset old new : Bool) (p : Phase) (c : Core) → pulls_scl p ≡ true →
    on_scl (pick reset Ddc2b Off) (edge (line (scl_pulled (pick reset Ddc2b Off) p) old) (line (scl_pulled (pick reset Ddc2b Off) p) new)) c ≡ c
unfolding on_scl on_scl_ddc2b scl_pulled
scl_kept true old new p c h = rw h
scl_kept false old new p c h = refl

sda_kept : (reset scl : Bool) (p : Phase) (e : Edge) (c : Core) → pulls_scl p ≡ true →
    on_sda (pick reset Ddc2b Off) (line (scl_pulled (pick reset Ddc2b Off) p) scl) e c ≡ c
unfolding on_sda on_sda_ddc2b scl_pulled
sda_kept true scl p Flat c h = refl
sda_kept true scl p Rise c h = rw h
sda_kept true scl p Fall c h = rw h
sda_kept false scl p e c h = refl

module _ (n : ℕ) (c : Chip) (level : Bool) (h : Holds n c.core) where
  -- RESET going low lets SCL go
  reset_lets : c.core.reset ≡ true → level ≡ false → lets_go c (Ok (Pin 28 level)) ≡ true
  unfolding lets_go
  reset_lets r l = goes_low c.core.reset level r l
    where
      goes_low : (x y : Bool) → x ≡ true → y ≡ false → ((x && not y) || false) ≡ true
      goes_low x y h k = rw (h, k)

  -- a pin other than RESET
  plain_pin : {after : Core} (p : ℕ) → eqb p 28 ≡ false → Holds n after → Effect n c (Ok (Pin p level)) after
  unfolding lets_go
  plain_pin p k t = plain (rw k) refl t

  at_scl : Effect n c (Ok (Pin 25 level)) (scl_moved c.core level)
  unfolding scl_moved
  at_scl =
      plain_pin 25 refl
      (rw (in_ddc2b_lem h, scl_kept c.core.reset c.core.scl level c.core.bus.phase (with_scl c.core level) (held_pulls c.core.bus.phase h.held))
      (record { enddc = h.enddc; md = h.md; matched = h.matched; held = h.held }))

  at_sda : Effect n c (Ok (Pin 24 level)) (sda_moved c.core level)
  unfolding sda_moved
  at_sda =
      plain_pin 24 refl
      (rw (in_ddc2b_lem h, sda_kept c.core.reset c.core.scl c.core.bus.phase _ (with_sda c.core level) (held_pulls c.core.bus.phase h.held))
      (record { enddc = h.enddc; md = h.md; matched = h.matched; held = h.held }))

  -- VSYNCI clocks the shift register in DDC1 alone
  vsync_bus : bus_at_vsync (mode_of c.core) c.core.bus ≡ c.core.bus
  unfolding bus_at_vsync
  vsync_bus = rw (in_ddc2b_lem h)

  at_vsynci : Effect n c (Ok (Pin 27 level)) (vsync_moved c.core level)
  unfolding vsync_moved vsync_rise
  at_vsynci =
      plain_pin 27 refl
      (pick_by (Holds n) (rises c.core.reset c.core.pins.vsynci level)
      (λ _. record { enddc = rw vsync_bus h.enddc; md = h.md; matched = h.matched; held = rw vsync_bus h.held })
      (λ _. record { enddc = h.enddc; md = h.md; matched = h.matched; held = h.held }))

  -- RESET by its level before and after
  reset_by : (old new : Bool) → c.core.reset ≡ old → level ≡ new → Effect n c (Ok (Pin 28 level)) (on_reset (edge old new) (with_reset c.core new))
  unfolding lets_go on_reset reset_core reset_at pulls_scl
  reset_by true true r l = plain (rw (r, l)) refl (record { enddc = h.enddc; md = h.md; matched = h.matched; held = h.held })
  reset_by true false r l = record { kept = λ z. clash _ (reset_lets r l) z; over = λ _. refl }
  reset_by false new r l = plain (rw r) refl (low_reset new)
    where
      low_reset : (new : Bool) → Holds n (on_reset (edge false new) (with_reset c.core new))
      low_reset true = record { enddc = h.enddc; md = h.md; matched = h.matched; held = h.held }
      low_reset false = record { enddc = h.enddc; md = h.md; matched = h.matched; held = h.held }

  at_kind_lem : {k : PinKind} {p : ℕ} → Numbered k p → Effect n c (Ok (Pin p level)) (pin_moved_as k c.core p level)
  unfolding pin_moved_as port0_moved port1_moved port2_moved p16_moved hsync_moved reset_moved
  at_kind_lem {p = p} (port0_pin u high) = plain_pin p u.reset (record { enddc = h.enddc; md = h.md; matched = h.matched; held = h.held })
  at_kind_lem {p = p} (port1_pin u low high) = plain_pin p u.reset (record { enddc = h.enddc; md = h.md; matched = h.matched; held = h.held })
  at_kind_lem {p = p} (port2_pin u low high) = plain_pin p u.reset (record { enddc = h.enddc; md = h.md; matched = h.matched; held = h.held })
  at_kind_lem {p = p} (no_pin u none) = plain_pin p u.reset h
  at_kind_lem p16_pin = plain_pin 14 refl (record { enddc = h.enddc; md = h.md; matched = h.matched; held = h.held })
  at_kind_lem sda_pin = at_sda
  at_kind_lem scl_pin = at_scl
  at_kind_lem hsynci_pin = plain_pin 26 refl (record { enddc = h.enddc; md = h.md; matched = h.matched; held = h.held })
  at_kind_lem vsynci_pin = at_vsynci
  at_kind_lem reset_pin = reset_by c.core.reset level refl refl

at_pin : (n : ℕ) (c : Chip) (p : ℕ) (level : Bool) → Holds n c.core → Effect n c (Ok (Pin p level)) (next c (Ok (Pin p level))).core
unfolding next core_after pin_moved
at_pin n c p level h = at_kind_lem n c level h (numbered p)

-- ---- clocks

module _ (n : ℕ) (c : Chip) (h : Holds n c.core) where
  -- 8 µs
  at_period : Effect n c (Ok (Clock 0)) (pick c.core.reset (period_clock c.core) c.core)
  unfolding lets_go period_clock phase_at_period
  at_period =
      record {
        kept = λ _. by_reset c.core.reset;
        over = λ z. clash _ z refl;
      }
    where
      by_reset : (r : Bool) → Holds (pick r (held_longer n) n) (pick r (period_clock c.core) c.core)
      by_reset true = record { enddc = h.enddc; md = h.md; matched = h.matched; held = rw h.held }
      by_reset false = h

  -- base clocks
  at_timer : (k : ℕ) → eqb k 0 ≡ false → eqb k 3 ≡ false → Effect n c (Ok (Clock k)) (pick c.core.reset (timer_clock (register_at c.registers BTCON) c.core k) c.core)
  unfolding lets_go timer_clock timer_step
  at_timer k p w =
      plain (rw w) (rw p)
      (pick_by (Holds n) c.core.reset
      (λ _. pick_by (Holds n) (timer_runs (register_at c.registers BTCON) k) (λ _. record { enddc = h.enddc; md = h.md; matched = h.matched; held = h.held }) (λ _. h))
      (λ _. h))

  -- the watchdog's
  watchdog_by : (reset fires : Bool) (m : ℕ) → c.core.reset ≡ reset → watchdog_fires c.core.watchdog ≡ fires →
      Effect n c (Ok (Clock 3)) (pick reset (pick fires (reset_core c.core) (with_watchdog c.core m)) c.core)
  unfolding lets_go reset_core reset_at pulls_scl
  watchdog_by true true m r f = record { kept = λ z. clash _ (rw (r, ← (watchdog_last c.core.watchdog), f)) z; over = λ _. refl }
  watchdog_by true false m r f = plain (rw (r, ← (watchdog_last c.core.watchdog), f)) refl (record { enddc = h.enddc; md = h.md; matched = h.matched; held = h.held })
  watchdog_by false fires m r f = plain (rw r) refl h

  clock_by : (k : ℕ) (period watchdog : Bool) → eqb k 0 ≡ period → eqb k 3 ≡ watchdog → Effect n c (Ok (Clock k)) (next c (Ok (Clock k))).core
  unfolding next core_after clocked clocked_as watchdog_clock
  clock_by k true watchdog e f = rw (eqb-true k 0 e) at_period
  clock_by k false true e f = rw (eqb-true k 3 f) (watchdog_by c.core.reset (watchdog_fires c.core.watchdog) (watchdog_next c.core.watchdog) refl refl)
  clock_by k false false e f = rw (e, f) (at_timer k e f)

-- ---- every event

at_polarity : (n : ℕ) (c : Chip) (vertical level : Bool) → Holds n c.core → Effect n c (Ok (Polarity vertical level)) (next c (Ok (Polarity vertical level))).core
unfolding next core_after polarity_found lets_go
at_polarity n c vertical level h = plain refl refl (pick_by (Holds n) c.core.reset (λ _. record { enddc = h.enddc; md = h.md; matched = h.matched; held = h.held }) (λ _. h))

pub effect : (n : ℕ) (c : Chip) (e : Decoded) → Holds n c.core → Effect n c e (next c e).core
unfolding next core_after lets_go
effect n c (Ok (Read a)) h = plain refl refl h
effect n c (Ok (Write a b)) h = at_write n c a b h
effect n c (Ok (Pin p level)) h = at_pin n c p level h
effect n c (Ok (Clock k)) h = clock_by n c h k _ _ refl refl
effect n c (Ok (Polarity vertical level)) h = at_polarity n c vertical level h
effect n c (Err r) h = plain refl refl h
