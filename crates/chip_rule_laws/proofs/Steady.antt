-- A phase of DDC2B that only the ends of a clock move stays over every list that has none of them.
use mathlib.Core.Path.{◌≡◌, refl, sym, ap, ◌∙◌}
use mathlib.Core.Bool.{Bool, true, false, not, ◌&&◌, true≢false}
use mathlib.Core.List.{List, [], ◌∷◌}
use Prim.Native.Nat.{ℕ, ◌≤◌}
use borrow.Author.Tests.{le-ltb, not-true}
use lib.Dec.{eqb, ltb}
use Rattle.bits.specs.Byte.{pick, bit}
use Rattle.bits.proofs.Level.{pick_by}
use Rattle.bits.proofs.Finite.{neither, both}
use Rattle.registers.specs.Names.{MDCON, BTCON}
use Rattle.registers.specs.Table.{table, row_of, is_writable, updated}
use Rattle.std.specs.Prelude.{Ok, Err}
use Rattle.events.specs.Decoded.{Decoded}
use Rattle.events.specs.declared.Event.TheVariants.{Read, Write, Pin, Clock, Polarity}
use Rattle.events.specs.Word.{decode}
use Rattle.bus.specs.declared.Mode.TheVariants.{Ddc2b}
use Rattle.bus.specs.declared.OwnAddress.{OwnAddress}
use Rattle.bus.specs.declared.Phase.{Phase}
use Rattle.bus.specs.declared.Phase.TheVariants.{Addressed, Receive}
use Rattle.bus.specs.Bus.{edge, line, mode, changes_mode, pulls_sda, pulls_scl, sda_pulled, scl_pulled}
use Rattle.bus_ddc2b.specs.Ddc2b.{phase_at_rise, status_at_rise, phase_at_period}
use Rattle.chip.specs.declared.Bus.{Bus}
use Rattle.chip.specs.declared.Core.{Core}
use Rattle.chip.specs.declared.Chip.{Chip}
use Rattle.chip.specs.State.{bus_of, mode_of, register_at, with_sda, with_scl, with_reset}
use Rattle.chip_edges.specs.Edges.{active_mode, bus_at_mode, bus_at_rise, scl_rise, on_scl, on_scl_ddc2b, scl_moved, on_sda, on_sda_ddc2b, sda_moved, bus_at_vsync}
use Rattle.chip_ddc_writes.specs.DdcWrites.{mdcon_written, iiadr_written, status_written, iists_written, bus_at_iidat, iidat_written}
use Rattle.chip_ddc_writes.proofs.Modes.{md_written, enddc_written}
use Rattle.chip_writes.specs.declared.Target.{Target}
use Rattle.chip_writes.specs.Writes.{clrflg_written, clrwdt_written, written_to, written, write_register}
use Rattle.chip_writes.proofs.Addresses.{at_mdcon, at_hvcon, at_clrflg, at_clrwdt, at_iiadr, at_iidat, at_iists, at_bt, at_plain, addressed}
use Rattle.chip_writes.proofs.Addresses as by
use Rattle.chip_pins.specs.declared.PinKind.{PinKind}
use Rattle.chip_pins.specs.Pins.{rises, port0_moved, port1_moved, port2_moved, p16_moved, hsync_moved, vsync_moved, vsync_rise, on_reset, reset_moved, pin_moved_as, pin_moved}
use Rattle.chip_pins.specs.Numbers.{Numbered, p16_pin, sda_pin, scl_pin, hsynci_pin, vsynci_pin, reset_pin, port0_pin, port1_pin, port2_pin, no_pin}
use Rattle.chip_pins.proofs.Numbers.{numbered}
use Rattle.chip_clocks.specs.Clocks.{period_clock, timer_runs, timer_step, timer_clock, watchdog_clock, clocked_as, clocked, polarity_found}
use Rattle.chip_events.specs.Outcome.{core_after, next}
use Rattle.chip_flag_laws.proofs.Clocks.{watchdog_last}
use Rattle.list_call.specs.Run.{advanced}
use Rattle.step.specs.Step.{advance}
use Rattle.chip_observed_laws.specs.Levels.{level_of}
use Rattle.bus_transfer_laws.specs.Transfers.{puts}
use Rattle.chip_rule_laws.specs.Acknowledge.{differ, ends, lasts}
use Rattle.chip_rule_laws.specs.Steady.{In}
use Rattle.chip_rule_laws.proofs.Levels.{level_after_lem}

-- a phase that no rise of SCL and no 8 µs clock moves, and that does not hold SCL
pub record Steady (p : Phase) : Type 0 where
  pub free : pulls_scl p ≡ false
  pub rise : (own : ℕ) (sda : Bool) → phase_at_rise own sda p ≡ p
  pub status : (sda : Bool) (byte : ℕ) → status_at_rise sda p byte ≡ byte
  pub period : phase_at_period p ≡ p

-- an address of the chip, eight bits gathered
pub addressed_steady : (m : OwnAddress) (bits : ℕ) (ninth : Bool) → Steady (Addressed m bits ninth)
unfolding pulls_scl phase_at_rise status_at_rise phase_at_period
addressed_steady m bits ninth = record { free = refl; rise = λ own sda. refl; status = λ sda byte. refl; period = refl }

-- a data byte, eight bits gathered
pub received_steady : (m : OwnAddress) (n bits : ℕ) → 8 ≤ n → Steady (Receive m n bits)
unfolding pulls_scl phase_at_rise status_at_rise phase_at_period
received_steady m n bits h = record { free = refl; rise = λ own sda. rw (le-ltb n 8 h) refl; status = λ sda byte. refl; period = refl }

-- the same parts of another core
in_of : {p : Phase} {c after : Core} → after.reset ≡ c.reset → after.bus ≡ c.bus → after.mdcon ≡ c.mdcon → In p c → In p after
in_of r b m h = record { reset = r ∙ h.reset; enddc = ap (λ (x : Bus). bit 3 x.iists) b ∙ h.enddc; md = ap (bit 0) m ∙ h.md; phase = ap (λ (x : Bus). x.phase) b ∙ h.phase }

in_ddc2b_lem : {p : Phase} {c : Core} → In p c → mode_of c ≡ Ddc2b
unfolding mode
in_ddc2b_lem h = rw (h.enddc, h.md)

active : {p : Phase} {c : Core} → In p c → active_mode c ≡ Ddc2b
active h = rw (h.reset, in_ddc2b_lem h)

kept_mode : (iists mdcon iists' mdcon' : ℕ) (b : Bus) → bit 3 iists ≡ false → bit 0 mdcon ≡ false → bit 3 iists' ≡ false → bit 0 mdcon' ≡ false →
    bus_at_mode (mode iists mdcon) (mode iists' mdcon') b ≡ b
unfolding bus_at_mode mode changes_mode
kept_mode iists mdcon iists' mdcon' b e m e' m' = rw (e, m, e', m')

-- ---- writes

module _ {p : Phase} (st : Steady p) (c : Chip) (b : ℕ) (h : In p c.core) where
  at_target : {t : Target} {a : ℕ} → by.Addressed t a → ends c (Ok (Write a b)) ≡ false → In p (pick (is_writable a) (written_to t c.core b) c.core)
  unfolding is_writable row_of table written_to mdcon_written clrflg_written clrwdt_written iiadr_written iidat_written iists_written bus_at_iidat ends
  at_target at_mdcon z =
      let bus : Bus = c.core.bus in
      let m = md_written c.core.mdcon b ∙ (neither (bit 0 b) false z).0 in
      let same = kept_mode bus.iists c.core.mdcon bus.iists (updated MDCON c.core.mdcon b) bus h.enddc h.md h.enddc m in
      record { reset = h.reset; enddc = rw same h.enddc; md = m; phase = rw same h.phase }
  at_target at_hvcon z = in_of refl refl refl h
  at_target at_clrflg z = in_of refl refl refl h
  at_target at_clrwdt z = in_of refl refl refl h
  at_target at_iiadr z = record { reset = h.reset; enddc = h.enddc; md = h.md; phase = h.phase }
  at_target at_iidat z = let f : pulls_scl c.core.bus.phase ≡ false = rw h.phase st.free in rw f (record { reset = h.reset; enddc = h.enddc; md = h.md; phase = h.phase })
  at_target at_iists z =
      let bus : Bus = c.core.bus in
      let put : Bus = bus_of (status_written bus.iists b) bus.iiadr bus.iidat bus.phase bus.shifter in
      let e = enddc_written bus.iists b ∙ z in
      let same = kept_mode bus.iists c.core.mdcon (status_written bus.iists b) c.core.mdcon put h.enddc h.md e h.md in
      record { reset = h.reset; enddc = rw same e; md = h.md; phase = rw same h.phase }
  at_target at_bt z = in_of refl refl refl h
  at_target {a = a} (at_plain q) z = pick_by (In p) (is_writable a) (λ _. h) (λ _. h)

at_write : {p : Phase} → Steady p → (c : Chip) (a b : ℕ) → In p c.core → ends c (Ok (Write a b)) ≡ false → In p (next c (Ok (Write a b))).core
unfolding next core_after write_register written
at_write {p} st c a b h z = pick_by (In p) c.core.reset (λ _. at_target st c b h (addressed a) z) (λ _. h)

-- ---- pins

sda_by_lem : (pulled scl old new : Bool) (c : Core) → (scl && (line pulled true && differ old new)) ≡ false → on_sda_ddc2b scl (edge (line pulled old) (line pulled new)) c ≡ c
unfolding on_sda_ddc2b
sda_by_lem true scl old new c z = refl
sda_by_lem false true true true c z = refl
sda_by_lem false true true false c z = absurd (true≢false z)
sda_by_lem false true false true c z = absurd (true≢false z)
sda_by_lem false true false false c z = refl
sda_by_lem false false true true c z = refl
sda_by_lem false false true false c z = refl
sda_by_lem false false false true c z = refl
sda_by_lem false false false false c z = refl

module _ {p : Phase} (st : Steady p) (c : Chip) (level : Bool) (h : In p c.core) where
  at_sda : (c.core.scl && (puts c && differ c.core.sda level)) ≡ false → In p (sda_moved c.core level)
  unfolding sda_moved on_sda scl_pulled sda_pulled
  at_sda z =
      let f : pulls_scl c.core.bus.phase ≡ false = rw h.phase st.free in
      let y : (c.core.scl && (line (pulls_sda c.core.bus.phase) true && differ c.core.sda level)) ≡ false = rw (in_ddc2b_lem h) at z in
      rw (active h, f, sda_by_lem (pulls_sda c.core.bus.phase) c.core.scl c.core.sda level (with_sda c.core level) y)
      (in_of refl refl refl h)

  risen : In p (scl_rise (with_scl c.core true))
  unfolding scl_rise bus_at_rise
  risen =
      record {
        reset = h.reset;
        enddc = rw (h.phase, st.status) h.enddc;
        md = h.md;
        phase = rw (h.phase, st.rise) refl;
      }

  scl_by : (old new : Bool) → level ≡ new → (old && not new) ≡ false → In p (on_scl_ddc2b (edge old new) (with_scl c.core new))
  unfolding on_scl_ddc2b
  scl_by true true l z = in_of refl refl refl h
  scl_by true false l z = absurd (true≢false z)
  scl_by false true l z = risen
  scl_by false false l z = in_of refl refl refl h

  at_scl : (c.core.scl && not level) ≡ false → In p (scl_moved c.core level)
  unfolding scl_moved on_scl scl_pulled
  at_scl z =
      let f : pulls_scl c.core.bus.phase ≡ false = rw h.phase st.free in
      rw (active h, f) (scl_by c.core.scl level refl z)

  vsync_bus : bus_at_vsync (mode_of c.core) c.core.bus ≡ c.core.bus
  unfolding bus_at_vsync
  vsync_bus = rw (in_ddc2b_lem h)

  at_vsynci : In p (vsync_moved c.core level)
  unfolding vsync_moved vsync_rise
  at_vsynci =
      pick_by (In p) (rises c.core.reset c.core.pins.vsynci level)
      (λ _. in_of refl vsync_bus refl h)
      (λ _. in_of refl refl refl h)

  reset_by : (old new : Bool) → c.core.reset ≡ old → not new ≡ false → In p (on_reset (edge old new) (with_reset c.core new))
  unfolding on_reset
  reset_by true true r z = record { reset = refl; enddc = h.enddc; md = h.md; phase = h.phase }
  reset_by old false r z = absurd (true≢false z)
  reset_by false true r z = absurd (true≢false (sym h.reset ∙ r))

  at_kind_lem : {k : PinKind} {q : ℕ} → Numbered k q → ends c (Ok (Pin q level)) ≡ false → In p (pin_moved_as k c.core q level)
  unfolding pin_moved_as port0_moved port1_moved port2_moved p16_moved hsync_moved reset_moved ends
  at_kind_lem (port0_pin u high) z = in_of refl refl refl h
  at_kind_lem (port1_pin u low high) z = in_of refl refl refl h
  at_kind_lem (port2_pin u low high) z = in_of refl refl refl h
  at_kind_lem (no_pin u none) z = h
  at_kind_lem p16_pin z = in_of refl refl refl h
  at_kind_lem sda_pin z = at_sda (neither _ false z).0
  at_kind_lem scl_pin z = at_scl (neither _ false z).0
  at_kind_lem hsynci_pin z = in_of refl refl refl h
  at_kind_lem vsynci_pin z = at_vsynci
  at_kind_lem reset_pin z = reset_by c.core.reset level refl z

at_pin : {p : Phase} → Steady p → (c : Chip) (q : ℕ) (level : Bool) → In p c.core → ends c (Ok (Pin q level)) ≡ false → In p (next c (Ok (Pin q level))).core
unfolding next core_after pin_moved
at_pin st c q level h z = at_kind_lem st c level h (numbered q) z

-- ---- clocks

module _ {p : Phase} (st : Steady p) (c : Chip) (h : In p c.core) where
  at_period : In p (period_clock c.core)
  unfolding period_clock
  at_period = record { reset = h.reset; enddc = h.enddc; md = h.md; phase = rw h.phase st.period }

  at_timer : (k : ℕ) → In p (timer_clock (register_at c.registers BTCON) c.core k)
  unfolding timer_clock timer_step
  at_timer k = pick_by (In p) (timer_runs (register_at c.registers BTCON) k) (λ _. in_of refl refl refl h) (λ _. h)

  at_watchdog : ltb 62 c.core.watchdog ≡ false → In p (watchdog_clock c.core)
  unfolding watchdog_clock
  at_watchdog z = rw (watchdog_last c.core.watchdog, z) (in_of refl refl refl h)

  at_clock : (k : ℕ) → ends c (Ok (Clock k)) ≡ false → In p (next c (Ok (Clock k))).core
  unfolding next core_after clocked clocked_as ends
  at_clock k z =
      pick_by (In p) c.core.reset
      (λ _. pick_by (In p) (eqb k 0) (λ _. at_period) (λ _. pick_by (In p) (eqb k 3) (λ e. at_watchdog (rw e at z)) (λ _. at_timer k)))
      (λ _. h)

-- ---- every event, and lists

stays : {p : Phase} → Steady p → (c : Chip) (e : Decoded) → In p c.core → ends c e ≡ false → In p (next c e).core
unfolding next core_after polarity_found
stays st c (Ok (Read a)) h z = h
stays st c (Ok (Write a b)) h z = at_write st c a b h z
stays st c (Ok (Pin q level)) h z = at_pin st c q level h z
stays st c (Ok (Clock k)) h z = at_clock st c h k z
stays {p} st c (Ok (Polarity vertical level)) h z = pick_by (In p) c.core.reset (λ _. in_of refl refl refl h) (λ _. h)
stays st c (Err r) h z = h

pub steady_over : {p : Phase} → Steady p → (c : Chip) (ws : List ℕ) → In p c.core → lasts c ws ≡ true → In p (advanced c ws).core
unfolding advance
steady_over st c [] h z = h
steady_over st c (w ∷ ws) h z =
    let k = both (not (ends c (decode w))) (lasts (next c (decode w)) ws) z in
    steady_over st (next c (decode w)) ws (stays st c (decode w) h (not-true (ends c (decode w)) k.0)) k.1

-- SCL high stays high
scl_stays : (c : Chip) (e : Decoded) → ends c e ≡ false → c.core.scl ≡ true → (next c e).core.scl ≡ true
unfolding level_of ends
scl_stays c (Ok (Read a)) z s = level_after_lem 25 refl c (Ok (Read a)) ∙ s
scl_stays c (Ok (Write a b)) z s = level_after_lem 25 refl c (Ok (Write a b)) ∙ s
scl_stays c (Ok (Pin p level)) z s = level_after_lem 25 refl c (Ok (Pin p level)) ∙ by_pin (eqb p 25) level (neither (eqb p 25 && (c.core.scl && not level)) _ z).0
  where
    by_pin : (t level : Bool) → (t && (c.core.scl && not level)) ≡ false → pick t level c.core.scl ≡ true
    by_pin true true k = refl
    by_pin true false k = absurd (true≢false (sym (rw s) ∙ k))
    by_pin false level k = s
scl_stays c (Ok (Clock k)) z s = level_after_lem 25 refl c (Ok (Clock k)) ∙ s
scl_stays c (Ok (Polarity vertical level)) z s = level_after_lem 25 refl c (Ok (Polarity vertical level)) ∙ s
scl_stays c (Err r) z s = level_after_lem 25 refl c (Err r) ∙ s

pub scl_over : (c : Chip) (ws : List ℕ) → lasts c ws ≡ true → c.core.scl ≡ true → (advanced c ws).core.scl ≡ true
unfolding advance
scl_over c [] z s = s
scl_over c (w ∷ ws) z s =
    let k = both (not (ends c (decode w))) (lasts (next c (decode w)) ws) z in
    scl_over (next c (decode w)) ws k.1 (scl_stays c (decode w) (not-true (ends c (decode w)) k.0) s)
