-- What one event does to SCL's level and to the phase in DDC2B with RESET high, where it neither ends the transfer nor lets SCL go.
-- Assumes nothing.
use mathlib.Core.Path.{◌≡◌, refl, sym, ◌∙◌}
use mathlib.Core.Bool.{Bool, true, false, not, ◌&&◌, ◌||◌, beq}
use Prim.Native.Nat.{ℕ}
use borrow.Author.Tests.{eqb-true}
use lib.Dec.{eqb}
use Rattle.bits.specs.Byte.{pick, bit}
use Rattle.bits.proofs.Level.{pick_by}
use Rattle.bits.proofs.Finite.{beq_eq, neither}
use Rattle.registers.specs.Names.{MDCON, IIDAT, IISTS, BTCON}
use Rattle.std.specs.Prelude.{Ok, Err}
use Rattle.events.specs.Decoded.{Decoded}
use Rattle.events.specs.declared.Event.TheVariants.{Read, Write, Pin, Clock, Polarity}
use Rattle.bus.specs.declared.Mode.{Mode}
use Rattle.bus.specs.declared.Mode.TheVariants.{Off, Ddc1, Ddc2b}
use Rattle.bus.specs.declared.Phase.{Phase}
use Rattle.bus.specs.declared.Phase.TheVariants.{Idle, Address, Addressed, Ignoring, Receive, Transmit, Held}
use Rattle.bus.specs.Bus.{edge, line, mode, pulls_sda, pulls_scl, sda_pulled, scl_pulled}
use Rattle.bus_ddc2b.specs.Ddc2b.{phase_at_rise, phase_at_fall, phase_at_period}
use Rattle.counters.specs.Count.{watchdog_fires, watchdog_next}
use Rattle.chip.specs.declared.Bus.{Bus}
use Rattle.chip.specs.declared.Core.{Core}
use Rattle.chip.specs.declared.Chip.{Chip}
use Rattle.chip.specs.State.{mode_of, register_at, reset_core, with_reset, with_scl, with_sda, with_watchdog}
use Rattle.chip_edges.specs.Edges.{active_mode, bus_at_rise, on_scl, on_scl_ddc2b, scl_rise, scl_fall, scl_moved, on_sda, on_sda_ddc2b, sda_moved, bus_at_vsync}
use Rattle.chip_pins.specs.declared.PinKind.{PinKind}
use Rattle.chip_pins.specs.Pins.{rises, port0_moved, port1_moved, port2_moved, p16_moved, hsync_moved, vsync_moved, vsync_rise, on_reset, reset_moved, pin_moved_as, pin_moved}
use Rattle.chip_pins.specs.Numbers.{Unnamed, Numbered, p16_pin, sda_pin, scl_pin, hsynci_pin, vsynci_pin, reset_pin, port0_pin, port1_pin, port2_pin, no_pin}
use Rattle.chip_pins.proofs.Numbers.{numbered}
use Rattle.chip_clocks.specs.Clocks.{period_clock, timer_runs, timer_step, timer_clock, watchdog_clock, clocked_as, clocked, polarity_found}
use Rattle.chip_events.specs.Outcome.{core_after, next}
use Rattle.chip_write_laws.specs.Frame.{alters}
use Rattle.chip_write_laws.specs.Frame.Part.{BusPhase, SclLevel}
use Rattle.chip_write_laws.proofs.Frame.{frame}
use Rattle.bus_transfer_laws.specs.Altered.{turns_mode, alters_by}
use Rattle.bus_transfer_laws.proofs.Altered.{altered}
use Rattle.chip_flag_laws.specs.Causes.{in_ddc2b}
use Rattle.chip_flag_laws.proofs.Bools.{at_six}
use Rattle.chip_flag_laws.proofs.Clocks.{watchdog_last}
use Rattle.chip_count_laws.specs.Counting.{level_after, resets}
use Rattle.chip_count_laws.proofs.Events.{effect as effect_of_counting}
use Rattle.bus_address_laws.specs.Addressed.{sda_level, takes_level, starts, stops, turns_mode as turns_now, ends}
use Rattle.bus_address_laws.proofs.Events.{clash, Effect, over, taken, still, effect}
use Rattle.bus_address_laws.proofs.Eighth.{low_both}
use Rattle.bus_data_laws.specs.Ninth.{lets_go}

-- RESET is high, and DDC2B is on
pub record Runs (c : Core) : Type 0 where
  pub reset : c.reset ≡ true
  pub enddc : bit 3 c.bus.iists ≡ false
  pub md : bit 0 c.mdcon ≡ false

-- a rise or a fall of the SCL line, neither, or a hold that goes on
pub data Moved (c : Chip) (e : Decoded) (after : Core) : Type 0 where
  risen : takes_level c e ≡ true → c.core.scl ≡ false → pulls_scl c.core.bus.phase ≡ false → after.scl ≡ true
      → after.bus.phase ≡ phase_at_rise c.core.bus.iiadr (sda_level c) c.core.bus.phase → Moved c e after
  fallen : takes_level c e ≡ false → c.core.scl ≡ true → pulls_scl c.core.bus.phase ≡ false → after.scl ≡ false
      → after.bus.phase ≡ phase_at_fall c.core.bus.iists c.core.bus.phase → Moved c e after
  same : takes_level c e ≡ false → after.scl ≡ c.core.scl → after.bus.phase ≡ c.core.bus.phase → Moved c e after
  holding : takes_level c e ≡ false → pulls_scl c.core.bus.phase ≡ true → pulls_scl after.bus.phase ≡ true → Moved c e after

-- ---- the mode

abbrev is_ddc2b : Mode → Bool
is_ddc2b Off = false
is_ddc2b Ddc1 = false
is_ddc2b Ddc2b = true

active : (c : Core) → Runs c → is_ddc2b (active_mode c) ≡ true
unfolding mode
active c r = rw (r.reset, r.enddc, r.md)

-- ---- SCL and SDA

module _ (c : Chip) (level : Bool) (r : Runs c.core) where
  scl_by : (held old new : Bool) → pulls_scl c.core.bus.phase ≡ held → c.core.scl ≡ old → level ≡ new →
      Moved c (Ok (Pin 25 level)) (on_scl Ddc2b (edge (line held old) (line held new)) (with_scl c.core level))
  unfolding on_scl on_scl_ddc2b scl_rise scl_fall bus_at_rise takes_level
  scl_by true true true h o l = holding (rw (r.reset, r.enddc, r.md, h, o, l)) h h
  scl_by true true false h o l = holding (rw (r.reset, r.enddc, r.md, h, o, l)) h h
  scl_by true false true h o l = holding (rw (r.reset, r.enddc, r.md, h, o, l)) h h
  scl_by true false false h o l = holding (rw (r.reset, r.enddc, r.md, h, o, l)) h h
  scl_by false true true h o l = same (rw (r.reset, r.enddc, r.md, h, o, l)) (l ∙ sym o) refl
  scl_by false true false h o l = fallen (rw (r.reset, r.enddc, r.md, h, o, l)) o h l refl
  scl_by false false true h o l = risen (rw (r.reset, r.enddc, r.md, h, o, l)) o h l refl
  scl_by false false false h o l = same (rw (r.reset, r.enddc, r.md, h, o, l)) (l ∙ sym o) refl

  at_scl_by : (m : Mode) → is_ddc2b m ≡ true → Moved c (Ok (Pin 25 level)) (on_scl m (edge (line (scl_pulled m c.core.bus.phase) c.core.scl) (line (scl_pulled m c.core.bus.phase) level)) (with_scl c.core level))
  unfolding scl_pulled
  at_scl_by Off h = clash false h refl
  at_scl_by Ddc1 h = clash false h refl
  at_scl_by Ddc2b h = scl_by (pulls_scl c.core.bus.phase) c.core.scl level refl refl refl

  at_scl : Moved c (Ok (Pin 25 level)) (scl_moved c.core level)
  unfolding scl_moved
  at_scl = at_scl_by (active_mode c.core) (active c.core r)

  sda_by_lem : (pulls held scl old new : Bool) → pulls_sda c.core.bus.phase ≡ pulls → pulls_scl c.core.bus.phase ≡ held → c.core.scl ≡ scl → c.core.sda ≡ old → level ≡ new →
      ends c (Ok (Pin 24 level)) ≡ false → Moved c (Ok (Pin 24 level)) (on_sda Ddc2b (line held scl) (edge (line pulls old) (line pulls new)) (with_sda c.core level))
  unfolding on_sda on_sda_ddc2b ends takes_level
  sda_by_lem true held scl old new p h s o l n = same refl refl refl
  sda_by_lem false held scl true true p h s o l n = same refl refl refl
  sda_by_lem false held scl false false p h s o l n = same refl refl refl
  sda_by_lem false true scl true false p h s o l n = same refl refl refl
  sda_by_lem false true scl false true p h s o l n = same refl refl refl
  sda_by_lem false false false true false p h s o l n = same refl refl refl
  sda_by_lem false false false false true p h s o l n = same refl refl refl
  sda_by_lem false false true true false p h s o l n = clash (ends c (Ok (Pin 24 level))) (rw (r.reset, r.enddc, r.md, p, h, s, o, l)) n
  sda_by_lem false false true false true p h s o l n = clash (ends c (Ok (Pin 24 level))) (rw (r.reset, r.enddc, r.md, p, h, s, o, l)) n

  at_sda_by : (m : Mode) → is_ddc2b m ≡ true → ends c (Ok (Pin 24 level)) ≡ false →
      Moved c (Ok (Pin 24 level))
      (on_sda m (line (scl_pulled m c.core.bus.phase) c.core.scl)
      (edge (line (sda_pulled m c.core.bus.phase c.core.bus.shifter) c.core.sda) (line (sda_pulled m c.core.bus.phase c.core.bus.shifter) level)) (with_sda c.core level))
  unfolding scl_pulled sda_pulled
  at_sda_by Off h n = clash false h refl
  at_sda_by Ddc1 h n = clash false h refl
  at_sda_by Ddc2b h n =
      sda_by_lem (pulls_sda c.core.bus.phase) (pulls_scl c.core.bus.phase) c.core.scl c.core.sda level refl refl refl refl refl n

  at_sda : ends c (Ok (Pin 24 level)) ≡ false → Moved c (Ok (Pin 24 level)) (sda_moved c.core level)
  unfolding sda_moved
  at_sda n = at_sda_by (active_mode c.core) (active c.core r) n

-- ---- the other pins

vsync_phase : (m : Mode) (b : Bus) → (bus_at_vsync m b).phase ≡ b.phase
unfolding bus_at_vsync
vsync_phase Off b = refl
vsync_phase Ddc1 b = refl
vsync_phase Ddc2b b = refl

module _ (c : Chip) (level : Bool) (r : Runs c.core) where
  unnamed_pin : {after : Core} {p : ℕ} → Unnamed p → after.scl ≡ c.core.scl → after.bus.phase ≡ c.core.bus.phase → Moved c (Ok (Pin p level)) after
  unfolding takes_level
  unnamed_pin u s q = same (rw u.scl) s q

  at_vsynci : Moved c (Ok (Pin 27 level)) (vsync_moved c.core level)
  unfolding vsync_moved vsync_rise takes_level
  at_vsynci =
      pick_by (Moved c (Ok (Pin 27 level))) (rises c.core.reset c.core.pins.vsynci level)
      (λ _. same refl refl (vsync_phase (mode_of c.core) c.core.bus))
      (λ _. same refl refl refl)

  reset_by : (old new : Bool) → c.core.reset ≡ old → level ≡ new → ends c (Ok (Pin 28 level)) ≡ false → Moved c (Ok (Pin 28 level)) (on_reset (edge old new) (with_reset c.core new))
  unfolding on_reset ends takes_level
  reset_by true true o l n = same refl refl refl
  reset_by true false o l n = clash (ends c (Ok (Pin 28 level))) (rw (o, l)) n
  reset_by false new o l n = clash c.core.reset r.reset o

  at_reset_lem : ends c (Ok (Pin 28 level)) ≡ false → Moved c (Ok (Pin 28 level)) (reset_moved c.core level)
  unfolding reset_moved
  at_reset_lem n = reset_by c.core.reset level refl refl n

  at_kind_lem : {k : PinKind} {p : ℕ} → Numbered k p → ends c (Ok (Pin p level)) ≡ false → Moved c (Ok (Pin p level)) (pin_moved_as k c.core p level)
  unfolding pin_moved_as port0_moved port1_moved port2_moved p16_moved hsync_moved takes_level
  at_kind_lem (port0_pin u high) n = unnamed_pin u refl refl
  at_kind_lem (port1_pin u low high) n = unnamed_pin u refl refl
  at_kind_lem (port2_pin u low high) n = unnamed_pin u refl refl
  at_kind_lem (no_pin u none) n = unnamed_pin u refl refl
  at_kind_lem p16_pin n = same refl refl refl
  at_kind_lem sda_pin n = at_sda c level r n
  at_kind_lem scl_pin n = at_scl c level r
  at_kind_lem hsynci_pin n = same refl refl refl
  at_kind_lem vsynci_pin n = at_vsynci
  at_kind_lem reset_pin n = at_reset_lem n

at_pin : (c : Chip) (p : ℕ) (level : Bool) → Runs c.core → ends c (Ok (Pin p level)) ≡ false → Moved c (Ok (Pin p level)) (next c (Ok (Pin p level))).core
unfolding next core_after pin_moved
at_pin c p level r n = at_kind_lem c level r (numbered p) n

-- ---- clocks

period_same : (p : Phase) → pulls_scl p ≡ false → phase_at_period p ≡ p
unfolding pulls_scl phase_at_period
period_same Idle h = refl
period_same (Address count bits) h = refl
period_same (Addressed matched bits ninth) h = refl
period_same Ignoring h = refl
period_same (Receive matched count bits) h = refl
period_same (Transmit matched count byte) h = refl
period_same (Held matched clocks) h = clash true refl h

period_held : (p : Phase) → pulls_scl p ≡ true → pulls_scl (phase_at_period p) ≡ true
unfolding pulls_scl phase_at_period
period_held Idle h = h
period_held (Address count bits) h = h
period_held (Addressed matched bits ninth) h = h
period_held Ignoring h = h
period_held (Receive matched count bits) h = h
period_held (Transmit matched count byte) h = h
period_held (Held matched clocks) h = refl

module _ (c : Chip) (r : Runs c.core) where
  period_by : (held : Bool) → pulls_scl c.core.bus.phase ≡ held → Moved c (Ok (Clock 0)) (period_clock c.core)
  unfolding period_clock takes_level
  period_by true h = holding refl h (period_held c.core.bus.phase h)
  period_by false h = same refl refl (period_same c.core.bus.phase h)

  at_timer : (k : ℕ) → Moved c (Ok (Clock k)) (timer_clock (register_at c.registers BTCON) c.core k)
  unfolding timer_clock timer_step takes_level
  at_timer k = pick_by (Moved c (Ok (Clock k))) (timer_runs (register_at c.registers BTCON) k) (λ _. same refl refl refl) (λ _. same refl refl refl)

  watchdog_by : (fires : Bool) (m : ℕ) → watchdog_fires c.core.watchdog ≡ fires → ends c (Ok (Clock 3)) ≡ false → Moved c (Ok (Clock 3)) (pick fires (reset_core c.core) (with_watchdog c.core m))
  unfolding ends takes_level
  watchdog_by true m f n = clash (ends c (Ok (Clock 3))) (rw (r.reset, ← (watchdog_last c.core.watchdog), f)) n
  watchdog_by false m f n = same refl refl refl

  high_clock : {k : ℕ} {x : Core} → Moved c (Ok (Clock k)) x → Moved c (Ok (Clock k)) (pick c.core.reset x c.core)
  high_clock {k} m = pick_by (Moved c (Ok (Clock k))) c.core.reset (λ _. m) (λ low. clash c.core.reset r.reset low)

  clock_by : (k : ℕ) (period watchdog : Bool) → eqb k 0 ≡ period → eqb k 3 ≡ watchdog → ends c (Ok (Clock k)) ≡ false → Moved c (Ok (Clock k)) (next c (Ok (Clock k))).core
  unfolding next core_after clocked clocked_as watchdog_clock
  clock_by k true watchdog e f n = rw (eqb-true k 0 e) (high_clock (period_by (pulls_scl c.core.bus.phase) refl))
  clock_by k false true e f n =
      rw (eqb-true k 3 f) (high_clock (watchdog_by (watchdog_fires c.core.watchdog) (watchdog_next c.core.watchdog) refl (rw (eqb-true k 3 f) at n)))
  clock_by k false false e f n = rw (e, f) (high_clock (at_timer k))

-- ---- writes

-- what ends a transfer by a write is a change of mode
turn_is : (x y enddc md b3 b0 : Bool) →
    (((y && (true && pick (not enddc) b3 (not b3))) || (((x && (true && pick (not md) b0 (not b0))) && not enddc) || false)) || false)
    ≡ ((x && (not enddc && not (beq b0 md))) || (y && not (beq b3 enddc)))
turn_is x y enddc md b3 b0 =
    beq_eq _ _
    (at_six
    (λ u v e m a b.
    beq (((v && (true && pick (not e) a (not a))) || (((u && (true && pick (not m) b (not b))) && not e) || false)) || false)
    ((u && (not e && not (beq b m))) || (v && not (beq a e))))
    tt x y enddc md b3 b0)

module _ (c : Chip) (a b : ℕ) (r : Runs c.core) where
  ends_write : ends c (Ok (Write a b)) ≡ turns_mode c a b
  unfolding ends
  ends_write =
      rw r.reset (turn_is (eqb a MDCON) (eqb a IISTS) (bit 3 c.core.bus.iists) (bit 0 c.core.mdcon) (bit 3 b) (bit 0 b))

  phase_kept : ends c (Ok (Write a b)) ≡ false → lets_go c (Ok (Write a b)) ≡ false → alters_by c a b BusPhase ≡ false
  unfolding alters_by
  phase_kept n l =
      let held : (eqb a IIDAT && pulls_scl c.core.bus.phase) ≡ false = rw (r.reset, r.enddc, r.md) at l in
      rw (sym ends_write ∙ n, held)

  at_write : ends c (Ok (Write a b)) ≡ false → lets_go c (Ok (Write a b)) ≡ false → Moved c (Ok (Write a b)) (next c (Ok (Write a b))).core
  unfolding takes_level alters
  at_write n l = same refl (frame c a b SclLevel refl) (altered c a b BusPhase (phase_kept n l))

-- ---- every event

at_polarity : (c : Chip) (vertical level : Bool) → Moved c (Ok (Polarity vertical level)) (next c (Ok (Polarity vertical level))).core
unfolding next core_after polarity_found takes_level
at_polarity c vertical level = pick_by (Moved c (Ok (Polarity vertical level))) c.core.reset (λ _. same refl refl refl) (λ _. same refl refl refl)

pub moved : (c : Chip) (e : Decoded) → Runs c.core → ends c e ≡ false → lets_go c e ≡ false → Moved c e (next c e).core
unfolding next core_after takes_level
moved c (Ok (Read a)) r n l = same refl refl refl
moved c (Ok (Write a b)) r n l = at_write c a b r n l
moved c (Ok (Pin p level)) r n l = at_pin c p level r n
moved c (Ok (Clock k)) r n l = clock_by c r k (eqb k 0) (eqb k 3) refl refl n
moved c (Ok (Polarity vertical level)) r n l = at_polarity c vertical level
moved c (Err n₁) r n l = same refl refl refl

-- ---- DDC2B and RESET stay

level_stays : (is level : Bool) → (is && (true && not level)) ≡ false → pick is level true ≡ true
level_stays true true h = refl
level_stays true false h = clash true refl h
level_stays false level h = refl

reset_stays : (c : Chip) (e : Decoded) → Runs c.core → ends c e ≡ false → (next c e).core.reset ≡ true
unfolding ends
reset_stays c e r n = (effect_of_counting c e).reset ∙ by_event e (neither (turns_now c e) (resets c e) (neither (stops c e) (turns_now c e || resets c e) (neither (starts c e) (stops c e || (turns_now c e || resets c e)) n).1).1).1
  where
    by_event : (f : Decoded) → resets c f ≡ false → level_after 28 f c.core.reset ≡ true
    by_event (Ok (Read a)) h = r.reset
    by_event (Ok (Write a b)) h = r.reset
    by_event (Ok (Pin p level)) h = rw r.reset (level_stays (eqb p 28) level (rw r.reset at h))
    by_event (Ok (Clock k)) h = r.reset
    by_event (Ok (Polarity vertical level)) h = r.reset
    by_event (Err k) h = r.reset

pub runs_on : (c : Chip) (e : Decoded) → Runs c.core → ends c e ≡ false → Runs (next c e).core
runs_on c e r n = by_parts (effect c e)
  where
    stays : ((not (bit 3 (next c e).core.bus.iists) && not (bit 0 (next c e).core.mdcon)) ≡ true) → Runs (next c e).core
    stays h =
        let bits = low_both (bit 3 (next c e).core.bus.iists) (bit 0 (next c e).core.mdcon) h in
        record { reset = reset_stays c e r n; enddc = bits.0; md = bits.1 }

    by_parts : Effect c e (next c e).core → Runs (next c e).core
    by_parts (over m t o) = clash (ends c e) m n
    by_parts (taken m t q s) = stays (s (rw (r.enddc, r.md)))
    by_parts (still m t k s) = stays (s (rw (r.enddc, r.md)))
