-- START is a START condition since it was last cleared, and STOP a STOP condition.
use mathlib.Core.Path.{◌≡◌, refl, sym, ap, ◌∙◌}
use mathlib.Core.Bool.{Bool, true, false, not, ◌&&◌, ◌||◌, true≢false, and-false}
use mathlib.Core.List.{List, [], ◌∷◌}
use Prim.Native.Nat.{ℕ, ◌<◌}
use native.Mathlib.Omega.{arith}
use borrow.Author.Tests.{eqb-true}
use lib.Dec.{eqb, ltb}
use Rattle.bits.specs.Byte.{pick, bit}
use Rattle.bits.proofs.Level.{pick_by}
use Rattle.bits.proofs.Bitwise.{bit_or_lem, bit_with_bit}
use Rattle.registers.specs.Names.{IISTS, START, STOP, BTCON}
use Rattle.registers.specs.Table.{table, row_of, reset_value}
use Rattle.std.specs.Prelude.{Ok, Err}
use Rattle.events.specs.Word.{decode}
use Rattle.events.specs.Decoded.{Decoded}
use Rattle.events.specs.declared.Event.TheVariants.{Read, Write, Pin, Clock, Polarity}
use Rattle.bus.specs.declared.Mode.{Mode}
use Rattle.bus.specs.declared.Mode.TheVariants.{Off, Ddc1, Ddc2b}
use Rattle.bus.specs.declared.Edge.{Edge}
use Rattle.bus.specs.declared.Edge.TheVariants.{Flat, Rise, Fall}
use Rattle.bus.specs.declared.Phase.{Phase}
use Rattle.bus.specs.declared.Phase.TheVariants.{Idle, Address, Addressed, Ignoring, Receive, Transmit, Held}
use Rattle.bus.specs.Bus.{edge, line, mode, pulls_sda, pulls_scl, sda_pulled, scl_pulled}
use Rattle.bus_ddc2b.specs.Ddc2b.{status_at_rise, start_status, stop_status}
use Rattle.chip.specs.declared.Bus.{Bus}
use Rattle.chip.specs.declared.Core.{Core}
use Rattle.chip.specs.declared.Chip.{Chip}
use Rattle.chip.specs.State.{mode_of, released, register_at, reset_at, reset_core, with_reset, with_scl, with_sda, with_watchdog}
use Rattle.chip_edges.specs.Edges.{active_mode, bus_at_rise, on_scl, on_scl_ddc1, on_scl_ddc2b, scl_rise, scl_fall, leave_ddc1, scl_moved, on_sda, on_sda_ddc2b, started, stopped, sda_moved, bus_at_vsync}
use Rattle.chip_pins.specs.declared.PinKind.{PinKind}
use Rattle.chip_pins.specs.Pins.{rises, port0_moved, port1_moved, port2_moved, p16_moved, hsync_moved, vsync_moved, vsync_rise, on_reset, reset_moved, pin_moved_as, pin_moved}
use Rattle.chip_pins.specs.Numbers.{Numbered, p16_pin, sda_pin, scl_pin, hsynci_pin, vsynci_pin, reset_pin, port0_pin, port1_pin, port2_pin, no_pin}
use Rattle.chip_pins.proofs.Numbers.{numbered}
use Rattle.chip_clocks.specs.Clocks.{period_clock, timer_runs, timer_step, timer_clock, watchdog_clock, clocked_as, clocked, polarity_found}
use Rattle.counters.specs.Count.{watchdog_next}
use Rattle.chip_events.specs.Outcome.{core_after, next}
use Rattle.step.specs.Step.{advance}
use Rattle.list_call.specs.Run.{advanced}
use Rattle.chip_flag_laws.specs.Causes.{in_ddc2b, scl_free}
use Rattle.chip_flag_laws.proofs.Clocks.{watchdog_last}
use Rattle.chip_write_laws.specs.Frame.{alters}
use Rattle.chip_write_laws.specs.Frame.Part.{Iists}
use Rattle.chip_write_laws.proofs.Fields.{by_write}
use Rattle.chip_write_laws.proofs.Frame.{frame}
use Rattle.bus_transfer_laws.specs.Transfers.{shows, kept_flag}
use Rattle.bus_transfer_laws.proofs.Status.{status_shown, start_written, stop_written}
use Rattle.bus_address_laws.specs.Addressed.{starts, stops, sda_free}
use Rattle.chip_observed_laws.specs.Levels.{level_of}
use Rattle.chip_rule_laws.proofs.Levels.{level_after_lem}
use Rattle.chip_rule_laws.specs.Status.{status_bit, clears_bit, seen_since, After}

and_true : (x : Bool) → x ≡ (x && true)
and_true true = refl
and_true false = refl

-- an event that is neither condition and clears neither bit
quiet : (c : Chip) (e : Decoded) (after : Core) → bit START after.bus.iists ≡ status_bit START c → bit STOP after.bus.iists ≡ status_bit STOP c →
    starts c e ≡ false → stops c e ≡ false → clears_bit START c e ≡ false → clears_bit STOP c e ≡ false → After c e after
quiet c e after a o s t k l =
    record {
      start = a ∙ rw (s, k) (and_true (status_bit START c));
      stop = o ∙ rw (t, l) (and_true (status_bit STOP c));
    }

-- a reset clears both
cleared : (c : Chip) (e : Decoded) (after : Core) → bit START after.bus.iists ≡ false → bit STOP after.bus.iists ≡ false →
    starts c e ≡ false → stops c e ≡ false → clears_bit START c e ≡ true → clears_bit STOP c e ≡ true → After c e after
cleared c e after a o s t k l =
    record {
      start = a ∙ rw (s, k, and-false (status_bit START c)) refl;
      stop = o ∙ rw (t, l, and-false (status_bit STOP c)) refl;
    }

-- ---- writes

written_bit : (x w : Bool) → (x && w) ≡ (x && not (not w || false))
written_bit x true = refl
written_bit x false = refl

module _ (c : Chip) (a b : ℕ) where
  reset_kept : (next c (Ok (Write IISTS b))).core.reset ≡ c.core.reset
  unfolding level_of
  reset_kept = level_after_lem 28 refl c (Ok (Write IISTS b))

  written : c.core.reset ≡ true → After c (Ok (Write IISTS b)) (next c (Ok (Write IISTS b))).core
  unfolding clears_bit bit
  written r =
      let x : Chip = next c (Ok (Write IISTS b)) in
      let high : x.core.reset ≡ true = reset_kept ∙ r in
      record {
        start = sym (status_shown x START high refl) ∙ start_written c b r ∙ ap (λ (t : Bool). kept_flag t (bit START b)) (status_shown c START r refl) ∙ rw r (written_bit (bit START c.core.bus.iists) (bit START b));
        stop = sym (status_shown x STOP high refl) ∙ stop_written c b r ∙ ap (λ (t : Bool). kept_flag t (bit STOP b)) (status_shown c STOP r refl) ∙ rw r (written_bit (bit STOP c.core.bus.iists) (bit STOP b));
      }

  low : c.core.reset ≡ false → After c (Ok (Write a b)) (next c (Ok (Write a b))).core
  unfolding clears_bit
  low r =
      by_write (λ (x : Chip). After c (Ok (Write a b)) x.core) c a b (λ h _. absurd (true≢false (sym h ∙ r)))
      (λ _. quiet c (Ok (Write a b)) c.core refl refl refl refl (rw (r, and-false (eqb a IISTS)) refl) (rw (r, and-false (eqb a IISTS)) refl))

  others : eqb a IISTS ≡ false → After c (Ok (Write a b)) (next c (Ok (Write a b))).core
  unfolding clears_bit alters
  others f = let k = frame c a b Iists f in quiet c (Ok (Write a b)) _ (ap (bit START) k) (ap (bit STOP) k) refl refl (rw f refl) (rw f refl)

  write_by : (found reset : Bool) → eqb a IISTS ≡ found → c.core.reset ≡ reset → After c (Ok (Write a b)) (next c (Ok (Write a b))).core
  write_by true true t r = rw (eqb-true a IISTS t) (written r)
  write_by true false t r = low r
  write_by false reset t r = others t

-- ---- pins

-- a rise of SCL leaves both bits, RXAK being another
rise_bit : (k : ℕ) → k < 8 → eqb k 1 ≡ false → (sda : Bool) (p : Phase) (status : ℕ) → bit k (status_at_rise sda p status) ≡ bit k status
unfolding status_at_rise
rise_bit k h n sda Idle status = refl
rise_bit k h n sda (Address count bits) status = refl
rise_bit k h n sda (Addressed m bits ninth) status = refl
rise_bit k h n sda Ignoring status = refl
rise_bit k h n sda (Receive m count bits) status = refl
rise_bit k h n sda (Transmit m count byte) status =
    pick_by (λ (x : ℕ). bit k x ≡ bit k status) (eqb count 9) (λ _. bit_with_bit k 1 status sda h (omega arith) ∙ rw n refl) (λ _. refl)
rise_bit k h n sda (Held m clocks) status = refl

scl_bit : (k : ℕ) → k < 8 → eqb k 1 ≡ false → (m : Mode) (e : Edge) (c : Core) → bit k (on_scl m e c).bus.iists ≡ bit k c.bus.iists
unfolding on_scl on_scl_ddc1 on_scl_ddc2b scl_rise scl_fall leave_ddc1 bus_at_rise released
scl_bit k h n Off e c = refl
scl_bit k h n Ddc1 Flat c = refl
scl_bit k h n Ddc1 Rise c = refl
scl_bit k h n Ddc1 Fall c = refl
scl_bit k h n Ddc2b Flat c = refl
scl_bit k h n Ddc2b Rise c = rise_bit k h n _ c.bus.phase c.bus.iists
scl_bit k h n Ddc2b Fall c = refl

vsync_iists : (m : Mode) (b : Bus) → (bus_at_vsync m b).iists ≡ b.iists
unfolding bus_at_vsync
vsync_iists Off b = refl
vsync_iists Ddc1 b = refl
vsync_iists Ddc2b b = refl

-- START and STOP put their bit and leave the other
or_true : (x : Bool) → (x || true) ≡ true
or_true true = refl
or_true false = refl

or_false : (x : Bool) → (x || false) ≡ x
or_false true = refl
or_false false = refl

start_bits : (status : ℕ) → (bit START (start_status status) ≡ true) × (bit STOP (start_status status) ≡ bit STOP status)
unfolding bit
start_bits status = (bit_or_lem 5 status 32 ∙ or_true (bit 5 status), bit_or_lem 4 status 32 ∙ or_false (bit 4 status))

stop_bits : (status : ℕ) → (bit STOP (stop_status status) ≡ true) × (bit START (stop_status status) ≡ bit START status)
unfolding bit
stop_bits status = (bit_or_lem 4 status 16 ∙ or_true (bit 4 status), bit_or_lem 5 status 16 ∙ or_false (bit 5 status))

-- an edge of the SDA line in DDC2B, by what the chip pulls and the outside levels
abbrev falls : Bool → Bool → Bool → Bool → Bool → Bool
falls sda_pulled scl_pulled scl old new = not new && ((old && not sda_pulled) && (scl && not scl_pulled))

abbrev rises_up : Bool → Bool → Bool → Bool → Bool → Bool
rises_up sda_pulled scl_pulled scl old new = new && ((not old && not sda_pulled) && (scl && not scl_pulled))

record Edged (c after : Core) (sda_pulled scl_pulled scl old new : Bool) : Type 0 where
  pub start : bit START after.bus.iists ≡ (falls sda_pulled scl_pulled scl old new || bit START c.bus.iists)
  pub stop : bit STOP after.bus.iists ≡ (rises_up sda_pulled scl_pulled scl old new || bit STOP c.bus.iists)

no_line : (x y : Bool) → ((x && false) && y) ≡ false
no_line true y = refl
no_line false y = refl

sda_edge_lem : (c : Core) (sda_pulled scl_pulled scl old new : Bool) → Edged c (on_sda_ddc2b (line scl_pulled scl) (edge (line sda_pulled old) (line sda_pulled new)) c) sda_pulled scl_pulled scl old new
unfolding on_sda_ddc2b started stopped
sda_edge_lem c true scl_pulled scl old new =
    record {
      start = rw (no_line old (scl && not scl_pulled), and-false (not new)) refl;
      stop = rw (no_line (not old) (scl && not scl_pulled), and-false new) refl;
    }
sda_edge_lem c false scl_pulled scl true true = record { start = refl; stop = refl }
sda_edge_lem c false scl_pulled scl false false = record { start = refl; stop = refl }
sda_edge_lem c false true scl true false = record { start = rw (and-false scl) refl; stop = refl }
sda_edge_lem c false true scl false true = record { start = refl; stop = rw (and-false scl) refl }
sda_edge_lem c false false true true false = record { start = (start_bits c.bus.iists).0; stop = (start_bits c.bus.iists).1 }
sda_edge_lem c false false true false true = record { start = (stop_bits c.bus.iists).1; stop = (stop_bits c.bus.iists).0 }
sda_edge_lem c false false false true false = record { start = refl; stop = refl }
sda_edge_lem c false false false false true = record { start = refl; stop = refl }

or_kept : (x y : Bool) → (x || y) ≡ (x || (y && true))
or_kept true y = refl
or_kept false y = and_true y

module _ (c : Chip) (level : Bool) where
  -- not in DDC2B, or with RESET low, SDA moves nothing
  unseen : sda_moved c.core level ≡ with_sda c.core level → (c.core.reset && in_ddc2b c) ≡ false → After c (Ok (Pin 24 level)) (sda_moved c.core level)
  unfolding clears_bit
  unseen same off =
      let a = ap (λ (x : Core). bit START x.bus.iists) same in
      let o = ap (λ (x : Core). bit STOP x.bus.iists) same in
      quiet c (Ok (Pin 24 level)) (sda_moved c.core level) a o (never (not level) c.core.reset (c.core.sda && sda_free c) (in_ddc2b c) (c.core.scl && scl_free c) off)
      (never level c.core.reset (not c.core.sda && sda_free c) (in_ddc2b c) (c.core.scl && scl_free c) off) refl refl
    where
      never : (x r y d z : Bool) → (r && d) ≡ false → (x && (r && (y && (d && z)))) ≡ false
      never true true true d z h = ap (λ (t : Bool). t && z) h
      never true true false d z h = refl
      never true false y d z h = refl
      never false r y d z h = refl

  seen : c.core.reset ≡ true → bit 3 c.core.bus.iists ≡ false → bit 0 c.core.mdcon ≡ false →
      sda_moved c.core level ≡ on_sda_ddc2b (line (pulls_scl c.core.bus.phase) c.core.scl) (edge (line (pulls_sda c.core.bus.phase) c.core.sda) (line (pulls_sda c.core.bus.phase) level)) (with_sda c.core level)
  unfolding sda_moved on_sda scl_pulled sda_pulled mode
  seen r e m =
      let on : active_mode c.core ≡ Ddc2b = rw (r, e, m) refl in
      rw on refl

  at_ddc2b : c.core.reset ≡ true → bit 3 c.core.bus.iists ≡ false → bit 0 c.core.mdcon ≡ false → After c (Ok (Pin 24 level)) (sda_moved c.core level)
  unfolding clears_bit
  at_ddc2b r e m =
      let g = sda_edge_lem (with_sda c.core level) (pulls_sda c.core.bus.phase) (pulls_scl c.core.bus.phase) c.core.scl c.core.sda level in
      let s = seen r e m in
      record {
        start = ap (λ (x : Core). bit START x.bus.iists) s ∙ g.start ∙ or_kept (falls (pulls_sda c.core.bus.phase) (pulls_scl c.core.bus.phase) c.core.scl c.core.sda level) (bit START c.core.bus.iists) ∙ ap (λ (t : Bool). t || (bit START c.core.bus.iists && true)) (sym (start_is r e m));
        stop = ap (λ (x : Core). bit STOP x.bus.iists) s ∙ g.stop ∙ or_kept (rises_up (pulls_sda c.core.bus.phase) (pulls_scl c.core.bus.phase) c.core.scl c.core.sda level) (bit STOP c.core.bus.iists) ∙ ap (λ (t : Bool). t || (bit STOP c.core.bus.iists && true)) (sym (stop_is r e m));
      }
    where
      start_is : c.core.reset ≡ true → bit 3 c.core.bus.iists ≡ false → bit 0 c.core.mdcon ≡ false →
          starts c (Ok (Pin 24 level)) ≡ falls (pulls_sda c.core.bus.phase) (pulls_scl c.core.bus.phase) c.core.scl c.core.sda level
      start_is r e m = rw (r, e, m) refl

      stop_is : c.core.reset ≡ true → bit 3 c.core.bus.iists ≡ false → bit 0 c.core.mdcon ≡ false →
          stops c (Ok (Pin 24 level)) ≡ rises_up (pulls_sda c.core.bus.phase) (pulls_scl c.core.bus.phase) c.core.scl c.core.sda level
      stop_is r e m = rw (r, e, m) refl

  not_seen : (r e m : Bool) → c.core.reset ≡ r → bit 3 c.core.bus.iists ≡ e → bit 0 c.core.mdcon ≡ m → (r && (not e && not m)) ≡ false → sda_moved c.core level ≡ with_sda c.core level
  unfolding sda_moved on_sda mode
  not_seen false e m x y z h = let off : active_mode c.core ≡ Off = rw x refl in rw off refl
  not_seen true true m x y z h = let off : active_mode c.core ≡ Off = rw (x, y) refl in rw off refl
  not_seen true false true x y z h = let one : active_mode c.core ≡ Ddc1 = rw (x, y, z) refl in rw one refl
  not_seen true false false x y z h = absurd (true≢false h)

  at_sda : (r e m : Bool) → c.core.reset ≡ r → bit 3 c.core.bus.iists ≡ e → bit 0 c.core.mdcon ≡ m → After c (Ok (Pin 24 level)) (sda_moved c.core level)
  at_sda false e m x y z = unseen (not_seen false e m x y z refl) (rw x refl)
  at_sda true true m x y z = unseen (not_seen true true m x y z refl) (rw (x, y) refl)
  at_sda true false true x y z = unseen (not_seen true false true x y z refl) (rw (x, y, z) refl)
  at_sda true false false x y z = at_ddc2b x y z

  -- a pin that is neither SDA nor RESET
  plain : (p : ℕ) (after : Core) → eqb p 24 ≡ false → eqb p 28 ≡ false → bit START after.bus.iists ≡ status_bit START c → bit STOP after.bus.iists ≡ status_bit STOP c → After c (Ok (Pin p level)) after
  unfolding clears_bit
  plain p after s r a o = quiet c (Ok (Pin p level)) after a o (rw s refl) (rw s refl) (rw r refl) (rw r refl)

  reset_by : (old : Bool) → c.core.reset ≡ old → (new : Bool) → level ≡ new → After c (Ok (Pin 28 level)) (on_reset (edge old new) (with_reset c.core new))
  unfolding on_reset reset_core reset_at reset_value row_of table clears_bit bit
  reset_by true r true l = quiet c (Ok (Pin 28 level)) _ refl refl refl refl (rw (r, l) refl) (rw (r, l) refl)
  reset_by true r false l = cleared c (Ok (Pin 28 level)) _ refl refl refl refl (rw (r, l) refl) (rw (r, l) refl)
  reset_by false r true l = quiet c (Ok (Pin 28 level)) _ refl refl refl refl (rw r refl) (rw r refl)
  reset_by false r false l = quiet c (Ok (Pin 28 level)) _ refl refl refl refl (rw r refl) (rw r refl)

  at_kind_lem : {k : PinKind} {p : ℕ} → Numbered k p → After c (Ok (Pin p level)) (pin_moved_as k c.core p level)
  unfolding pin_moved_as port0_moved port1_moved port2_moved p16_moved scl_moved hsync_moved vsync_moved vsync_rise reset_moved
  at_kind_lem {p = p} (port0_pin u high) = plain p _ u.sda u.reset refl refl
  at_kind_lem {p = p} (port1_pin u low high) = plain p _ u.sda u.reset refl refl
  at_kind_lem {p = p} (port2_pin u low high) = plain p _ u.sda u.reset refl refl
  at_kind_lem {p = p} (no_pin u none) = plain p _ u.sda u.reset refl refl
  at_kind_lem p16_pin = plain 14 _ refl refl refl refl
  at_kind_lem sda_pin = at_sda _ _ _ refl refl refl
  at_kind_lem scl_pin = plain 25 _ refl refl (scl_bit 5 (omega arith) refl _ _ (with_scl c.core level)) (scl_bit 4 (omega arith) refl _ _ (with_scl c.core level))
  at_kind_lem hsynci_pin = plain 26 _ refl refl refl refl
  at_kind_lem vsynci_pin =
      let k = vsync_iists (mode_of c.core) c.core.bus in
      pick_by (After c (Ok (Pin 27 level))) (rises c.core.reset c.core.pins.vsynci level)
      (λ _. plain 27 _ refl refl (ap (bit START) k) (ap (bit STOP) k))
      (λ _. plain 27 _ refl refl refl refl)
  at_kind_lem reset_pin = reset_by c.core.reset refl level refl

-- ---- clocks

module _ (c : Chip) where
  watchdog_by : (reset fires : Bool) → c.core.reset ≡ reset → ltb 62 c.core.watchdog ≡ fires →
      After c (Ok (Clock 3)) (pick reset (pick fires (reset_core c.core) (with_watchdog c.core (watchdog_next c.core.watchdog))) c.core)
  unfolding reset_core reset_at reset_value row_of table clears_bit bit
  watchdog_by true true r f = cleared c (Ok (Clock 3)) _ refl refl refl refl (rw (r, f) refl) (rw (r, f) refl)
  watchdog_by true false r f = quiet c (Ok (Clock 3)) _ refl refl refl refl (rw (r, f) refl) (rw (r, f) refl)
  watchdog_by false fires r f = quiet c (Ok (Clock 3)) _ refl refl refl refl (rw r refl) (rw r refl)

  at_watchdog : After c (Ok (Clock 3)) (next c (Ok (Clock 3))).core
  unfolding next core_after clocked clocked_as watchdog_clock
  at_watchdog = rw (watchdog_last c.core.watchdog) (watchdog_by c.core.reset (ltb 62 c.core.watchdog) refl refl)

  other : (k : ℕ) → eqb k 3 ≡ false → After c (Ok (Clock k)) (next c (Ok (Clock k))).core
  unfolding next core_after clocked clocked_as period_clock timer_clock timer_step clears_bit
  other k f =
      let P : Core → Type 0 = λ (x : Core). x.bus.iists ≡ c.core.bus.iists in
      let same : P (pick c.core.reset (pick (eqb k 0) (period_clock c.core) (pick (eqb k 3) (watchdog_clock c.core) (timer_clock (register_at c.registers BTCON) c.core k))) c.core) =
      rw f (pick_by P c.core.reset (λ _. pick_by P (eqb k 0) (λ _. refl) (λ _. pick_by P (timer_runs (register_at c.registers BTCON) k) (λ _. refl) (λ _. refl))) (λ _. refl)) in
      quiet c (Ok (Clock k)) _ (ap (bit START) same) (ap (bit STOP) same) refl refl (rw f refl) (rw f refl)

  clock_by : (k : ℕ) (three : Bool) → eqb k 3 ≡ three → After c (Ok (Clock k)) (next c (Ok (Clock k))).core
  clock_by k true f = rw (eqb-true k 3 f) at_watchdog
  clock_by k false f = other k f

-- ---- every event, and lists

pub status_after : (c : Chip) (e : Decoded) → After c e (next c e).core
unfolding next core_after pin_moved polarity_found clears_bit
status_after c (Ok (Read a)) = quiet c (Ok (Read a)) _ refl refl refl refl refl refl
status_after c (Ok (Write a b)) = write_by c a b _ _ refl refl
status_after c (Ok (Pin p level)) = at_kind_lem c level (numbered p)
status_after c (Ok (Clock k)) = clock_by c k _ refl
status_after c (Ok (Polarity vertical level)) = pick_by (After c (Ok (Polarity vertical level))) c.core.reset (λ _. quiet c (Ok (Polarity vertical level)) _ refl refl refl refl refl refl) (λ _. quiet c (Ok (Polarity vertical level)) _ refl refl refl refl refl refl)
status_after c (Err r) = quiet c (Err r) _ refl refl refl refl refl refl

-- after a list START is set where a START condition came since it was last cleared, or it was set and has not been cleared
pub start_seen : (c : Chip) (ws : List ℕ) → status_bit START (advanced c ws) ≡ seen_since starts START c ws (status_bit START c)
unfolding advance
start_seen c [] = refl
start_seen c (w ∷ ws) = start_seen (next c (decode w)) ws ∙ ap (seen_since starts START (next c (decode w)) ws) (status_after c (decode w)).start

pub stop_seen : (c : Chip) (ws : List ℕ) → status_bit STOP (advanced c ws) ≡ seen_since stops STOP c ws (status_bit STOP c)
unfolding advance
stop_seen c [] = refl
stop_seen c (w ∷ ws) = stop_seen (next c (decode w)) ws ∙ ap (seen_since stops STOP (next c (decode w)) ws) (status_after c (decode w)).stop

-- and a read shows them
pub start_shown : (c : Chip) → c.core.reset ≡ true → shows IISTS START c ≡ status_bit START c
unfolding bit
start_shown c r = status_shown c START r refl

pub stop_shown : (c : Chip) → c.core.reset ≡ true → shows IISTS STOP c ≡ status_bit STOP c
unfolding bit
stop_shown c r = status_shown c STOP r refl
