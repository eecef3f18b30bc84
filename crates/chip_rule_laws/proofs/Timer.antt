-- The base timer: its count and the selected clocks since, modulo 256.
use mathlib.Core.Path.{◌≡◌, refl, sym, ap, ◌∙◌}
use mathlib.Core.Bool.{Bool, true, false, not, ◌&&◌, true≢false, and-false}
use mathlib.Core.List.{List, [], ◌∷◌}
use Prim.Native.Nat.{ℕ, ◌+◌, ◌%◌, ◌<◌}
use native.Mathlib.Omega.{arith}
use borrow.Author.Tests.{eqb-true, ltb-true, ltb-false, not-true}
use lib.Bits.{and_mask, and_zero_r, or_zero_l}
use lib.Dec.{eqb, ltb}
use Rattle.bits.specs.Byte.{pick, num, bit, merge}
use Rattle.bits.proofs.Level.{pick_by}
use Rattle.bits.proofs.Finite.{both, neither}
use Rattle.registers.specs.Names.{BT, BTCON}
use Rattle.registers.specs.Table.{table, row_of, write_mask, is_writable}
use Rattle.std.specs.Prelude.{Ok, Err}
use Rattle.events.specs.Decoded.{Decoded}
use Rattle.events.specs.declared.Event.TheVariants.{Read, Write, Pin, Clock, Polarity}
use Rattle.events.specs.Word.{decode}
use Rattle.bus.specs.declared.Mode.{Mode}
use Rattle.bus.specs.declared.Mode.TheVariants.{Off, Ddc1, Ddc2b}
use Rattle.bus.specs.declared.Edge.{Edge}
use Rattle.bus.specs.declared.Edge.TheVariants.{Flat, Rise, Fall}
use Rattle.bus.specs.Bus.{edge}
use Rattle.counters.specs.Count.{cycle_next, timer_next, watchdog_fires}
use Rattle.chip.specs.declared.Core.{Core}
use Rattle.chip.specs.declared.Chip.{Chip}
use Rattle.chip.specs.State.{register_at, with_reset, with_scl, with_sda}
use Rattle.chip_edges.specs.Edges.{on_scl, on_scl_ddc1, on_scl_ddc2b, scl_rise, scl_fall, leave_ddc1, scl_moved, on_sda, on_sda_ddc2b, started, stopped, sda_moved}
use Rattle.chip_pins.specs.declared.PinKind.{PinKind}
use Rattle.chip_pins.specs.Pins.{rises, port0_moved, port1_moved, port2_moved, p16_moved, hsync_moved, vsync_moved, vsync_rise, on_reset, reset_moved, pin_moved_as, pin_moved}
use Rattle.chip_pins.specs.Numbers.{Numbered, p16_pin, sda_pin, scl_pin, hsynci_pin, vsynci_pin, reset_pin, port0_pin, port1_pin, port2_pin, no_pin}
use Rattle.chip_pins.proofs.Numbers.{numbered}
use Rattle.chip_clocks.specs.Clocks.{period_clock, timer_runs, timer_step, timer_clock, watchdog_clock, clocked_as, clocked, polarity_found}
use Rattle.chip_events.specs.Outcome.{core_after, next}
use Rattle.chip_flag_laws.proofs.Clocks.{watchdog_last}
use Rattle.chip_write_laws.proofs.Fields.{by_write}
use Rattle.chip_count_laws.specs.Counting.{never, resets}
use Rattle.list_call.specs.Run.{advanced}
use Rattle.step.specs.Step.{advance}
use Rattle.chip_rule_laws.specs.Timer.{steps_timer, sets_timer, timer_steps}

-- ---- pins leave it, but for a reset

scl_bt : (m : Mode) (e : Edge) (c : Core) → (on_scl m e c).bt ≡ c.bt
unfolding on_scl on_scl_ddc1 on_scl_ddc2b scl_rise scl_fall leave_ddc1
scl_bt Off e c = refl
scl_bt Ddc1 Flat c = refl
scl_bt Ddc1 Rise c = refl
scl_bt Ddc1 Fall c = refl
scl_bt Ddc2b Flat c = refl
scl_bt Ddc2b Rise c = refl
scl_bt Ddc2b Fall c = refl

sda_bt : (m : Mode) (high : Bool) (e : Edge) (c : Core) → (on_sda m high e c).bt ≡ c.bt
unfolding on_sda on_sda_ddc2b started stopped
sda_bt Off high e c = refl
sda_bt Ddc1 high e c = refl
sda_bt Ddc2b high Flat c = refl
sda_bt Ddc2b true Rise c = refl
sda_bt Ddc2b false Rise c = refl
sda_bt Ddc2b true Fall c = refl
sda_bt Ddc2b false Fall c = refl

reset_bt : (old new : Bool) (c : Core) → (old && not new) ≡ false → (on_reset (edge old new) (with_reset c new)).bt ≡ c.bt
unfolding on_reset
reset_bt true true c h = refl
reset_bt true false c h = absurd (true≢false h)
reset_bt false true c h = refl
reset_bt false false c h = refl

module _ (c : Chip) (level : Bool) where
  pin_bt : {k : PinKind} {q : ℕ} → Numbered k q → resets c (Ok (Pin q level)) ≡ false → (pin_moved_as k c.core q level).bt ≡ c.core.bt
  unfolding pin_moved_as port0_moved port1_moved port2_moved p16_moved sda_moved scl_moved hsync_moved vsync_moved vsync_rise reset_moved
  pin_bt (port0_pin u high) h = refl
  pin_bt (port1_pin u low high) h = refl
  pin_bt (port2_pin u low high) h = refl
  pin_bt (no_pin u none) h = refl
  pin_bt p16_pin h = refl
  pin_bt sda_pin h = sda_bt _ _ _ (with_sda c.core level)
  pin_bt scl_pin h = scl_bt _ _ (with_scl c.core level)
  pin_bt hsynci_pin h = refl
  pin_bt vsynci_pin h = pick_by (λ (x : Core). x.bt ≡ c.core.bt) (rises c.core.reset c.core.pins.vsynci level) (λ _. refl) (λ _. refl)
  pin_bt reset_pin h = reset_bt c.core.reset level c.core h

-- ---- one event

and_true : (x : Bool) → (x && true) ≡ x
and_true true = refl
and_true false = refl

-- the timer runs by its own clock
runs_by : (k : ℕ) (stopped tbs : Bool) → pick stopped false (pick tbs (eqb k 2) (eqb k 1)) ≡ (eqb k (pick tbs 2 1) && not stopped)
runs_by k true tbs = sym (and-false (eqb k (pick tbs 2 1)))
runs_by k false true = sym (and_true (eqb k 2))
runs_by k false false = sym (and_true (eqb k 1))

runs_is : (btcon k : ℕ) → timer_runs btcon k ≡ (eqb k (pick (bit 1 btcon) 2 1) && not (bit 0 btcon))
unfolding timer_runs
runs_is btcon k = runs_by k (bit 0 btcon) (bit 1 btcon)

low_byte : (n : ℕ) → n < 256 → n % 256 ≡ n
low_byte n h = omega arith

-- one step more
stepped : (n : ℕ) → n < 256 → timer_next n ≡ (n + 1) % 256
unfolding timer_next cycle_next
stepped n h = pick_by (λ (x : ℕ). x ≡ (n + 1) % 256) (ltb n 255) (λ t. let l = ltb-true n 255 t in omega arith) (λ t. let l = ltb-false n 255 t in omega arith)

module _ (c : Chip) (small : c.core.bt < 256) where
  at_write : (a b : ℕ) → (eqb a BT && c.core.reset) ≡ false → (next c (Ok (Write a b))).core.bt ≡ c.core.bt
  at_write a b h =
      by_write (λ (x : Chip). x.core.bt ≡ c.core.bt) c a b
      (λ r _. pick_by (λ (x : ℕ). x ≡ c.core.bt) (eqb a BT) (λ t. absurd (true≢false (sym (rw (t, r) refl) ∙ h))) (λ _. refl))
      (λ _. refl)

  kept : c.core.bt ≡ (c.core.bt + 0) % 256
  kept = let e : (c.core.bt + 0) % 256 ≡ c.core.bt = omega arith in sym e

  timer_by : (runs : Bool) → (pick runs (timer_step c.core) c.core).bt ≡ (c.core.bt + num runs) % 256
  unfolding timer_step
  timer_by true = stepped c.core.bt small
  timer_by false = kept

  -- a clock of another number
  other : (k : ℕ) (tbs stopped : Bool) → eqb k 2 ≡ false → eqb k 1 ≡ false → c.core.bt ≡ (c.core.bt + num (eqb k (pick tbs 2 1) && not stopped)) % 256
  other k true stopped two one = rw two kept
  other k false stopped two one = rw one kept

  at_watchdog : (fires : Bool) → watchdog_fires c.core.watchdog ≡ fires → fires ≡ false → (watchdog_clock c.core).bt ≡ c.core.bt
  unfolding watchdog_clock
  at_watchdog fires w f = rw (w, f) refl

  clock_core : (k : ℕ) → c.core.reset ≡ true → (next c (Ok (Clock k))).core ≡ clocked_as (register_at c.registers BTCON) c.core k
  unfolding next core_after clocked
  clock_core k r = ap (λ (t : Bool). pick t (clocked_as (register_at c.registers BTCON) c.core k) c.core) r

  steps_high : (k : ℕ) → c.core.reset ≡ true → steps_timer c (Ok (Clock k)) ≡ (eqb k (pick (bit 1 (register_at c.registers BTCON)) 2 1) && not (bit 0 (register_at c.registers BTCON)))
  unfolding steps_timer
  steps_high k r = rw r refl

  clock_by : (k : ℕ) (zero three : Bool) → eqb k 0 ≡ zero → eqb k 3 ≡ three → (eqb k 3 && ltb 62 c.core.watchdog) ≡ false →
      (clocked_as (register_at c.registers BTCON) c.core k).bt
      ≡ (c.core.bt + num (eqb k (pick (bit 1 (register_at c.registers BTCON)) 2 1) && not (bit 0 (register_at c.registers BTCON)))) % 256
  unfolding clocked_as period_clock timer_clock
  clock_by k true three e f h = rw (eqb-true k 0 e) (other 0 (bit 1 (register_at c.registers BTCON)) (bit 0 (register_at c.registers BTCON)) refl refl)
  clock_by k false true e f h =
      rw (eqb-true k 3 f)
      (at_watchdog _ refl (watchdog_last c.core.watchdog ∙ rw f at h) ∙ other 3 (bit 1 (register_at c.registers BTCON)) (bit 0 (register_at c.registers BTCON)) refl refl)
  clock_by k false false e f h = rw (e, f, runs_is (register_at c.registers BTCON) k) (timer_by (eqb k (pick (bit 1 (register_at c.registers BTCON)) 2 1) && not (bit 0 (register_at c.registers BTCON))))

  low_by : (k : ℕ) → c.core.reset ≡ false → (next c (Ok (Clock k))).core.bt ≡ (c.core.bt + num (steps_timer c (Ok (Clock k)))) % 256
  unfolding next core_after clocked steps_timer
  low_by k r = rw (r, and-false (eqb k (pick (bit 1 (register_at c.registers BTCON)) 2 1))) kept

  at_clock : (k : ℕ) (reset : Bool) → c.core.reset ≡ reset → resets c (Ok (Clock k)) ≡ false → (next c (Ok (Clock k))).core.bt ≡ (c.core.bt + num (steps_timer c (Ok (Clock k)))) % 256
  at_clock k true r h =
      let quiet : (eqb k 3 && ltb 62 c.core.watchdog) ≡ false = rw r at h in
      rw (clock_core k r, steps_high k r) (clock_by k _ _ refl refl quiet)
  at_clock k false r h = low_by k r

bt_after : (c : Chip) (e : Decoded) → c.core.bt < 256 → sets_timer c e ≡ false → (next c e).core.bt ≡ (c.core.bt + num (steps_timer c e)) % 256
unfolding next core_after pin_moved polarity_found sets_timer steps_timer
bt_after c (Ok (Read a)) s h = kept c s
bt_after c (Ok (Write a b)) s h = at_write c s a b (neither _ false h).0 ∙ kept c s
bt_after c (Ok (Pin q level)) s h = pin_bt c level (numbered q) h ∙ kept c s
bt_after c (Ok (Clock k)) s h = at_clock c s k c.core.reset refl h
bt_after c (Ok (Polarity vertical level)) s h = pick_by (λ (x : Core). x.bt ≡ (c.core.bt + 0) % 256) c.core.reset (λ _. kept c s) (λ _. kept c s)
bt_after c (Err r) s h = kept c s

-- ---- a list

mod_add : (a b d : ℕ) → ((a + b) % 256 + d) % 256 ≡ (a + (b + d)) % 256
mod_add a b d = omega arith

mod_lt : (n : ℕ) → n % 256 < 256
mod_lt n = omega arith

pub timer_runs_lem : (c : Chip) (ws : List ℕ) → c.core.bt < 256 → never sets_timer c ws ≡ true → (advanced c ws).core.bt ≡ (c.core.bt + timer_steps c ws) % 256
unfolding advance
timer_runs_lem c [] s h = kept c s
timer_runs_lem c (w ∷ ws) s h =
    let k = both (not (sets_timer c (decode w))) (never sets_timer (next c (decode w)) ws) h in
    let e = bt_after c (decode w) s (not-true (sets_timer c (decode w)) k.0) in
    let n : ℕ = timer_steps (next c (decode w)) ws in
    timer_runs_lem (next c (decode w)) ws (rw e (mod_lt (c.core.bt + num (steps_timer c (decode w))))) k.1
    ∙ ap (λ (x : ℕ). (x + n) % 256) e ∙ mod_add c.core.bt (num (steps_timer c (decode w))) n

-- a write sets the count
pub timer_set : (c : Chip) (b : ℕ) → b < 256 → c.core.reset ≡ true → (next c (Ok (Write BT b))).core.bt ≡ b
unfolding is_writable row_of table write_mask merge
timer_set c b h r =
    by_write (λ (x : Chip). x.core.bt ≡ b) c BT b
    (λ _ _. rw (and_zero_r c.core.bt, or_zero_l, and_mask b 8) (low_byte b h))
    (λ q. absurd (true≢false (sym (rw r refl) ∙ q)))

-- so from a write on it is the byte and the clocks since, modulo 256
pub timer_since : (c : Chip) (b : ℕ) (ws : List ℕ) → b < 256 → c.core.reset ≡ true → never sets_timer (next c (Ok (Write BT b))) ws ≡ true →
    (advanced (next c (Ok (Write BT b))) ws).core.bt ≡ (b + timer_steps (next c (Ok (Write BT b))) ws) % 256
timer_since c b ws h r z =
    let x : Chip = next c (Ok (Write BT b)) in
    let e : x.core.bt ≡ b = timer_set c b h r in
    let l : x.core.bt < 256 = omega (arith, e, h) in
    timer_runs_lem x ws l z ∙ ap (λ (n : ℕ). (n + timer_steps x ws) % 256) e
