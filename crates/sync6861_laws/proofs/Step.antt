-- With RESET high the event of each call does to the chip's counters what the call does to the unit's.
use mathlib.Core.Path.{◌≡◌, refl, sym, ap, ◌∙◌}
use mathlib.Core.Bool.{Bool, true, false, not, ◌&&◌, true≢false}
use Prim.Native.Nat.{ℕ}
use native.Mathlib.Omega.{arith}
use Rattle.bits.specs.Byte.{pick, bit, with_bit}
use Rattle.bits.proofs.Bitwise.{bit_with_bit}
use Rattle.registers.specs.Names.{MDCON, CLRFLG, HSEL}
use Rattle.registers.specs.Table.{table, row_of, is_writable, updated}
use Rattle.std.specs.Prelude.{Ok}
use Rattle.events.specs.Pins.{HSYNCI, VSYNCI}
use Rattle.events.specs.declared.Event.TheVariants.{Write, Pin, Clock}
use Rattle.sync.specs.declared.Sync.{Sync}
use Rattle.sync.specs.Sync.{on_hsync, on_vsync, on_period, hsel_cleared}
use Rattle.chip.specs.declared.Chip.{Chip}
use Rattle.chip.specs.State.{hsel_of}
use Rattle.chip_ddc_writes.specs.DdcWrites.{sync_at_hsel}
use Rattle.chip_pins.specs.Pins.{rises, pin_kind, pin_moved_as, pin_moved, hsync_moved, vsync_level, vsync_moved, vsync_rise}
use Rattle.chip_clocks.specs.Clocks.{period_clock, clocked_as, clocked}
use Rattle.chip_events.specs.Outcome.{core_after, next}
use Rattle.chip_write_laws.proofs.Fields.{by_write}
use Rattle.chip_count_laws.proofs.Events.{hsel_written}
use Rattle.sync6862.specs.declared.Call.{Call}
use Rattle.sync6862.specs.declared.Call.TheVariants as call
use Rattle.sync6862_laws.specs.Base.{Base, base_step}
use Rattle.sync6861_laws.specs.Events.{counters_of, event_of}

-- counters of the same parts
same : {x y : Base} → x.hsynci ≡ y.hsynci → x.vsynci ≡ y.vsynci → x.hsel ≡ y.hsel → x.sync ≡ y.sync → x ≡ y
same h v s c = λ k. record { hsynci = h k; vsynci = v k; hsel = s k; sync = c k }

rise_order : (level reset old : Bool) → reset ≡ true → rises reset old level ≡ (level && not old)
rise_order true true true r = refl
rise_order true true false r = refl
rise_order false true true r = refl
rise_order false true false r = refl
rise_order level false old r = absurd (true≢false (sym r))

module _ (c : Chip) (r : c.core.reset ≡ true) where
  at_hsynci : (level : Bool) → counters_of (next c (Ok (Pin HSYNCI level))) ≡ base_step (counters_of c) (call.Hsynci level)
  unfolding next core_after pin_moved pin_moved_as pin_kind hsync_moved base_step
  at_hsynci level = same refl refl refl (ap (λ (t : Bool). pick t (on_hsync c.core.sync) c.core.sync) (rise_order level c.core.reset c.core.pins.hsynci r))

  vsynci_by : (rise level : Bool) → counters_of (record { registers = c.registers; core = pick rise (vsync_rise (vsync_level c.core level)) (vsync_level c.core level) })
      ≡ record { hsynci = c.core.pins.hsynci; vsynci = level; hsel = hsel_of c.core; sync = pick rise (on_vsync (hsel_of c.core) c.core.sync) c.core.sync }
  unfolding vsync_rise
  vsynci_by true level = refl
  vsynci_by false level = refl

  at_vsynci : (level : Bool) → counters_of (next c (Ok (Pin VSYNCI level))) ≡ base_step (counters_of c) (call.Vsynci level)
  unfolding next core_after pin_moved pin_moved_as pin_kind vsync_moved base_step
  at_vsynci level =
      vsynci_by (rises c.core.reset c.core.pins.vsynci level) level
      ∙ same refl refl refl (ap (λ (t : Bool). pick t (on_vsync (hsel_of c.core) c.core.sync) c.core.sync) (rise_order level c.core.reset c.core.pins.vsynci r))

  period_by : (reset : Bool) → counters_of (record { registers = c.registers; core = pick reset (period_clock c.core) c.core })
      ≡ record { hsynci = c.core.pins.hsynci; vsynci = c.core.pins.vsynci; hsel = hsel_of c.core; sync = pick reset (on_period (hsel_of c.core) c.core.sync) c.core.sync }
  unfolding period_clock
  period_by true = refl
  period_by false = refl

  at_clock : counters_of (next c (Ok (Clock 0))) ≡ base_step (counters_of c) call.Clock
  unfolding next core_after clocked clocked_as base_step
  at_clock = period_by c.core.reset ∙ same refl refl refl (ap (λ (t : Bool). pick t (on_period (hsel_of c.core) c.core.sync) c.core.sync) r)

  refuse : {A : Type 0} → (c.core.reset && true) ≡ false → A
  refuse q = absurd (true≢false (sym (rw r refl) ∙ q))

  hsel_by : (old new : Bool) (s : Sync) → sync_at_hsel old new s ≡ pick (old && not new) (hsel_cleared s) s
  unfolding sync_at_hsel
  hsel_by true true s = refl
  hsel_by true false s = refl
  hsel_by false new s = refl

  at_hsel : (new : Bool) → counters_of (next c (Ok (Write MDCON (with_bit c.core.mdcon HSEL new)))) ≡ base_step (counters_of c) (call.Hsel new)
  unfolding base_step is_writable row_of table
  at_hsel new =
      let b : ℕ = with_bit c.core.mdcon HSEL new in
      let put : bit HSEL (updated MDCON c.core.mdcon b) ≡ new = hsel_written c.core.mdcon b ∙ bit_with_bit 2 2 c.core.mdcon new (omega arith) (omega arith) in
      by_write (λ (x : Chip). counters_of x ≡ base_step (counters_of c) (call.Hsel new)) c MDCON b
      (λ _ _. same refl refl put (hsel_by (hsel_of c.core) (bit HSEL (updated MDCON c.core.mdcon b)) c.core.sync ∙ ap (λ (t : Bool). pick (hsel_of c.core && not t) (hsel_cleared c.core.sync) c.core.sync) put))
      refuse

  at_clear_h : counters_of (next c (Ok (Write CLRFLG 0x80))) ≡ base_step (counters_of c) call.ClearH
  unfolding base_step is_writable row_of table bit
  at_clear_h = by_write (λ (x : Chip). counters_of x ≡ base_step (counters_of c) call.ClearH) c CLRFLG 0x80 (λ _ _. refl) refuse

  at_clear_v : counters_of (next c (Ok (Write CLRFLG 0x40))) ≡ base_step (counters_of c) call.ClearV
  unfolding base_step is_writable row_of table bit
  at_clear_v = by_write (λ (x : Chip). counters_of x ≡ base_step (counters_of c) call.ClearV) c CLRFLG 0x40 (λ _ _. refl) refuse

  -- `sync6862_laws.runs_same` has the unit do the same, so that the unit for the NT6861 counts as the chip does, event by event
  pub step_same : (x : Call) → counters_of (next c (event_of c x)) ≡ base_step (counters_of c) x
  unfolding next core_after base_step
  step_same (call.Hsynci level) = at_hsynci level
  step_same (call.Vsynci level) = at_vsynci level
  step_same call.Clock = at_clock
  step_same (call.Enhsel new) = refl
  step_same (call.Hsel new) = at_hsel new
  step_same call.ClearH = at_clear_h
  step_same call.ClearV = at_clear_v
