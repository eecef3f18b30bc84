-- A base clock sets flag R where the base timer steps from FF, the 64th watchdog clock clears all flags, and no other clock or polarity moves one.
-- Assumes nothing.
use mathlib.Core.Path.{◌≡◌, refl, sym, ◌∙◌}
use mathlib.Core.Bool.{Bool, true, false, not, ◌&&◌, ◌||◌, beq}
use Prim.Native.Nat.{ℕ, suc}
use native.Mathlib.Omega.{arith}
use borrow.Author.Tests.{eqb-true, ltb-true, ltb-false, lt-ltb, le-ltb}
use lib.Dec.{T, eqb, ltb}
use lib.Bits.{bit_or, or_zero_r}
use Rattle.bits.specs.Byte.{pick, bit}
use Rattle.bits.proofs.Finite.{beq_eq}
use Rattle.registers.specs.Names.{BTCON}
use Rattle.registers.specs.Table.{row_of, reset_value}
use Rattle.std.specs.Prelude.{Ok}
use Rattle.events.specs.declared.Event.TheVariants.{Clock, Polarity}
use Rattle.counters.specs.Count.{timer_overflows, watchdog_fires}
use Rattle.chip.specs.declared.Core.{Core}
use Rattle.chip.specs.declared.Chip.{Chip}
use Rattle.chip.specs.State.{reset_at, reset_core, register_at, with_watchdog, with_polarity}
use Rattle.chip_clocks.specs.Clocks.{period_clock, timer_runs, timer_step, timer_clock, watchdog_clock, clocked_as, clocked, polarity_found}
use Rattle.chip_events.specs.Outcome.{core_after, next}
use Rattle.chip_flag_laws.specs.Causes.{Source, place, flag, raises, clears}
use Rattle.chip_flag_laws.specs.Causes.Source.{SclFall, DataByte, AddressMatch, TimerOverflow, ExternalRise, VsyncRise}
use Rattle.chip_flag_laws.proofs.Bools.{always, at_six}
use Rattle.chip_flag_laws.proofs.Flags.{after, flag_in, never_polarity, set_bit, zero_bit}

-- not below the last value is above the one before it
last_by : (n last : ℕ) (below : Bool) → ltb n (suc last) ≡ below → not below ≡ ltb last n
last_by n last true e = sym (le-ltb last n (omega (arith, ltb-true n (suc last) e)))
last_by n last false e = sym (lt-ltb last n (omega (arith, ltb-false n (suc last) e)))

timer_last : (n : ℕ) → timer_overflows n ≡ ltb 0xfe n
unfolding timer_overflows
timer_last n = last_by n 0xfe (ltb n 0xff) refl

pub watchdog_last : (n : ℕ) → watchdog_fires n ≡ ltb 62 n
unfolding watchdog_fires
watchdog_last n = last_by n 62 (ltb n 63) refl

-- ---- base clocks

timer_irqx : (reset runs : Bool) (c : Core) → (pick reset (pick runs (timer_step c) c) c).irqx ≡ bit_or c.irqx (pick (reset && (runs && ltb 0xfe c.bt)) 0x04 0)
unfolding timer_step
timer_irqx true true c = rw (timer_last c.bt)
timer_irqx true false c = sym (or_zero_r c.irqx)
timer_irqx false runs c = sym (or_zero_r c.irqx)

-- it runs on clock k, by ENBT and TBS
abbrev runs_by : Bool → Bool → Bool → Bool → Bool
runs_by enbt tbs two one = pick enbt false (pick tbs two one)

-- the clock that TBS selects
selected : (tbs : Bool) (k : ℕ) → eqb k (pick tbs 2 1) ≡ pick tbs (eqb k 2) (eqb k 1)
selected true k = refl
selected false k = refl

module _ (c : Chip) (k : ℕ) where
  at_timer_levels : (f : Bool → Bool → Bool → Bool → Bool → Bool → Bool) →
      T (always (λ a. always (λ b. always (λ c. always (λ d. always (λ e. always (f a b c d e)))))))
      → T (f c.core.reset (bit 0 (register_at c.registers BTCON)) (bit 1 (register_at c.registers BTCON)) (eqb k 2) (eqb k 1) (ltb 0xfe c.core.bt))
  at_timer_levels f t = at_six f t c.core.reset (bit 0 (register_at c.registers BTCON)) (bit 1 (register_at c.registers BTCON)) (eqb k 2) (eqb k 1) (ltb 0xfe c.core.bt)

  timer_bit : (s : Source) → bit (place s) (pick (c.core.reset && (timer_runs (register_at c.registers BTCON) k && ltb 0xfe c.core.bt)) 0x04 0) ≡ raises s c (Ok (Clock k))
  unfolding bit raises timer_runs
  timer_bit SclFall = beq_eq _ _ (at_timer_levels (λ r e t two one o. beq (bit (place SclFall) (pick (r && (runs_by e t two one && o)) 0x04 0)) false) tt)
  timer_bit DataByte = beq_eq _ _ (at_timer_levels (λ r e t two one o. beq (bit (place DataByte) (pick (r && (runs_by e t two one && o)) 0x04 0)) false) tt)
  timer_bit AddressMatch = beq_eq _ _ (at_timer_levels (λ r e t two one o. beq (bit (place AddressMatch) (pick (r && (runs_by e t two one && o)) 0x04 0)) false) tt)
  timer_bit TimerOverflow =
      rw (selected (bit 1 (register_at c.registers BTCON)) k)
      (beq_eq _ _ (at_timer_levels (λ r e t two one o. beq (bit (place TimerOverflow) (pick (r && (runs_by e t two one && o)) 0x04 0)) (pick t two one && (r && (not e && o)))) tt))
  timer_bit ExternalRise = beq_eq _ _ (at_timer_levels (λ r e t two one o. beq (bit (place ExternalRise) (pick (r && (runs_by e t two one && o)) 0x04 0)) false) tt)
  timer_bit VsyncRise = beq_eq _ _ (at_timer_levels (λ r e t two one o. beq (bit (place VsyncRise) (pick (r && (runs_by e t two one && o)) 0x04 0)) false) tt)

  at_timer : (s : Source) → flag_in s (pick c.core.reset (timer_clock (register_at c.registers BTCON) c.core k) c.core) ≡ (raises s c (Ok (Clock k)) || flag s c)
  unfolding timer_clock
  at_timer s = rw (timer_irqx c.core.reset (timer_runs (register_at c.registers BTCON) k) c.core) (set_bit s c.core.irqx _ _ (timer_bit s))

-- ---- the other clocks

-- a clock that is no base clock
pub never_clock : (s : Source) (c : Chip) (k : ℕ) → eqb k 2 ≡ false → eqb k 1 ≡ false → raises s c (Ok (Clock k)) ≡ false
unfolding raises
never_clock SclFall c k two one = refl
never_clock DataByte c k two one = refl
never_clock AddressMatch c k two one = refl
never_clock TimerOverflow c k two one = rw (selected (bit 1 (register_at c.registers BTCON)) k, two, one) (neither (bit 1 (register_at c.registers BTCON)) _)
  where
    neither : (b x : Bool) → (pick b false false && x) ≡ false
    neither true x = refl
    neither false x = refl
never_clock ExternalRise c k two one = refl
never_clock VsyncRise c k two one = refl

period_by : (reset : Bool) (c : Core) → (pick reset (period_clock c) c).irqx ≡ c.irqx
unfolding period_clock
period_by true c = refl
period_by false c = refl

watchdog_by : (reset fires : Bool) (s : Source) (c : Core) (n : ℕ) →
    flag_in s (pick reset (pick fires (reset_core c) (with_watchdog c n)) c) ≡ (not (reset && fires) && flag_in s c)
unfolding reset_core reset_at reset_value row_of
watchdog_by true true s c n = zero_bit s
watchdog_by true false s c n = refl
watchdog_by false fires s c n = refl

-- ---- all clocks

clock_by : (s : Source) (c : Chip) (k : ℕ) (period watchdog : Bool) → eqb k 0 ≡ period → eqb k 3 ≡ watchdog → flag s (next c (Ok (Clock k))) ≡ after s c (Ok (Clock k))
unfolding next core_after clocked clocked_as clears watchdog_clock
clock_by s c k true watchdog e f = rw (eqb-true k 0 e, never_clock s c 0 refl refl, period_by c.core.reset c.core)
clock_by s c k false true e f =
    rw (eqb-true k 3 f)
    (watchdog_by c.core.reset (watchdog_fires c.core.watchdog) s c.core _ ∙ rw (never_clock s c 3 refl refl, watchdog_last c.core.watchdog))
clock_by s c k false false e f = rw (e, f) (at_timer c k s)

pub at_clock : (s : Source) (c : Chip) (k : ℕ) → flag s (next c (Ok (Clock k))) ≡ after s c (Ok (Clock k))
at_clock s c k = clock_by s c k _ _ refl refl

polarity_by : (reset : Bool) (c : Core) (n : ℕ) → (pick reset (with_polarity c n) c).irqx ≡ c.irqx
polarity_by true c n = refl
polarity_by false c n = refl

pub at_polarity : (s : Source) (c : Chip) (vertical level : Bool) → flag s (next c (Ok (Polarity vertical level))) ≡ after s c (Ok (Polarity vertical level))
unfolding next core_after polarity_found clears
at_polarity s c vertical level = rw (never_polarity s c vertical level, polarity_by c.core.reset c.core)
