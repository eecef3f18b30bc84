-- A reset is one of the whole chip: where it is told, array and core are both at their reset values.
-- Assumes nothing.
use mathlib.Core.Path.{◌≡◌, refl, sym}
use mathlib.Core.Bool.{Bool, true, false, not, ◌&&◌, true≢false}
use Prim.Native.Nat.{ℕ}
use lib.Dec.{eqb}
use borrow.Author.Tests.{eqb-true}
use Rattle.bits.proofs.Finite.{both}
use Rattle.std.specs.Prelude.{Ok, Err}
use Rattle.events.specs.Decoded.{Decoded}
use Rattle.events.specs.declared.Event.TheVariants.{Read, Write, Pin, Clock, Polarity}
use Rattle.counters.specs.Count.{watchdog_fires}
use Rattle.chip.specs.declared.Chip.{Chip}
use Rattle.chip.specs.State.{reset_at, reset_core, reset_chip}
use Rattle.chip_pins.specs.Pins.{pin_kind, pin_moved_as, pin_moved, reset_moved, on_reset}
use Rattle.chip_clocks.specs.Clocks.{clocked, clocked_as, watchdog_clock}
use Rattle.chip_events.specs.Outcome.{core_after, kept_after, was_reset, next}

pin_by : (c : Chip) (level reset : Bool) → c.core.reset ≡ reset → (reset && not level) ≡ true → next c (Ok (Pin 28 level)) ≡ reset_chip (next c (Ok (Pin 28 level)))
unfolding next core_after kept_after was_reset pin_moved pin_moved_as pin_kind reset_moved on_reset reset_core reset_at
pin_by c false true r h = rw r refl
pin_by c true true r h = absurd (true≢false (sym h))
pin_by c level false r h = absurd (true≢false (sym h))

clock_by : (c : Chip) (reset fires : Bool) → c.core.reset ≡ reset → watchdog_fires c.core.watchdog ≡ fires → (reset && fires) ≡ true
    → next c (Ok (Clock 3)) ≡ reset_chip (next c (Ok (Clock 3)))
unfolding next core_after kept_after was_reset clocked clocked_as watchdog_clock reset_core reset_at
clock_by c true true r f h = rw (r, f) refl
clock_by c true false r f h = absurd (true≢false (sym h))
clock_by c false fires r f h = absurd (true≢false (sym h))

pub reset_whole : (c : Chip) (e : Decoded) → was_reset c e ≡ true → next c e ≡ reset_chip (next c e)
unfolding was_reset
reset_whole c (Ok (Read a)) h = absurd (true≢false (sym h))
reset_whole c (Ok (Write a b)) h = absurd (true≢false (sym h))
reset_whole c (Ok (Pin p level)) h =
    let two = both (eqb p 28) (c.core.reset && not level) h in
    rw (eqb-true p 28 two.0) (pin_by c level c.core.reset refl two.1)
reset_whole c (Ok (Clock k)) h =
    let two = both c.core.reset (eqb k 3 && watchdog_fires c.core.watchdog) h in
    let last = both (eqb k 3) (watchdog_fires c.core.watchdog) two.1 in
    rw (eqb-true k 3 last.0) (clock_by c true true two.0 last.1 refl)
reset_whole c (Ok (Polarity vertical level)) h = absurd (true≢false (sym h))
reset_whole c (Err r) h = absurd (true≢false (sym h))
