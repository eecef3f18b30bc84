-- The commonest events move the core alone: what the step over the event gives, in the terms of the core.
-- Assumes nothing.
use Prim.Native.Nat.{ℕ}
use mathlib.Core.Path.{◌≡◌, refl}
use mathlib.Core.Bool.{Bool, true, false, and-false}
use mathlib.Core.List.{List}
use Rattle.std.specs.Prelude.{Ok}
use Rattle.events.specs.declared.Event.TheVariants.{Pin, Clock}
use Rattle.registers.specs.Names.{BTCON}
use Rattle.chip.specs.declared.Core.{Core}
use Rattle.chip.specs.State.{chip_of, register_at}
use Rattle.chip_pins.specs.Pins.{pin_moved}
use Rattle.chip_clocks.specs.Clocks.{clocked}
use Rattle.chip_events.specs.Outcome.{core_after, watchdog_reset, was_reset, kept_after, next, number_given, byte_given}
use Rattle.step.specs.Step.{advance, answered, core_of, core_moved}

module _ (registers : List ℕ) (c : Core) where
  pub hsynci : (level : Bool)
      → (core_moved registers (pin_moved c 26 level) ≡ core_of (advance (chip_of registers c) (Ok (Pin 26 level)))) × (registers ≡ (advance (chip_of registers c) (Ok (Pin 26 level))).chip.registers)
  unfolding advance answered next core_after kept_after was_reset watchdog_reset number_given byte_given
  hsynci level = (refl, refl)

  pub period : (core_moved registers (clocked (register_at registers BTCON) c 0) ≡ core_of (advance (chip_of registers c) (Ok (Clock 0)))) × (registers ≡ (advance (chip_of registers c) (Ok (Clock 0))).chip.registers)
  unfolding advance answered next core_after kept_after was_reset watchdog_reset number_given byte_given
  period = (rw (and-false c.reset), rw (and-false c.reset))
