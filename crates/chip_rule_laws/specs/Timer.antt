-- The base timer over a list of words (document 01, "Flags, timer, watchdog, reset").
use Rattle.std.specs.Prelude.{ℕ, ◌+◌, Bool, false, not, ◌&&◌, ◌||◌, List, [], ◌∷◌, eqb}
use Rattle.bits.specs.Byte.{pick, num, bit}
use Rattle.registers.specs.Names.{BT, BTCON, TBS, ENBT}
use Rattle.events.specs.Clocks as clock
use Rattle.events.specs.Decoded.{Decoded}
use Rattle.events.specs.Kinds.{on_write}
use Rattle.events.specs.Word.{decode}
use Rattle.chip.specs.declared.Chip.{Chip}
use Rattle.chip.specs.State.{register_at}
use Rattle.chip_events.specs.Outcome.{next}
use Rattle.chip_flag_laws.specs.Causes.{is_clock}
use Rattle.chip_count_laws.specs.Counting.{resets}

-- a base clock of the number that TBS selects comes while ENBT is 0 and RESET is high
unfoldable pub steps_timer : Chip → Decoded → Bool
steps_timer c e =
    is_clock (pick (bit TBS (register_at c.registers BTCON)) clock.base1 clock.base0) e && (c.core.reset && not (bit ENBT (register_at c.registers BTCON)))

-- BT is written, or the chip is reset
unfoldable pub sets_timer : Chip → Decoded → Bool
sets_timer c e = on_write false (λ a b. eqb a BT && c.core.reset) e || resets c e

-- such clocks of a list
abbrev pub timer_steps : Chip → List ℕ → ℕ
timer_steps c [] = 0
timer_steps c (w ∷ ws) = num (steps_timer c (decode w)) + timer_steps (next c (decode w)) ws
