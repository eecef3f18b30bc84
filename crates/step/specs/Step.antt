-- The step: the next chip and the answer to each event word (document 01, "Event words" and "Numbers given back").
use Rattle.std.specs.Prelude.{ℕ, List, false, Ok}
use Rattle.bits.specs.Byte.{pick}
use Rattle.events.specs.Decoded.{Decoded}
use Rattle.events.specs.declared.Event.TheVariants.{Pin, Clock}
use Rattle.events.specs.Pins.{HSYNCI}
use Rattle.events.specs.Clocks.{period}
use Rattle.events.specs.Word.{decode}
use Rattle.answers.specs.Answer.{answer_word}
use Rattle.registers.specs.Names.{IEX}
use Rattle.chip.specs.declared.Core.{Core}
use Rattle.chip.specs.declared.Chip.{Chip}
use Rattle.chip.specs.State.{register_at, requested, requests}
use Rattle.chip_well_formed.specs.WellFormed.{well_formed}
use Rattle.chip_events.specs.Outcome.{next, number_given, byte_given, watchdog_reset}
use Rattle.step.specs.declared.Stepped.{Stepped}
use Rattle.step.specs.declared.CoreStepped.{CoreStepped}
use Rattle.step.specs.declared.Common.{Common}
use Rattle.step.specs.declared.Common.TheVariants.{Hsynci, Period, Other}

-- the answer word of an event: requests are those after it
unfoldable pub answered : Chip → Decoded → ℕ
answered c e = answer_word (number_given c e) (watchdog_reset c e) (requests (next c e)) (byte_given c e)

-- the step without the test of the state
unfoldable pub advance : Chip → Decoded → Stepped
advance c e = record { chip = next c e; answer = answered c e }

-- a step's result without the array of stored registers
abbrev pub core_of : Stepped → CoreStepped
core_of s = record { core = s.chip.core; answer = s.answer }

-- what a word leaves that moves the core alone, and is answered with the request lines
abbrev pub core_moved : List ℕ → Core → CoreStepped
core_moved registers c = record { core = c; answer = answer_word 0 false (requested c.irqx (register_at registers IEX)) 0 }

-- the event that a common one is; any other is itself
abbrev pub common_event : Common → Decoded → Decoded
common_event (Hsynci level) e = Ok (Pin HSYNCI level)
common_event Period e = Ok (Clock period)
common_event Other e = e

-- the step, for every state and word: an ill formed state is told before anything else about the word
unfoldable pub step : Chip → ℕ → Stepped
step c word = pick (well_formed c) (advance c (decode word)) (record { chip = c; answer = 0x08000000 })
