-- The dump of a run: each word to the chip, and what is watched of the chip after it to the dump.
use Rattle.std.specs.Prelude.{ℕ, ◌/◌, List, [], ◌∷◌, ltb, length}
use Rattle.bits.specs.Byte.{pick}
use Rattle.events.specs.Word.{decode}
use Rattle.chip.specs.declared.Chip.{Chip}
use Rattle.step.specs.Step.{advance}
use Rattle.list_call.specs.Run.{advanced}
use Rattle.wave_write.specs.Lines.{Event, text, lines, after, fresh}
use Rattle.wave_write.specs.Header.{dump}
use Rattle.wave_write.specs.Wrote.{event_room}
use Rattle.wave_watch.specs.Watched.{watch_of, pins_of}
use Rattle.wave_run.specs.declared.Run.{Run}

-- the events of a list of words from a chip: with each word what is watched of the chip after it, whatever the word, a refused one too
unfoldable pub events_of : Chip → List ℕ → List Event
events_of c [] = []
events_of c (w ∷ ws) = record { word = w; watch = watch_of (advance c (decode w)).chip } ∷ events_of (advance c (decode w)).chip ws

-- the dump of a run: first what the chip shows before the first word
unfoldable pub run_dump : Chip → List ℕ → List ℕ
run_dump c words = dump (pins_of c.core) (watch_of c) (events_of c words)

-- ---- a run in blocks

-- before the first word
unfoldable pub start : Chip → Run
start c = record { chip = c; writer = fresh (watch_of c) }

-- where the run stands after a list of words
unfoldable pub ran : Run → List ℕ → Run
ran r words = record { chip = advanced r.chip words; writer = after r.writer (events_of r.chip words) }

-- what a block of words adds to the dump; nothing where there are fewer than 151 places for each word
unfoldable pub block_bytes : List ℕ → Run → List ℕ → List ℕ
block_bytes room r words = pick (ltb (length room / event_room) (length words)) [] (text (lines r.writer (events_of r.chip words)))

-- and where the run stands then: nothing is done where nothing is written for lack of room
unfoldable pub block_after : List ℕ → Run → List ℕ → Run
block_after room r words = pick (ltb (length room / event_room) (length words)) r (ran r words)
