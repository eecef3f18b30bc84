-- A run in blocks of words of any length.
use Rattle.std.specs.Prelude.{ℕ, List, [], ◌∷◌, ◌++◌}
use Rattle.wave_write.specs.Lines.{Event, text, lines}
use Rattle.wave_run.specs.declared.Run.{Run}
use Rattle.wave_run.specs.Run.{events_of, ran}
use Rattle.wave_write.specs.declared.Watch.{Watch}

-- a word with what is watched after it
abbrev pub event : ℕ → Watch → Event
event word watch = record { word = word; watch = watch }

-- blocks one after the other
unfoldable pub joined : List (List ℕ) → List ℕ
joined [] = []
joined (b ∷ bs) = b ++ joined bs

-- what each adds to the dump, from where the one before it left the run
unfoldable pub blocks_text : Run → List (List ℕ) → List ℕ
blocks_text r [] = []
blocks_text r (b ∷ bs) = text (lines r.writer (events_of r.chip b)) ++ blocks_text (ran r b) bs
