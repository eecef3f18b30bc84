-- The outside level of a pin over a list of words (document 01, "Event words" and "Flags, timer, watchdog, reset").
use Rattle.std.specs.Prelude.{ℕ, Bool, List, [], ◌∷◌}
use Rattle.events.specs.Word.{decode}
use Rattle.chip_count_laws.specs.Counting.{level_after}

-- the level that the list puts last, else the first one
abbrev pub last_level : ℕ → List ℕ → Bool → Bool
last_level p [] old = old
last_level p (w ∷ ws) old = last_level p ws (level_after p (decode w) old)
