-- A dump in pieces: what begins it, a text for each block of events, and what ends it.
use Rattle.std.specs.Prelude.{ℕ, List, [], ◌∷◌, ◌++◌}
use Rattle.wave_write.specs.declared.Writer.{Writer}
use Rattle.wave_write.specs.declared.Watch.{Watch}
use Rattle.wave_write.specs.Lines.{Event, text, lines, after, begin_lines, end_lines}
use Rattle.wave_write.specs.Header.{header_text}

-- blocks one after the other
unfoldable pub joined : List (List Event) → List Event
joined [] = []
joined (b ∷ bs) = b ++ joined bs

-- each from where the one before it left the writer
unfoldable pub blocks_text : Writer → List (List Event) → List ℕ
blocks_text w [] = []
blocks_text w (b ∷ bs) = text (lines w b) ++ blocks_text (after w b) bs

abbrev pub begin_text : ℕ → Watch → List ℕ
begin_text pins watch = header_text ++ (10 ∷ text (begin_lines pins watch))

abbrev pub end_text : Writer → List ℕ
end_text w = text (end_lines w)
