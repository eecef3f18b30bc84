-- What a writing into lent places does to them.
use Rattle.std.specs.Prelude.{ℕ, ◌+◌, ◌-◌, Bool, true, false, ◌≡◌, List, [], ◌∷◌, ◌++◌, length, ltb}
use Rattle.std.proofs.lemmas.List.Edits.{sets}
use Rattle.bits.specs.Byte.{pick}
use Rattle.wave_write.specs.declared.Writer.{Writer}
use Rattle.wave_write.specs.declared.Watch.{Watch}
use Rattle.wave_write.specs.Lines.{text, moved, event_lines, begin_lines, end_lines}
use Rattle.wave_write.specs.Header.{header_text}

-- the bytes stand from a place on and the others are as they were; next: the place past them
pub record Wrote (room : List ℕ) (first : ℕ) (bytes : List ℕ) (left : List ℕ) (next : ℕ) : Type 0 where
  pub same : left ≡ sets room first bytes
  pub to : next ≡ first + length bytes

-- there are places for so many bytes from a place on
unfoldable pub fits : ℕ → ℕ → ℕ → Bool
fits places first size = pick (ltb places size) false (pick (ltb (places - size) first) false true)

-- the places that the lines of a word, those that begin and the one that ends need at most
abbrev pub event_room : ℕ
event_room = 151

abbrev pub begin_room : ℕ
begin_room = 753

abbrev pub end_room : ℕ
end_room = 22

-- where there is no room nothing is written, and the writer stays
unfoldable pub event_bytes : List ℕ → ℕ → Writer → ℕ → Watch → List ℕ
event_bytes room from w word watch = pick (fits (length room) from event_room) (text (event_lines w word watch)) []

unfoldable pub moved_by : List ℕ → ℕ → Writer → ℕ → Watch → Writer
moved_by room from w word watch = pick (fits (length room) from event_room) (moved w word watch) w

unfoldable pub begin_bytes : List ℕ → ℕ → Watch → List ℕ
begin_bytes room pins watch = pick (fits (length room) 0 begin_room) (header_text ++ (10 ∷ text (begin_lines pins watch))) []

unfoldable pub end_bytes : List ℕ → ℕ → Writer → List ℕ
end_bytes room from w = pick (fits (length room) from end_room) (text (end_lines w)) []
