-- Texts as bytes, and what is told of them.
use Rattle.std.specs.Prelude.{ℕ, List, [], ◌∷◌, Option, Ok}
use Prim.Native.Char.{code}
use Prim.Native.String.{String, [] as empty, ◌∷◌ as ◌then◌}
use Rattle.firmware_event_lines.specs.Lines.{Meaning, event as event_line, line_means}
use Rattle.firmware_event_list.specs.Lists.{opened as opened_list, checked_on}
use Rattle.firmware_event_laws.specs.Tokens.{told_by}

-- a text as bytes
unfoldable pub codes : String → List ℕ
codes empty = []
codes (c then s) = code c ∷ codes s

-- what a line means, and the line told of a list
abbrev pub means : String → Meaning
means s = line_means (codes s)

abbrev pub told : String → Option ℕ
told s = told_by (checked_on (Ok opened_list) (codes s))

-- a line of a number and a word
abbrev pub event : ℕ → ℕ → Meaning
event n w = event_line (record { number = n; word = w })
