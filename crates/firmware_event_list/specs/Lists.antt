-- A list of events as text, byte by byte: a newline, 10, ends a line, and so does the end of the text.
use Rattle.std.specs.Prelude.{ℕ, ◌+◌, Bool, true, false, not, List, [], ◌∷◌, None, Some, Result, Ok, Err, eqb, ltb}
use Rattle.bits.specs.Byte.{pick}
use Rattle.firmware_event_lines.specs.declared.Reader.{Reader}
use Rattle.firmware_event_lines.specs.Lines.{Meaning, nothing, line_start, next, meaning_of}
use Rattle.firmware_event_list.specs.declared.Checked.{Checked}
use Rattle.firmware_event_list.specs.declared.MalformedLine.{MalformedLine}
use Rattle.firmware_event_list.specs.declared.Found.{Found}

abbrev pub is_malformed : Meaning → Bool
is_malformed (Ok m) = false
is_malformed (Err e) = true

abbrev pub is_something : Meaning → Bool
is_something (Ok None) = false
is_something (Ok (Some e)) = true
is_something (Err e) = true

-- ---- every line checked

-- line numbers stop at 64 bits
unfoldable pub one_more : ℕ → ℕ
one_more n = pick (ltb n 18446744073709551615) (n + 1) n

abbrev pub checked : Reader → ℕ → Checked
checked r n = record { reader = r; line = n }

-- lines are counted from 1
abbrev pub opened : Checked
opened = checked line_start 1

-- the error of a malformed line: its reader, at its end, and its number
abbrev pub malformed_line : Checked → Result Checked MalformedLine
malformed_line c = Err (record { reader = c.reader; number = c.line })

-- a line that ends is malformed, or the next one begins
unfoldable pub line_ended : Checked → Result Checked MalformedLine
line_ended c = pick (is_malformed (meaning_of c.reader.line)) (malformed_line c) (Ok (checked line_start (one_more c.line)))

unfoldable pub checked_byte : Checked → ℕ → Result Checked MalformedLine
checked_byte c b = pick (eqb b 10) (line_ended c) (Ok (checked (next c.reader b) c.line))

-- what follows where no line is malformed yet
abbrev pub on_checked : Result Checked MalformedLine → (Checked → Result Checked MalformedLine) → Result Checked MalformedLine
on_checked (Ok c) k = k c
on_checked (Err e) k = Err e

-- the bytes up to the end of the first malformed line, where it is told
unfoldable pub checked_on : Result Checked MalformedLine → List ℕ → Result Checked MalformedLine
checked_on lines [] = lines
checked_on lines (b ∷ bs) = checked_on (on_checked lines (λ (c : Checked). checked_byte c b)) bs

-- at the end of the text: every line is well formed, the last one too
unfoldable pub ends_well : Result Checked MalformedLine → Bool
ends_well (Ok c) = not (is_malformed (meaning_of c.reader.line))
ends_well (Err e) = false

-- ---- event by event

abbrev pub found_as : Reader → ℕ → Meaning → Found
found_as r i m = record { reader = r; at = i; meaning = m }

-- whether a byte ends a line that means something
abbrev pub tells : Reader → ℕ → Bool
tells r b = pick (eqb b 10) (is_something (meaning_of r.line)) false

-- the reader behind a byte
abbrev pub behind : Reader → ℕ → Reader
behind r b = pick (eqb b 10) line_start (next r b)

-- from place i on, where the bytes begin: the first line that means something, and the place behind it
unfoldable pub found_on : Reader → ℕ → List ℕ → Found
found_on r i [] = found_as r i nothing
found_on r i (b ∷ bs) =
    pick (tells r b)
    (found_as line_start (i + 1) (meaning_of r.line))
    (found_on (behind r b) (i + 1) bs)
