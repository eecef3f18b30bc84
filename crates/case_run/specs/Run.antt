-- A case run from a fresh chip: each event is given as often as its line says, and its answer is held to the expected one, where one is
-- given. Reading stops at the first malformed line and at the first difference; nothing after it is run. A case without an event shows
-- nothing, and is told from one that agrees.
use Rattle.std.specs.Prelude.{Option, Some, None, Result, Ok, Err, ℕ, zero, suc, Bool, true, false, List, [], ◌∷◌, eqb}
use Rattle.bits.specs.Byte.{pick}
use Rattle.events.specs.Word.{decode}
use Rattle.chip.specs.State.{fresh}
use Rattle.step.specs.declared.Stepped.{Stepped}
use Rattle.step.specs.Step.{advance}
use Rattle.line_tokens.specs.Scan.{one_more}
use Rattle.case_lines.specs.declared.Reader.{Reader}
use Rattle.case_lines.specs.declared.Given.{Given}
use Rattle.case_lines.specs.Line.{Entry, line_start, next, line_end}
use Rattle.case_run.specs.declared.Failure.{Failure}
use Rattle.case_run.specs.declared.Failure.TheVariants.{Malformed, Differs, Empty}
use Rattle.case_run.specs.declared.Progress.{Progress}

-- reading goes on: no failure so far
unfoldable pub goes : Option Failure → Bool
goes None = true
goes (Some f) = false

-- before the first byte: a fresh chip, line 1
unfoldable pub opened : Progress
opened = record { chip = fresh; reader = line_start; line = 1; words = 0; failure = None }

abbrev pub stopped : Progress → Failure → Progress
stopped p f = record { chip = p.chip; reader = p.reader; line = p.line; words = p.words; failure = Some f }

-- ---- events

-- an answer that is not looked at, or is the expected one
unfoldable pub meets : Option ℕ → ℕ → Bool
meets None answer = true
meets (Some expected) answer = eqb answer expected

-- an answer that is another than expected
abbrev pub differs : ℕ → Option ℕ → ℕ → Option Failure
differs word None answer = None
differs word (Some expected) answer = pick (eqb answer expected) None (Some (Differs word expected answer))

abbrev pub answered_as : Progress → Stepped → Progress
answered_as p s = record { chip = s.chip; reader = p.reader; line = p.line; words = one_more p.words; failure = None }

abbrev pub given_by : Progress → Stepped → Option Failure → Progress
given_by p s None = answered_as p s
given_by p s (Some f) = stopped p f

-- a word to the chip; where the answer is not the expected one, the chip and the count of words stay as they were before it
unfoldable pub given : Progress → ℕ → Option ℕ → Progress
given p word expected = given_by p (advance p.chip (decode word)) (differs word expected (advance p.chip (decode word)).answer)

-- the same unless reading has stopped
unfoldable pub given_at : Progress → ℕ → Option ℕ → Progress
given_at p word expected = pick (goes p.failure) (given p word expected) p

unfoldable pub repeated : ℕ → Progress → ℕ → Option ℕ → Progress
repeated zero p word expected = p
repeated (suc n) p word expected = repeated n (given_at p word expected) word expected

-- ---- lines

abbrev pub next_line : Progress → Progress
next_line p = record { chip = p.chip; reader = line_start; line = one_more p.line; words = p.words; failure = p.failure }

-- after the events of a line
unfoldable pub line_done : Progress → Progress
line_done p = pick (goes p.failure) (next_line p) p

-- what a line says
unfoldable pub entered : Progress → Entry → Progress
entered p (Ok None) = next_line p
entered p (Ok (Some g)) = line_done (repeated g.times p g.word g.expected)
entered p (Err bad) = stopped p (Malformed bad)

abbrev pub within : Progress → Reader → Progress
within p r = record { chip = p.chip; reader = r; line = p.line; words = p.words; failure = p.failure }

-- ---- the text

unfoldable pub byte_taken : Progress → ℕ → Progress
byte_taken p b = pick (eqb b 10) (entered p (line_end p.reader)) (within p (next p.reader b))

-- a byte, unless reading has stopped
unfoldable pub byte_read : Progress → ℕ → Progress
byte_read p b = pick (goes p.failure) (byte_taken p b) p

-- a part of the text
unfoldable pub read : Progress → List ℕ → Progress
read p [] = p
read p (b ∷ rest) = read (byte_read p b) rest

-- a case that has agreed so far and gave no word shows nothing: it is empty
unfoldable pub concluded : Progress → Progress
concluded p = pick (goes p.failure) (pick (eqb p.words 0) (stopped p Empty) p) p

-- the end of the text ends its last line
unfoldable pub closed : Progress → Progress
closed p = concluded (byte_read p 10)
