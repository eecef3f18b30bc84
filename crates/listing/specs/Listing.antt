-- A listing run from a fresh chip: each word is given as often as its line says, and each answer is held to the expected one.
-- Reading stops at the first malformed line and at the first difference; nothing after it is run. A listing without a word agrees with
-- nothing, and is told from one that does.
use Rattle.std.specs.Prelude.{ℕ, zero, suc, ◌+◌, List, [], ◌∷◌, eqb, ltb}
use Rattle.bits.specs.Byte.{pick}
use Rattle.events.specs.Word.{decode}
use Rattle.chip.specs.State.{fresh}
use Rattle.step.specs.declared.Stepped.{Stepped}
use Rattle.step.specs.Step.{advance}
use Rattle.listing_lines.specs.declared.Reader.{Reader}
use Rattle.listing_lines.specs.declared.Found.{Found}
use Rattle.listing_lines.specs.declared.Found.TheVariants.{Within, Refused, Entry}
use Rattle.listing.specs.declared.Verdict.{Verdict}
use Rattle.listing.specs.declared.Verdict.TheVariants.{Agrees, Malformed, Differs, Empty}
use Rattle.listing.specs.declared.Progress.{Progress}
use Rattle.listing_lines.specs.Line.{line_start, next}

-- one more; the largest number of 64 bits stands
unfoldable pub one_more : ℕ → ℕ
one_more n = pick (ltb n 18446744073709551615) (n + 1) n

-- before the first byte: a fresh chip, line 1
unfoldable pub opened : Progress
opened = record { chip = fresh; reader = line_start; line = 1; words = 0; verdict = Agrees }

abbrev pub stopped : Progress → Verdict → Progress
stopped p v = record { chip = p.chip; reader = p.reader; line = p.line; words = p.words; verdict = v }

abbrev pub answered_as : Progress → Stepped → Progress
answered_as p s = record { chip = s.chip; reader = p.reader; line = p.line; words = one_more p.words; verdict = Agrees }

-- a word to the chip; where the answer is not the expected one, the chip and the count of words stay as they were before it
unfoldable pub given : Progress → ℕ → ℕ → Progress
given p word expected =
    pick (eqb (advance p.chip (decode word)).answer expected)
    (answered_as p (advance p.chip (decode word)))
    (stopped p (Differs word expected (advance p.chip (decode word)).answer))

-- the same unless reading has stopped
unfoldable pub given_at : Verdict → Progress → ℕ → ℕ → Progress
given_at Agrees p word expected = given p word expected
given_at Malformed p word expected = p
given_at (Differs w e a) p word expected = p
given_at Empty p word expected = p

unfoldable pub repeated : ℕ → Progress → ℕ → ℕ → Progress
repeated zero p word expected = p
repeated (suc n) p word expected = repeated n (given_at p.verdict p word expected) word expected

-- the next line
abbrev pub next_line : Progress → Progress
next_line p = record { chip = p.chip; reader = line_start; line = one_more p.line; words = p.words; verdict = p.verdict }

unfoldable pub line_end : Verdict → Progress → Progress
line_end Agrees p = next_line p
line_end Malformed p = p
line_end (Differs w e a) p = p
line_end Empty p = p

abbrev pub within : Progress → Reader → Progress
within p r = record { chip = p.chip; reader = r; line = p.line; words = p.words; verdict = p.verdict }

-- a whole entry
abbrev pub entered : Progress → ℕ → ℕ → ℕ → Progress
entered p times word expected = line_end (repeated times p word expected).verdict (repeated times p word expected)

-- what a byte found
unfoldable pub taken : Progress → ℕ → Found → Progress
taken p b (Within r) = pick (eqb b 10) (next_line p) (within p r)
taken p b Refused = stopped p Malformed
taken p b (Entry times word expected) = entered p times word expected

unfoldable pub byte_read : Verdict → Progress → ℕ → Progress
byte_read Agrees p b = taken p b (next p.reader b)
byte_read Malformed p b = p
byte_read (Differs w e a) p b = p
byte_read Empty p b = p

-- a part of the text
unfoldable pub read : Progress → List ℕ → Progress
read p [] = p
read p (b ∷ rest) = read (byte_read p.verdict p b) rest

-- a listing that has agreed so far and gave no word shows nothing: it is empty
unfoldable pub concluded : Verdict → Progress → Progress
concluded Agrees p = pick (eqb p.words 0) (stopped p Empty) p
concluded Malformed p = p
concluded (Differs w e a) p = p
concluded Empty p = p

-- the end of the text ends its last line
unfoldable pub closed : Progress → Progress
closed p = concluded (byte_read p.verdict p 10).verdict (byte_read p.verdict p 10)
