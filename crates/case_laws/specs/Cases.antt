-- A case as a list: what its lines say, the words that it gives, and what its answers must be.
use Rattle.std.specs.Prelude.{Option, Some, None, Ok, Err, ℕ, zero, suc, Bool, true, false, ◌&&◌, List, [], ◌∷◌, ◌++◌, eqb, drop, replicate}
use Rattle.bits.specs.Byte.{pick}
use Rattle.case_lines.specs.declared.Reader.{Reader}
use Rattle.case_lines.specs.declared.Given.{Given}
use Rattle.case_lines.specs.Line.{Entry, line_start, next, line_end}
use Rattle.case_run.specs.Run.{meets}

-- what each line of a text says, within a line
unfoldable pub entries_from : Reader → List ℕ → List Entry
entries_from r [] = line_end r ∷ []
entries_from r (b ∷ rest) = pick (eqb b 10) (line_end r ∷ entries_from line_start rest) (entries_from (next r b) rest)

-- what each line of a text says
abbrev pub entries : List ℕ → List Entry
entries text = entries_from line_start text

-- the words that the lines give, each as often as its line says
unfoldable pub given : List Entry → List ℕ
given [] = []
given (Ok None ∷ rest) = given rest
given (Ok (Some g) ∷ rest) = replicate g.times g.word ++ given rest
given (Err bad ∷ rest) = given rest

-- the first answers, as many as the line gives words, are as the line says
unfoldable pub meet_all : ℕ → Option ℕ → List ℕ → Bool
meet_all zero expected answers = true
meet_all (suc n) expected [] = false
meet_all (suc n) expected (a ∷ answers) = meets expected a && meet_all n expected answers

-- every line is an event with or without its answer, or none, and the answers are as the lines say
unfoldable pub holds : List Entry → List ℕ → Bool
holds [] answers = true
holds (Ok None ∷ rest) answers = holds rest answers
holds (Ok (Some g) ∷ rest) answers = meet_all g.times g.expected answers && holds rest (drop g.times answers)
holds (Err bad ∷ rest) answers = false
