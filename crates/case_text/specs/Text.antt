-- A word with its answer as a line of a listing: the event, `=>`, and the answer, each in its one form.
use Rattle.std.specs.Prelude.{ℕ, List, [], ◌∷◌, ◌++◌, get_or}
use Rattle.line_tokens.specs.Written.{line_of}
use Rattle.event_text_write.specs.Event.{event_tokens}
use Rattle.answer_text.specs.Answer.{answer_tokens}
use Rattle.case_lines.specs.Line.{is_read}

-- the sign between an event and its answer
abbrev pub ARROW : ℕ
ARROW = 0x3D3E

-- the sixteen tokens of a line, 0 for none
unfoldable pub case_tokens : ℕ → ℕ → List ℕ
case_tokens word answer = event_tokens word ++ (ARROW ∷ answer_tokens (is_read word) answer)

-- the line, without its newline
abbrev pub case_text : ℕ → ℕ → List ℕ
case_text word answer = line_of (case_tokens word answer)

-- the answer alone
abbrev pub answer_text : ℕ → ℕ → List ℕ
answer_text word answer = line_of (answer_tokens (is_read word) answer)

-- three tokens, twelve tokens, by their indices
abbrev pub three : List ℕ → List ℕ
three e = get_or e 0 0 ∷ get_or e 1 0 ∷ get_or e 2 0 ∷ []

abbrev pub twelve : List ℕ → List ℕ
twelve a =
    get_or a 0 0
    ∷ get_or a 1 0
    ∷ get_or a 2 0
    ∷ get_or a 3 0
    ∷ get_or a 4 0
    ∷ get_or a 5 0
    ∷ get_or a 6 0
    ∷ get_or a 7 0
    ∷ get_or a 8 0
    ∷ get_or a 9 0
    ∷ get_or a 10 0
    ∷ get_or a 11 0
    ∷ []

abbrev pub joined : List ℕ → List ℕ → List ℕ
joined e a = three e ++ (ARROW ∷ twelve a)
