-- Answer words as text (document 01, "Event words" and "Numbers given back"): `done`, with `byte` and two digits after a read, or `refused`
-- and the number; then `requests` and the letters of the lines that are up, V E R A D S for bits 0 to 5; then `watchdog reset`. Eight digits
-- stand for every word. An answer is read token by token, beside its event: `asked` says that the event is a read.
use Rattle.std.specs.Prelude.{Option, Some, None, Result, Ok, Err, ℕ, ◌+◌, ◌*◌, ◌/◌, ◌%◌, Bool, true, false, not, ◌&&◌, ◌||◌, List, [], ◌∷◌, eqb, ltb}
use Rattle.bits.specs.Byte.{pick, bit}
use Rattle.answers.specs.Answer.{answer_word}
use Rattle.event_names.specs.Digits.{below, hex, unhex}
use Rattle.event_names.specs.Names.{lower}
use Rattle.line_tokens.specs.declared.Token.{Token}
use Rattle.line_tokens.specs.declared.BadToken.{BadToken}
use Rattle.line_tokens.specs.Scan.{bad_at}
use Rattle.answer_text.specs.declared.Outcome.{Outcome}
use Rattle.answer_text.specs.declared.Answer.{Answer}
use Rattle.answer_text.specs.declared.Answer.TheVariants.{Start, Done, Byte, Refused, Head, Requests, Reset, Word, Bad}

-- ---- names

abbrev pub DONE : ℕ
DONE = 0x444F4E45

abbrev pub BYTE : ℕ
BYTE = 0x42595445

abbrev pub REFUSED : ℕ
REFUSED = 0x52454655534544

abbrev pub REQUESTS : ℕ
REQUESTS = 0x5245515545535453

abbrev pub WATCHDOG : ℕ
WATCHDOG = 0x5741544348444F47

abbrev pub RESET : ℕ
RESET = 0x5245534554

-- the weight of a request's letter
unfoldable pub weight_of : ℕ → Option ℕ
weight_of v =
    pick (eqb v 0x56) (Some 1)
    (pick (eqb v 0x45) (Some 2)
    (pick (eqb v 0x52) (Some 4)
    (pick (eqb v 0x41) (Some 8)
    (pick (eqb v 0x44) (Some 16)
    (pick (eqb v 0x53) (Some 32) None)))))

-- ---- reading

-- the number given back, and the byte that was read
abbrev pub outcome : ℕ → ℕ → Outcome
outcome number byte = record { number = number; byte = byte }

-- a whole word, in digits
unfoldable pub word_or : ℕ → Option ℕ → Answer
word_or at None = Bad at
word_or at (Some n) = Word n

unfoldable pub bare : ℕ → ℕ → Answer
bare at v = word_or at (below 4294967296 (unhex 8 v))

unfoldable pub at_start : ℕ → Bool → ℕ → Answer
at_start at asked v = pick (eqb v DONE) (pick asked Done (Head (outcome 0 0))) (pick (eqb v REFUSED) Refused (bare at v))

-- after `done`, of a read
unfoldable pub at_done : ℕ → ℕ → Answer
at_done at v = pick (eqb v BYTE) Byte (Bad at)

unfoldable pub at_byte : ℕ → ℕ → Answer
at_byte at v = pick (ltb (unhex 2 v) 256) (Head (outcome 0 (unhex 2 v))) (Bad at)

-- after `refused`: one digit, 1 to 9
unfoldable pub at_refused : ℕ → ℕ → Answer
at_refused at v = pick (ltb (unhex 1 v) 10) (pick (ltb 0 (unhex 1 v)) (Head (outcome (unhex 1 v) 0)) (Bad at)) (Bad at)

-- after the number and the byte
unfoldable pub at_head : ℕ → Outcome → ℕ → Answer
at_head at o v = pick (eqb v REQUESTS) (Requests o 0) (pick (eqb v WATCHDOG) (Reset o 0) (Bad at))

-- after `requests`: letters, each behind those before it in their order, one at least
unfoldable pub past_letters : ℕ → Outcome → ℕ → ℕ → Answer
past_letters at o requests v = pick (ltb 0 requests && eqb v WATCHDOG) (Reset o requests) (Bad at)

unfoldable pub at_letter : ℕ → Outcome → ℕ → ℕ → Option ℕ → Answer
at_letter at o requests v None = past_letters at o requests v
at_letter at o requests v (Some weight) = pick (ltb requests weight) (Requests o (requests + weight)) (past_letters at o requests v)

unfoldable pub at_requests : ℕ → Outcome → ℕ → ℕ → Answer
at_requests at o requests v = at_letter at o requests v (weight_of v)

unfoldable pub at_reset : ℕ → Outcome → ℕ → ℕ → Answer
at_reset at o requests v = pick (eqb v RESET) (Word (answer_word o.number true requests o.byte)) (Bad at)

unfoldable pub next : ℕ → Bool → Answer → ℕ → Answer
next at asked Start v = at_start at asked v
next at asked Done v = at_done at v
next at asked Byte v = at_byte at v
next at asked Refused v = at_refused at v
next at asked (Head o) v = at_head at o v
next at asked (Requests o requests) v = at_requests at o requests v
next at asked (Reset o requests) v = at_reset at o requests v
next at asked (Word w) v = Bad at
next at asked (Bad place) v = Bad place

abbrev pub take : Bool → Answer → Token → Answer
take asked a t = next t.at asked a t.value

-- at the end of the line; a place where a token is missing
unfoldable pub ended : Answer → ℕ → Result ℕ BadToken
ended Start end = Err (bad_at end)
ended Done end = Err (bad_at end)
ended Byte end = Err (bad_at end)
ended Refused end = Err (bad_at end)
ended (Head o) end = Ok (answer_word o.number false 0 o.byte)
ended (Requests o requests) end = pick (eqb requests 0) (Err (bad_at end)) (Ok (answer_word o.number false requests o.byte))
ended (Reset o requests) end = Err (bad_at end)
ended (Word w) end = Ok w
ended (Bad place) end = Err (bad_at place)

-- ---- writing

-- the word is an answer to such an event: zero in bits 23..17 and in those of no request, a number up to 9, a byte only where a read is done
unfoldable pub is_answer : Bool → ℕ → Bool
is_answer asked w =
    (ltb (w / 16777216) 10 && ltb (w / 65536 % 256) 2)
    && (ltb (w / 256 % 256) 64 && (eqb (w % 256) 0 || (asked && eqb (w / 16777216) 0)))

-- a token where the test holds, else none
abbrev pub given : Bool → ℕ → ℕ
given t v = pick t v 0

-- `done` or `refused`; then `byte` or the number; then the byte
unfoldable pub first_part : ℕ → ℕ
first_part number = pick (eqb number 0) (lower 8 DONE) (lower 8 REFUSED)

unfoldable pub second_part : Bool → ℕ → ℕ
second_part asked number = pick (eqb number 0) (given asked (lower 8 BYTE)) (hex 1 number)

unfoldable pub third_part : Bool → ℕ → ℕ → ℕ
third_part asked number byte = pick (eqb number 0) (given asked (hex 2 byte)) 0

unfoldable pub answer_parts : Bool → ℕ → Bool → ℕ → ℕ → List ℕ
answer_parts asked number watchdog requests byte =
    first_part number
    ∷ second_part asked number
    ∷ third_part asked number byte
    ∷ given (ltb 0 requests) (lower 8 REQUESTS)
    ∷ given (bit 0 requests) 0x56
    ∷ given (bit 1 requests) 0x45
    ∷ given (bit 2 requests) 0x52
    ∷ given (bit 3 requests) 0x41
    ∷ given (bit 4 requests) 0x44
    ∷ given (bit 5 requests) 0x53
    ∷ given watchdog (lower 8 WATCHDOG)
    ∷ given watchdog (lower 8 RESET)
    ∷ []

-- the twelve tokens of an answer, 0 for none
unfoldable pub answer_tokens : Bool → ℕ → List ℕ
answer_tokens asked w =
    pick (is_answer asked w)
    (answer_parts asked (w / 16777216) (eqb (w / 65536 % 256) 1) (w / 256 % 256) (w % 256))
    (hex 8 w ∷ 0 ∷ 0 ∷ 0 ∷ 0 ∷ 0 ∷ 0 ∷ 0 ∷ 0 ∷ 0 ∷ 0 ∷ 0 ∷ [])
