-- A line of a listing has sixteen tokens, so that it is always written where there is room.
-- Assumes nothing.
use mathlib.Core.Path.{◌≡◌, refl, sym, ap, ◌∙◌}
use mathlib.Core.Bool.{Bool, true, false}
use mathlib.Core.List.{List, ◌∷◌, ◌++◌}
use Prim.Native.Nat.{ℕ, ◌*◌, ◌≤◌}
use native.Mathlib.Omega.{arith}
use lib.Dec.{ltb}
use lib.ListN.{length, drop, length-append, length-drop}
use borrow.Author.Tests.{le-ltb}
use Rattle.bits.specs.Byte.{pick}
use Rattle.bits.proofs.Level.{pick_by}
use Rattle.line_tokens.specs.Written.{pieces, line_of}
use Rattle.line_text.proofs.Parts.{pieces_length}
use Rattle.line_text.specs.Line.{size, content, line_size, line_content}
use Rattle.std.specs.Prelude.{Option, Some, None}
use Rattle.event_names.specs.declared.Kind.{Kind}
use Rattle.event_text_read.specs.Event.{line_kind}
use Rattle.event_text_write.specs.Event.{kind_tokens, tokens_by, event_tokens}
use Rattle.answer_text.specs.Answer.{is_answer, answer_parts, answer_tokens}
use Rattle.case_lines.specs.Line.{is_read}
use Rattle.case_text.specs.Text.{ARROW, three, twelve, joined, case_tokens, case_text, answer_text}

-- the tokens of an event are three, those of an answer twelve
three_by : (k : Option Kind) (w : ℕ) → tokens_by k w ≡ three (tokens_by k w)
unfolding tokens_by kind_tokens
three_by None w = refl
three_by (Some k) w = refl

pub event_three : (w : ℕ) → event_tokens w ≡ three (event_tokens w)
unfolding event_tokens
event_three w = three_by (line_kind w) w

pub answer_twelve : (asked : Bool) (a : ℕ) → answer_tokens asked a ≡ twelve (answer_tokens asked a)
unfolding answer_tokens answer_parts
answer_twelve asked a = pick_by (λ (l : List ℕ). l ≡ twelve l) (is_answer asked a) (λ _. refl) (λ _. refl)

pub joins : (e a : List ℕ) → e ≡ three e → a ≡ twelve a → joined e a ≡ e ++ (ARROW ∷ a)
joins e a h k =
    sym (ap (λ (x : List ℕ). x ++ (ARROW ∷ a)) h ∙ ap (λ (x : List ℕ). three e ++ (ARROW ∷ x)) k)

-- what is joined of both are the tokens of the line
pub as_tokens : (w answer : ℕ) (read : Bool) (e a tokens : List ℕ) → e ≡ event_tokens w → read ≡ is_read w → a ≡ answer_tokens read answer → tokens ≡ joined e a
    → tokens ≡ case_tokens w answer
unfolding case_tokens
as_tokens w answer read e a tokens he hr ha ht =
    rw (he, ha, hr) at (ht ∙ joins e a (rw (he) (event_three w)) (rw (ha) (answer_twelve read answer)))

-- a line of n tokens has 9 n bytes at most
size_least : (text out : List ℕ) (n : ℕ) → length text ≤ n → size text out ≤ n
unfolding size
size_least text out n h = pick_by (λ (k : ℕ). k ≤ n) (ltb (length out) (length text)) (λ _. omega arith) (λ _. h)

line_short : (tokens : List ℕ) → length (line_of tokens) ≤ 9 * length tokens
line_short tokens = omega (arith, length-drop 1 (pieces tokens), pieces_length tokens)

fits_by : (t : Bool) (text out : List ℕ) → pick t 0 (length text) ≤ length (pick t out (text ++ drop (length text) out))
fits_by true text out = omega arith
fits_by false text out = omega (arith, length-append text (drop (length text) out))

-- what the writer of lines gives, for sixteen tokens at most
pub as_line : (tokens out new : List ℕ) (r : ℕ) → length tokens ≤ 16 → (r ≡ line_size tokens out) × (new ≡ line_content tokens out)
    → (r ≡ size (line_of tokens) out) × ((new ≡ content (line_of tokens) out) × (r ≤ 144))
unfolding line_size line_content
as_line tokens out new r n g =
    let few : ltb 16 (length tokens) ≡ false = le-ltb 16 (length tokens) n in
    let h : r ≡ size (line_of tokens) out = rw (few) at g.0 in
    let k : new ≡ content (line_of tokens) out = rw (few) at g.1 in
    let short : size (line_of tokens) out ≤ 144 = size_least (line_of tokens) out 144 (omega (arith, line_short tokens)) in
    (h, (k, omega (arith, h, short)))

pub as_case : (w answer : ℕ) (tokens out new : List ℕ) (r : ℕ) → tokens ≡ case_tokens w answer → 16 ≡ length tokens
    → (r ≡ line_size tokens out) × (new ≡ line_content tokens out)
    → (r ≡ size (case_text w answer) out) × ((new ≡ content (case_text w answer) out) × (r ≤ 144))
as_case w answer tokens out new r e n g = rw (e) at (as_line tokens out new r (omega (arith, n)) g)

pub as_answer : (w answer : ℕ) (read : Bool) (tokens out new : List ℕ) (r : ℕ) → read ≡ is_read w → tokens ≡ answer_tokens read answer
    → (r ≡ line_size tokens out) × (new ≡ line_content tokens out)
    → (r ≡ size (answer_text w answer) out) × ((new ≡ content (answer_text w answer) out) × (r ≤ 144))
as_answer w answer read tokens out new r hr e g =
    let few : length tokens ≡ 12 = ap length (e ∙ answer_twelve read answer) in
    rw (e, hr) at (as_line tokens out new r (omega arith) g)

-- what is written is within the buffer
pub fits : (text out new : List ℕ) (r : ℕ) → r ≡ size text out → new ≡ content text out → r ≤ length new
unfolding size content
fits text out new r h k = rw (h, k) (fits_by (ltb (length out) (length text)) text out)
