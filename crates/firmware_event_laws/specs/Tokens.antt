-- A list of events by its lines, and a line by its tokens (images/README.md). There is no reader here: the text is split, and each part looked
-- at as a whole.
use Rattle.std.specs.Prelude.{ℕ, zero, suc, ◌+◌, ◌-◌, ◌*◌, Bool, true, false, List, [], ◌∷◌, Option, None, Some, Result, Ok, Err, eqb, ltb}
use Rattle.bits.specs.Byte.{pick}
use Rattle.firmware_event_lines.specs.Lines.{Meaning, nothing, event, malformed}
use Rattle.firmware_event_list.specs.declared.Checked.{Checked}
use Rattle.firmware_event_list.specs.declared.MalformedLine.{MalformedLine}
use Rattle.firmware_event_list.specs.Lists.{is_malformed, ends_well}

-- ---- parts of a text

abbrev pub onto : ℕ → List (List ℕ) → List (List ℕ)
onto b [] = (b ∷ []) ∷ []
onto b (p ∷ ps) = (b ∷ p) ∷ ps

-- the parts between the bytes that separate
unfoldable pub split : (ℕ → Bool) → List ℕ → List (List ℕ)
split separates [] = [] ∷ []
split separates (b ∷ bs) = pick (separates b) ([] ∷ split separates bs) (onto b (split separates bs))

-- those that are not empty
abbrev pub filled : List (List ℕ) → List (List ℕ)
filled [] = []
filled ([] ∷ ps) = filled ps
filled ((b ∷ p) ∷ ps) = (b ∷ p) ∷ filled ps

abbrev pub newline : ℕ → Bool
newline b = eqb b 10

-- space, tab, CR
unfoldable pub blank : ℕ → Bool
blank b = pick (eqb b 32) true (pick (eqb b 9) true (eqb b 13))

-- a line without its comment, which begins with `#`
unfoldable pub uncommented : List ℕ → List ℕ
uncommented [] = []
uncommented (b ∷ bs) = pick (eqb b 35) [] (b ∷ uncommented bs)

abbrev pub tokens : List ℕ → List (List ℕ)
tokens line = filled (split blank (uncommented line))

-- ---- numbers

abbrev pub within : ℕ → ℕ → ℕ → Bool
within low high b = pick (ltb b low) false (ltb b (high + 1))

-- `0` to `9`
unfoldable pub decimal : ℕ → Option ℕ
decimal b = pick (within 48 57 b) (Some (b - 48)) None

-- `0` to `9`, `A` to `F`, `a` to `f`
unfoldable pub hexadecimal : ℕ → Option ℕ
hexadecimal b =
    pick (within 48 57 b) (Some (b - 48)) (pick (within 65 70 b) (Some (b - 55)) (pick (within 97 102 b) (Some (b - 87)) None))

-- decimal digits behind those that make n: at the end a number of 32 bits
abbrev pub number_on : Option ℕ → ℕ → (ℕ → Option ℕ) → Option ℕ
number_on None n k = None
number_on (Some d) n k = k (n * 10 + d)

unfoldable pub number_from : ℕ → List ℕ → Option ℕ
number_from n [] = pick (ltb n 4294967296) (Some n) None
number_from n (b ∷ bs) = number_on (decimal b) n (λ (m : ℕ). number_from m bs)

-- exactly so many hex digits behind those that make w
abbrev pub word_on : Option ℕ → ℕ → (ℕ → Option ℕ) → Option ℕ
word_on None w k = None
word_on (Some d) w k = k (w * 16 + d)

unfoldable pub word_from : ℕ → ℕ → List ℕ → Option ℕ
word_from zero w [] = Some w
word_from zero w (b ∷ bs) = None
word_from (suc left) w [] = None
word_from (suc left) w (b ∷ bs) = word_on (hexadecimal b) w (λ (v : ℕ). word_from left v bs)

-- ---- what a line means

-- nothing may stand behind the word
abbrev pub with_word : Option ℕ → Option ℕ → List (List ℕ) → Meaning
with_word None w ts = malformed
with_word (Some n) None ts = malformed
with_word (Some n) (Some w) [] = event (record { number = n; word = w })
with_word (Some n) (Some w) (t ∷ ts) = malformed

abbrev pub with_number : Option ℕ → List (List ℕ) → Meaning
with_number n [] = malformed
with_number n (w ∷ ts) = with_word n (word_from 8 0 w) ts

-- no token means nothing; else there are two, a number of 32 bits and a word of eight hex digits
abbrev pub meant : List (List ℕ) → Meaning
meant [] = nothing
meant (n ∷ ts) = with_number (number_from 0 n) ts

abbrev pub line_meant : List ℕ → Meaning
line_meant line = meant (tokens line)

-- ---- the first malformed line

-- its number, where the first of these lines has number n
unfoldable pub malformed_at : ℕ → List (List ℕ) → Option ℕ
malformed_at n [] = None
malformed_at n (l ∷ ls) = pick (is_malformed (line_meant l)) (Some n) (malformed_at (n + 1) ls)

-- of a text, with lines counted from 1
abbrev pub malformed_line : List ℕ → Option ℕ
malformed_line text = malformed_at 1 (split newline text)

-- what a check of the whole text tells
abbrev pub told_by : Result Checked MalformedLine → Option ℕ
told_by (Ok c) = pick (ends_well (Ok c)) None (Some c.line)
told_by (Err e) = Some e.number

-- ---- what a text means

-- a line before others; one that means nothing is passed over
abbrev pub listed : Meaning → List Meaning → List Meaning
listed (Ok None) ms = ms
listed (Ok (Some e)) ms = event e ∷ ms
listed (Err e) ms = Err e ∷ ms

unfoldable pub lines_meant : List (List ℕ) → List Meaning
lines_meant [] = []
lines_meant (l ∷ ls) = listed (line_meant l) (lines_meant ls)

abbrev pub text_meant : List ℕ → List Meaning
text_meant text = lines_meant (split newline text)
