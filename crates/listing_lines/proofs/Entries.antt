-- A line in the form of an entry is read as that entry, whatever the word and the answer.
-- Assumes nothing.
use mathlib.Core.Bool.{Bool, true, false}
use mathlib.Core.Path.{◌≡◌, refl, ap, ◌∙◌}
use mathlib.Core.List.{List, [], ◌∷◌}
use Prim.Native.Nat.{ℕ, ◌+◌, ◌*◌, ◌/◌, ◌%◌, ◌<◌}
use native.Mathlib.Omega.{arith}
use lib.Dec.{T, ltb, eqb, eqb→eq}
use Rattle.bits.specs.Byte.{pick}
use Rattle.bits.proofs.Finite.{at_each}
use Rattle.listing_lines.specs.declared.Symbol.{Symbol}
use Rattle.listing_lines.specs.declared.Symbol.TheVariants.{Newline, Blank, Star, Hash, Digit, Other}
use Rattle.listing_lines.specs.declared.Place.{Place}
use Rattle.listing_lines.specs.declared.Place.TheVariants.{Start, First, Gap, Answer}
use Rattle.listing_lines.specs.declared.Reader.{Reader}
use Rattle.listing_lines.specs.declared.Found.{Found}
use Rattle.listing_lines.specs.declared.Found.TheVariants.{Within, Refused, Entry}
use Rattle.listing_lines.specs.Line.{digit_of, symbol_of, line_start, reader_at, counted, grown, word_end, entry_end, next_at}
use Rattle.listing_lines.specs.Written.{line_read, following, written, upper, lower}

-- by bytes that are read as those digits
module _ (byte : ℕ → ℕ) (reads : (d : ℕ) → d < 16 → symbol_of (byte d) ≡ Digit d) where
  -- a field is read digit by digit at the places of one
  module _ (p : Place) (takes : (r : Reader) (d : ℕ) → next_at p r (Digit d) ≡ grown r d) (times word : ℕ) where
    abbrev at : ℕ → ℕ → ℕ → Reader
    at digits value count = record { place = p; digits = digits; value = value; count = count; times = times; word = word }

    one : (k v q d n : ℕ) (rest : List ℕ) → ltb k 8 ≡ true → d < 16 → v % 268435456 * 16 + d % 16 ≡ n
        → line_read (Within (at k v q)) (byte d ∷ rest) ≡ line_read (Within (at (k + 1) n (counted q d))) rest
    unfolding line_read grown
    one k v q d n rest h l e =
        ap (λ (s : Symbol). line_read (next_at p (at k v q) s) rest) (reads d l)
        ∙ ap (λ (f : Found). line_read f rest) (takes (at k v q) d)
        ∙ ap (λ (b : Bool). line_read (pick b (Within (at (k + 1) (v % 268435456 * 16 + d % 16) (counted q d))) Refused) rest) h
        ∙ ap (λ (m : ℕ). line_read (Within (at (k + 1) m (counted q d))) rest) e

    -- the count that the digits make, which matters to a first field alone
    count_of : ℕ → ℕ
    count_of n = counted (counted (counted (counted (counted (counted (counted (counted 0 (n / 268435456)) (n / 16777216 % 16)) (n / 1048576 % 16)) (n / 65536 % 16)) (n / 4096 % 16)) (n / 256 % 16)) (n / 16 % 16)) (n % 16)

    rest_read : (n : ℕ) (rest : List ℕ) → n < 4294967296
        → line_read (Within (at 1 (n / 268435456) (counted 0 (n / 268435456)))) (following byte n rest)
        ≡ line_read (Within (at 8 n (count_of n))) rest
    unfolding count_of
    rest_read n rest h =
        one 1 (n / 268435456) _ _ (n / 16777216) _ refl (omega arith) (omega arith)
        ∙ one 2 (n / 16777216) _ _ (n / 1048576) _ refl (omega arith) (omega arith)
        ∙ one 3 (n / 1048576) _ _ (n / 65536) _ refl (omega arith) (omega arith)
        ∙ one 4 (n / 65536) _ _ (n / 4096) _ refl (omega arith) (omega arith)
        ∙ one 5 (n / 4096) _ _ (n / 256) _ refl (omega arith) (omega arith)
        ∙ one 6 (n / 256) _ _ (n / 16) _ refl (omega arith) (omega arith)
        ∙ one 7 (n / 16) _ _ n _ refl (omega arith) (omega arith)

  -- a line of a word, a blank, an answer and a newline
  pub entry_read : (w a : ℕ) → w < 4294967296 → a < 4294967296 → line_read (Within line_start) (written byte w (32 ∷ written byte a (10 ∷ []))) ≡ Entry 1 w a
  unfolding line_read symbol_of word_end entry_end
  entry_read w a h k =
      ap (λ (s : Symbol). line_read (next_at Start line_start s) (following byte w (32 ∷ written byte a (10 ∷ [])))) (reads (w / 268435456) (omega arith))
      ∙ rest_read First (λ r d. refl) 1 0 w (32 ∷ written byte a (10 ∷ [])) h
      ∙ ap (λ (s : Symbol). line_read (next_at Gap (reader_at Gap 1 w) s) (following byte a (10 ∷ []))) (reads (a / 268435456) (omega arith))
      ∙ rest_read Answer (λ r d. refl) 1 w a (10 ∷ []) k

-- a symbol is the digit with this value
is_digit : Symbol → ℕ → Bool
is_digit Newline d = false
is_digit Blank d = false
is_digit Star d = false
is_digit Hash d = false
is_digit (Digit n) d = eqb n d
is_digit Other d = false

is_digit_lem : (s : Symbol) (d : ℕ) → T (is_digit s d) → s ≡ Digit d
unfolding is_digit
is_digit_lem Newline d t = absurd t
is_digit_lem Blank d t = absurd t
is_digit_lem Star d t = absurd t
is_digit_lem Hash d t = absurd t
is_digit_lem (Digit n) d t = ap Digit (eqb→eq n d t)
is_digit_lem Other d t = absurd t

upper_reads : (d : ℕ) → d < 16 → symbol_of (upper d) ≡ Digit d
unfolding symbol_of digit_of is_digit
upper_reads d h = is_digit_lem (symbol_of (upper d)) d (at_each (λ (i : ℕ). is_digit (symbol_of (upper i)) i) 16 tt d h)

lower_reads : (d : ℕ) → d < 16 → symbol_of (lower d) ≡ Digit d
unfolding symbol_of digit_of is_digit
lower_reads d h = is_digit_lem (symbol_of (lower d)) d (at_each (λ (i : ℕ). is_digit (symbol_of (lower i)) i) 16 tt d h)

pub upper_entry : (w a : ℕ) → w < 4294967296 → a < 4294967296
    → line_read (Within line_start) (written upper w (32 ∷ written upper a (10 ∷ []))) ≡ Entry 1 w a
upper_entry = entry_read upper upper_reads

pub lower_entry : (w a : ℕ) → w < 4294967296 → a < 4294967296
    → line_read (Within line_start) (written lower w (32 ∷ written lower a (10 ∷ []))) ≡ Entry 1 w a
lower_entry = entry_read lower lower_reads
