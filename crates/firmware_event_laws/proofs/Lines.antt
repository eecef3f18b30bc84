-- A line means what its tokens say.
-- Assumes nothing.
use Rattle.std.specs.Prelude.{Option, None, Some}
use mathlib.Core.Path.{◌≡◌, refl, ap, ◌∙◌}
use mathlib.Core.Bool.{Bool, true, false}
use mathlib.Core.Logic.{◌⊎◌, inl, inr, ⊎_elim}
use mathlib.Core.List.{List, [], ◌∷◌}
use Prim.Native.Nat.{ℕ, zero, suc, ◌+◌, ◌-◌, ◌*◌, ◌<◌, ◌≤◌}
use native.Mathlib.Nat.{mod-eq_of_lt}
use native.Mathlib.Omega.{arith}
use lib.Dec.{eqb}
use borrow.Author.Tests.{eq-eqb, ne_eqb, lt-ltb, le-ltb}
use Rattle.bits.proofs.Finite.{lt_or_le}
use Rattle.firmware_event_lines.specs.declared.Symbol.TheVariants as symbol
use Rattle.firmware_event_lines.specs.declared.Line.{Line}
use Rattle.firmware_event_lines.specs.declared.Line.TheVariants as line
use Rattle.firmware_event_lines.specs.Lines.{malformed, letter_of, symbol_of, number_grown, word_grown, word_ended, event_of, after, reader, read_on, meaning_of, line_means}
use Rattle.firmware_event_laws.specs.Tokens.{onto, split, filled, blank, uncommented, decimal, hexadecimal, number_from, word_from, with_word, with_number, meant, line_meant}

-- ---- what a byte is, to the reader and to the tokens

data Byte (b : ℕ) : Type 0 where
  separates : symbol_of b ≡ symbol.Blank → blank b ≡ true → Byte b
  digit : (d : ℕ) → d < 10 → symbol_of b ≡ symbol.Digit d → blank b ≡ false → decimal b ≡ Some d → hexadecimal b ≡ Some d → Byte b
  letter : (d : ℕ) → d < 16 → symbol_of b ≡ symbol.Letter d → blank b ≡ false → decimal b ≡ None → hexadecimal b ≡ Some d → Byte b
  other : symbol_of b ≡ symbol.Other → blank b ≡ false → decimal b ≡ None → hexadecimal b ≡ None → Byte b

-- a number is another one or not
eq_or_ne : (b n : ℕ) → (b ≡ n) ⊎ (b ≡ n → ⊥)
eq_or_ne b n =
    ⊎_elim
    (λ (l : b < n). inr (λ (e : b ≡ n). omega arith))
    (λ (l : n ≤ b). ⊎_elim (λ (k : n < b). inr (λ (e : b ≡ n). omega arith)) (λ (k : b ≤ n). inl (omega arith)) (lt_or_le n b))
    (lt_or_le b n)

module _ (b : ℕ) (s : eqb b 32 ≡ false) (t : eqb b 9 ≡ false) (r : eqb b 13 ≡ false) where
  no_blank : blank b ≡ false
  unfolding blank
  no_blank = simp (s, t, r)

  below_digits : b < 48 → Byte b
  unfolding symbol_of decimal hexadecimal
  below_digits h =
      other
      (simp (s, t, r, lt-ltb b 48 h))
      no_blank
      (simp (lt-ltb b 48 h))
      (let k : b < 65 = omega arith in let m : b < 97 = omega arith in simp (lt-ltb b 48 h, lt-ltb b 65 k, lt-ltb b 97 m))

  among_digits : 48 ≤ b → b < 58 → Byte b
  unfolding symbol_of decimal hexadecimal
  among_digits l h =
      digit
      (b - 48)
      (omega arith)
      (simp (s, t, r, le-ltb b 48 l, lt-ltb b 58 h))
      no_blank
      (simp (le-ltb b 48 l, lt-ltb b 58 h))
      (simp (le-ltb b 48 l, lt-ltb b 58 h))

  module _ (l : 58 ≤ b) where
    low : 48 ≤ b
    low = omega arith

    not_decimal : decimal b ≡ None
    unfolding decimal
    not_decimal = simp (le-ltb b 48 low, le-ltb b 58 l)

    between : b < 65 → Byte b
    unfolding symbol_of letter_of hexadecimal
    between h =
        let m : b < 97 = omega arith in
        other (simp (s, t, r, le-ltb b 48 low, le-ltb b 58 l, lt-ltb b 65 h)) no_blank not_decimal (simp (le-ltb b 48 low, le-ltb b 58 l, lt-ltb b 65 h, lt-ltb b 97 m))

    upper : 65 ≤ b → b < 71 → Byte b
    unfolding symbol_of letter_of hexadecimal
    upper k h =
        letter
        (b - 55)
        (omega arith)
        (simp (s, t, r, le-ltb b 48 low, le-ltb b 58 l, le-ltb b 65 k, lt-ltb b 71 h))
        no_blank
        not_decimal
        (simp (le-ltb b 48 low, le-ltb b 58 l, le-ltb b 65 k, lt-ltb b 71 h))

    module _ (k : 65 ≤ b) (u : 71 ≤ b) where
      middle : b < 97 → Byte b
      unfolding symbol_of letter_of hexadecimal
      middle h =
          other
          (simp (s, t, r, le-ltb b 48 low, le-ltb b 58 l, le-ltb b 65 k, le-ltb b 71 u, lt-ltb b 97 h))
          no_blank
          not_decimal
          (simp (le-ltb b 48 low, le-ltb b 58 l, le-ltb b 65 k, le-ltb b 71 u, lt-ltb b 97 h))

      lower : 97 ≤ b → b < 103 → Byte b
      unfolding symbol_of letter_of hexadecimal
      lower m h =
          letter
          (b - 87)
          (omega arith)
          (simp (s, t, r, le-ltb b 48 low, le-ltb b 58 l, le-ltb b 65 k, le-ltb b 71 u, le-ltb b 97 m, lt-ltb b 103 h))
          no_blank
          not_decimal
          (simp (le-ltb b 48 low, le-ltb b 58 l, le-ltb b 65 k, le-ltb b 71 u, le-ltb b 97 m, lt-ltb b 103 h))

      above : 103 ≤ b → Byte b
      unfolding symbol_of letter_of hexadecimal
      above h =
          let m : 97 ≤ b = omega arith in
          other
          (simp (s, t, r, le-ltb b 48 low, le-ltb b 58 l, le-ltb b 65 k, le-ltb b 71 u, le-ltb b 97 m, le-ltb b 103 h))
          no_blank
          not_decimal
          (simp (le-ltb b 48 low, le-ltb b 58 l, le-ltb b 65 k, le-ltb b 71 u, le-ltb b 97 m, le-ltb b 103 h))

  not_blank : Byte b
  not_blank =
      ⊎_elim below_digits (λ (l : 48 ≤ b).
      ⊎_elim (among_digits l) (λ (d : 58 ≤ b).
      ⊎_elim (between d) (λ (k : 65 ≤ b).
      ⊎_elim (upper d k) (λ (u : 71 ≤ b).
      ⊎_elim (middle d k u) (λ (m : 97 ≤ b).
      ⊎_elim (lower d k u m) (above d k u) (lt_or_le b 103))
      (lt_or_le b 97)) (lt_or_le b 71)) (lt_or_le b 65)) (lt_or_le b 58)) (lt_or_le b 48)

is_space : (b : ℕ) → b ≡ 32 → Byte b
unfolding symbol_of blank
is_space b e = separates (simp (eq-eqb b 32 e)) (simp (eq-eqb b 32 e))

is_tab : (b : ℕ) → eqb b 32 ≡ false → b ≡ 9 → Byte b
unfolding symbol_of blank
is_tab b s e = separates (simp (s, eq-eqb b 9 e)) (simp (s, eq-eqb b 9 e))

is_return : (b : ℕ) → eqb b 32 ≡ false → eqb b 9 ≡ false → b ≡ 13 → Byte b
unfolding symbol_of blank
is_return b s t e = separates (simp (s, t, eq-eqb b 13 e)) (simp (s, t, eq-eqb b 13 e))

byte : (b : ℕ) → Byte b
byte b =
    ⊎_elim (is_space b) (λ (s : b ≡ 32 → ⊥).
    ⊎_elim (is_tab b (ne_eqb b 32 s)) (λ (t : b ≡ 9 → ⊥).
    ⊎_elim (is_return b (ne_eqb b 32 s) (ne_eqb b 9 t)) (λ (r : b ≡ 13 → ⊥). not_blank b (ne_eqb b 32 s) (ne_eqb b 9 t) (ne_eqb b 13 r))
    (eq_or_ne b 13)) (eq_or_ne b 9)) (eq_or_ne b 32)

-- ---- a comment

-- the reader's line over bytes with no comment
plain : Line → List ℕ → Line
plain l [] = l
plain l (b ∷ bs) = plain (after l (symbol_of b)) bs

in_comment : (l : Line) (bs : List ℕ) → read_on (reader l true) bs ≡ reader l true
unfolding read_on
in_comment l [] = refl
in_comment l (b ∷ bs) = in_comment l bs

outside_step : (l : Line) (b : ℕ) (bs : List ℕ) (t : Bool) → eqb b 35 ≡ t
    → (read_on (reader (after l (symbol_of b)) false) bs).line ≡ plain (after l (symbol_of b)) (uncommented bs)
    → (read_on (reader l false) (b ∷ bs)).line ≡ plain l (uncommented (b ∷ bs))
unfolding read_on uncommented plain
outside_step l b bs true e ih = simp (e, in_comment l bs)
outside_step l b bs false e ih = simp e ih

outside : (l : Line) (bs : List ℕ) → (read_on (reader l false) bs).line ≡ plain l (uncommented bs)
unfolding read_on uncommented plain
outside l [] = refl
outside l (b ∷ bs) = outside_step l b bs (eqb b 35) refl (outside (after l (symbol_of b)) bs)

-- ---- parts

unfoldable pub first : List (List ℕ) → List ℕ
first [] = []
first (p ∷ ps) = p

unfoldable pub rest : List (List ℕ) → List (List ℕ)
rest [] = []
rest (p ∷ ps) = ps

pub first_onto : (b : ℕ) (ps : List (List ℕ)) → first (onto b ps) ≡ b ∷ first ps
unfolding first
first_onto b [] = refl
first_onto b (p ∷ ps) = refl

pub rest_onto : (b : ℕ) (ps : List (List ℕ)) → rest (onto b ps) ≡ rest ps
unfolding rest
rest_onto b [] = refl
rest_onto b (p ∷ ps) = refl

filled_onto : (b : ℕ) (ps : List (List ℕ)) → filled (onto b ps) ≡ (b ∷ first ps) ∷ filled (rest ps)
unfolding first rest
filled_onto b [] = refl
filled_onto b (p ∷ ps) = refl

-- ---- numbers and words

-- what the value so far is below, where so many hex digits are to come
room : ℕ → ℕ
room zero = 4294967296
room (suc zero) = 268435456
room (suc (suc zero)) = 16777216
room (suc (suc (suc zero))) = 1048576
room (suc (suc (suc (suc zero)))) = 65536
room (suc (suc (suc (suc (suc zero))))) = 4096
room (suc (suc (suc (suc (suc (suc zero)))))) = 256
room (suc (suc (suc (suc (suc (suc (suc l))))))) = 16

module _ (w d : ℕ) (m : d < 16) where
  room_step : (l : ℕ) → suc l < 8 → w < room (suc l) → w * 16 + d < room l
  unfolding room
  room_step zero h k = omega arith
  room_step (suc zero) h k = omega arith
  room_step (suc (suc zero)) h k = omega arith
  room_step (suc (suc (suc zero))) h k = omega arith
  room_step (suc (suc (suc (suc zero)))) h k = omega arith
  room_step (suc (suc (suc (suc (suc zero))))) h k = omega arith
  room_step (suc (suc (suc (suc (suc (suc zero)))))) h k = omega arith
  room_step (suc (suc (suc (suc (suc (suc (suc l))))))) h k = absurd (omega arith)

room_top : (w l : ℕ) → w < room (suc l) → w < 268435456
unfolding room
room_top w zero k = k
room_top w (suc zero) k = omega arith
room_top w (suc (suc zero)) k = omega arith
room_top w (suc (suc (suc zero))) k = omega arith
room_top w (suc (suc (suc (suc zero)))) k = omega arith
room_top w (suc (suc (suc (suc (suc zero))))) k = omega arith
room_top w (suc (suc (suc (suc (suc (suc l)))))) k = omega arith

-- a number above 32 bits stays so
big_step : (n b : ℕ) (bs : List ℕ) (v : Option ℕ) → decimal b ≡ v → 4294967296 ≤ n → ((m : ℕ) → 4294967296 ≤ m → number_from m bs ≡ None)
    → number_from n (b ∷ bs) ≡ None
unfolding number_from
big_step n b bs None e h ih = simp e
big_step n b bs (Some d) e h ih = simp e (ih (n * 10 + d) (omega arith))

big : (bs : List ℕ) (n : ℕ) → 4294967296 ≤ n → number_from n bs ≡ None
unfolding number_from
big [] n h = simp (le-ltb n 4294967296 h)
big (b ∷ bs) n h = big_step n b bs (decimal b) refl h (big bs)

-- the first digit
number_first : (b d : ℕ) (l : List ℕ) → decimal b ≡ Some d → number_from 0 (b ∷ l) ≡ number_from d l
unfolding number_from
number_first b d l v =
    let z : 0 + d ≡ d = omega arith in
    simp v (ap (λ (n : ℕ). number_from n l) z)

word_first : (b d : ℕ) (l : List ℕ) → hexadecimal b ≡ Some d → word_from 8 0 (b ∷ l) ≡ word_from 7 d l
unfolding word_from
word_first b d l x =
    let z : 0 + d ≡ d = omega arith in
    simp x (ap (λ (w : ℕ). word_from 7 w l) z)

no_number : (ts : List (List ℕ)) → with_number None ts ≡ malformed
no_number [] = refl
no_number (t ∷ ts) = refl

-- ---- the reader at each place of a line

plain_malformed : (bs : List ℕ) → plain line.Malformed bs ≡ line.Malformed
unfolding plain
plain_malformed [] = refl
plain_malformed (b ∷ bs) = plain_malformed bs

record Reads (bs : List ℕ) : Type 0 where
  start : meaning_of (plain line.Start bs) ≡ meant (filled (split blank bs))
  number : (n : ℕ) → n < 4294967296
      → meaning_of (plain (line.Number n) bs) ≡ with_number (number_from n (first (split blank bs))) (filled (rest (split blank bs)))
  gap : (n : ℕ) → meaning_of (plain (line.Gap n) bs) ≡ with_number (Some n) (filled (split blank bs))
  word : (n w k l : ℕ) → k + l ≡ 8 → l < 8 → w < room l
      → meaning_of (plain (line.Word n w k) bs) ≡ with_word (Some n) (word_from l w (first (split blank bs))) (filled (rest (split blank bs)))
  end : (n w : ℕ) → meaning_of (plain (line.End (event_of n w)) bs) ≡ with_word (Some n) (Some w) (filled (split blank bs))

at_end_word : (n w k l : ℕ) → k + l ≡ 8
    → meaning_of (line.Word n w k) ≡ with_word (Some n) (word_from l w []) []
unfolding word_from
at_end_word n w k zero q = simp (eq-eqb k 8 (omega arith))
at_end_word n w k (suc l) q = simp (ne_eqb k 8 (λ (e : k ≡ 8). omega arith))

at_end_lem : Reads []
unfolding plain split number_from first rest
at_end_lem = record {
  start = refl;
  number = λ n h. refl;
  gap = λ n. refl;
  word = λ n w k l q h m. at_end_word n w k l q;
  end = λ n w. refl;
}

module _ (b : ℕ) (bs : List ℕ) (r : Reads bs) where
  module _ (e : symbol_of b ≡ symbol.Blank) (s : blank b ≡ true) where
    blank_word : (n w k l : ℕ) → k + l ≡ 8
        → meaning_of (plain (line.Word n w k) (b ∷ bs)) ≡ with_word (Some n) (word_from l w (first (split blank (b ∷ bs)))) (filled (rest (split blank (b ∷ bs))))
    unfolding plain split word_ended word_from first rest
    blank_word n w k zero q = simp (e, s, eq-eqb k 8 (omega arith)) (r.end n w)
    blank_word n w k (suc l) q = simp (e, s, ne_eqb k 8 (λ (z : k ≡ 8). omega arith), plain_malformed bs)

    on_blank : Reads (b ∷ bs)
    unfolding plain split number_from first rest
    on_blank = record {
      start = simp (e, s) r.start;
      number = λ n h. simp (e, s, lt-ltb n 4294967296 h) (r.gap n);
      gap = λ n. simp (e, s) (r.gap n);
      word = λ n w k l q h m. blank_word n w k l q;
      end = λ n w. simp (e, s) (r.end n w);
    }

  module _ (s : blank b ≡ false) where
    parts : split blank (b ∷ bs) ≡ onto b (split blank bs)
    unfolding split
    parts = simp s

    -- a hex digit
    module _ (d : ℕ) (m : d < 16) (x : hexadecimal b ≡ Some d) where
      hex_gap : (n : ℕ) → after (line.Gap n) (symbol_of b) ≡ line.Word n d 1
          → meaning_of (plain (line.Gap n) (b ∷ bs)) ≡ with_number (Some n) (filled (split blank (b ∷ bs)))
      unfolding plain room
      hex_gap n e = simp (parts, filled_onto, e, word_first b d (first (split blank bs)) x) (r.word n d 1 7 refl (omega arith) m)

      hex_word : (n w k l : ℕ) → after (line.Word n w k) (symbol_of b) ≡ word_grown n w k d → k + l ≡ 8 → l < 8 → w < room l
          → meaning_of (plain (line.Word n w k) (b ∷ bs)) ≡ with_word (Some n) (word_from l w (first (split blank (b ∷ bs)))) (filled (rest (split blank (b ∷ bs))))
      unfolding plain word_grown word_from
      hex_word n w k zero e q h u =
          let top : 8 ≤ k = omega arith in
          simp (parts, first_onto, rest_onto, e, le-ltb k 8 top, plain_malformed bs)
      hex_word n w k (suc l) e q h u =
          let low : k < 8 = omega arith in
          let next : k + 1 + l ≡ 8 = omega arith in
          simp
          (parts, first_onto, rest_onto, e, x, lt-ltb k 8 low, mod-eq_of_lt (room_top w l u), mod-eq_of_lt m)
          (r.word n (w * 16 + d) (k + 1) l next (omega arith) (room_step w d m l h u))

    ended : (n w : ℕ) → after (line.End (event_of n w)) (symbol_of b) ≡ line.Malformed
        → meaning_of (plain (line.End (event_of n w)) (b ∷ bs)) ≡ with_word (Some n) (Some w) (filled (split blank (b ∷ bs)))
    unfolding plain
    ended n w e = simp (parts, filled_onto, e, plain_malformed bs)

    -- no decimal digit
    module _ (v : decimal b ≡ None) where
      no_start : after line.Start (symbol_of b) ≡ line.Malformed → meaning_of (plain line.Start (b ∷ bs)) ≡ meant (filled (split blank (b ∷ bs)))
      unfolding plain number_from
      no_start e = simp (parts, filled_onto, e, v, plain_malformed bs, no_number)

      no_digit : (n : ℕ) → after (line.Number n) (symbol_of b) ≡ line.Malformed
          → meaning_of (plain (line.Number n) (b ∷ bs)) ≡ with_number (number_from n (first (split blank (b ∷ bs)))) (filled (rest (split blank (b ∷ bs))))
      unfolding plain number_from
      no_digit n e = simp (parts, first_onto, rest_onto, e, v, plain_malformed bs, no_number)

    module _ (d : ℕ) (m : d < 10) (e : symbol_of b ≡ symbol.Digit d) (v : decimal b ≡ Some d) where
      digit_number : (n : ℕ) → (n * 10 + d < 4294967296) ⊎ (4294967296 ≤ n * 10 + d)
          → meaning_of (plain (line.Number n) (b ∷ bs)) ≡ with_number (number_from n (first (split blank (b ∷ bs)))) (filled (rest (split blank (b ∷ bs))))
      unfolding plain number_from number_grown
      digit_number n (inl h) = simp (parts, first_onto, rest_onto, e, v, lt-ltb _ _ h) (r.number (n * 10 + d) h)
      digit_number n (inr h) = simp (parts, first_onto, rest_onto, e, v, le-ltb _ _ h, plain_malformed bs, big (first (split blank bs)) (n * 10 + d) h, no_number)

      digit_start : meaning_of (plain line.Start (b ∷ bs)) ≡ meant (filled (split blank (b ∷ bs)))
      unfolding plain
      digit_start = simp (parts, filled_onto, e, number_first b d (first (split blank bs)) v) (r.number d (omega arith))

      on_digit : hexadecimal b ≡ Some d → Reads (b ∷ bs)
      on_digit x = let h : d < 16 = omega arith in record {
        start = digit_start;
        number = λ n k. digit_number n (lt_or_le (n * 10 + d) 4294967296);
        gap = λ n. hex_gap d h x n (simp e);
        word = λ n w k l. hex_word d h x n w k l (simp e);
        end = λ n w. ended n w (simp e);
      }

    on_letter : (d : ℕ) → d < 16 → symbol_of b ≡ symbol.Letter d → decimal b ≡ None → hexadecimal b ≡ Some d → Reads (b ∷ bs)
    on_letter d m e v x = record {
      start = no_start v (simp e);
      number = λ n k. no_digit v n (simp e);
      gap = λ n. hex_gap d m x n (simp e);
      word = λ n w k l. hex_word d m x n w k l (simp e);
      end = λ n w. ended n w (simp e);
    }

    module _ (e : symbol_of b ≡ symbol.Other) (x : hexadecimal b ≡ None) where
      other_gap : (n : ℕ) → meaning_of (plain (line.Gap n) (b ∷ bs)) ≡ with_number (Some n) (filled (split blank (b ∷ bs)))
      unfolding plain word_from
      other_gap n = simp (parts, filled_onto, e, x, plain_malformed bs)

      other_word : (n w k l : ℕ)
          → meaning_of (plain (line.Word n w k) (b ∷ bs)) ≡ with_word (Some n) (word_from l w (first (split blank (b ∷ bs)))) (filled (rest (split blank (b ∷ bs))))
      unfolding plain word_from
      other_word n w k zero = simp (parts, first_onto, rest_onto, e, plain_malformed bs)
      other_word n w k (suc l) = simp (parts, first_onto, rest_onto, e, x, plain_malformed bs)

      on_other : decimal b ≡ None → Reads (b ∷ bs)
      on_other v = record {
        start = no_start v (simp e);
        number = λ n k. no_digit v n (simp e);
        gap = other_gap;
        word = λ n w k l q h m. other_word n w k l;
        end = λ n w. ended n w (simp e);
      }

on_byte_lem : (b : ℕ) (bs : List ℕ) → Byte b → Reads bs → Reads (b ∷ bs)
on_byte_lem b bs (separates e s) r = on_blank b bs r e s
on_byte_lem b bs (digit d m e s v x) r = on_digit b bs r s d m e v x
on_byte_lem b bs (letter d m e s v x) r = on_letter b bs r s d m e v x
on_byte_lem b bs (other e s v x) r = on_other b bs r s e x v

reads : (bs : List ℕ) → Reads bs
reads [] = at_end_lem
reads (b ∷ bs) = on_byte_lem b bs (byte b) (reads bs)

-- ---- a line

pub line_tokens : (bs : List ℕ) → line_means bs ≡ line_meant bs
line_tokens bs = ap meaning_of (outside line.Start bs) ∙ (reads (uncommented bs)).start
