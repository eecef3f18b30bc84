-- Laws of tokens: a byte more of a token, and the next token of a text.
-- Assumes nothing.
use mathlib.Core.Bool.{Bool, true, false, ◌&&◌, not, cond}
use Rattle.std.specs.Prelude.{Ok, Err}
use Rattle.std.specs.List.{prefix_len, list_all, fold}
use Rattle.std.specs.Str.{bytes_eq}
use Rattle.std.specs.Char.{is_ascii_graphic}
use mathlib.Core.Path.{◌≡◌, refl, ap, ◌∙◌}
use mathlib.Core.List.{List, [], ◌∷◌}
use Prim.Native.Nat.{ℕ, suc, ◌+◌, ◌-◌, ◌<◌, ◌≤◌}
use native.Mathlib.Omega.{arith}
use native.Mathlib.Numerals.{add-one}
use lib.ListN.{length, take, drop, get_or, length-take, length-drop, drop_of_length-le}
use lib.Seq.{drop-cons, drop-drop, get_or-drop, take_all}
use lib.Dec.{eqb}
use Rattle.std.proofs.lemmas.Bool.Decides.{nat_tests}
use Rattle.bits.specs.Byte.{pick}
use Rattle.vcd_text.specs.declared.NumberError.TheVariants.{Bad}
use Rattle.vcd_text.specs.Token.{white, white_length, word_length, Token, tokens, same_bytes, graphic, all_graphic, Number, longer_by, digits_from, decimal_of}

-- ---- white space and its end

-- the bytes that a chain takes while they are white, or while they are not
pub white_run : (bs : List ℕ) → prefix_len white bs ≡ white_length bs
unfolding white_length
white_run [] = refl
white_run (b ∷ rest) = white_run_step b rest (white b) (white_run rest)
  where
    white_run_step : (b : ℕ) (rest : List ℕ) (w : Bool) → prefix_len white rest ≡ white_length rest → cond w (1 + prefix_len white rest) 0 ≡ pick w (suc (white_length rest)) 0
    white_run_step b rest true e = omega (arith, e)
    white_run_step b rest false e = refl

pub word_run : (bs : List ℕ) → prefix_len (λ b. not (white b)) bs ≡ word_length bs
unfolding word_length
word_run [] = refl
word_run (b ∷ rest) = word_run_step b rest (white b) (word_run rest)
  where
    word_run_step : (b : ℕ) (rest : List ℕ) (w : Bool) → prefix_len (λ c. not (white c)) rest ≡ word_length rest
        → cond (not w) (1 + prefix_len (λ c. not (white c)) rest) 0 ≡ pick w 0 (suc (word_length rest))
    word_run_step b rest true e = refl
    word_run_step b rest false e = omega (arith, e)

-- a byte more, for those who read byte by byte
module _ (text : List ℕ) (i : ℕ) (h : i < length text) where
  pub blank_more : white (get_or text i 0) ≡ true → (i + 1) + white_length (drop (i + 1) text) ≡ i + white_length (drop i text)
  unfolding white_length
  blank_more w = rw (drop-cons text i 0 h, add-one) (simp w (omega arith))

  pub blank_stop : white (get_or text i 0) ≡ false → i ≡ i + white_length (drop i text)
  unfolding white_length
  blank_stop w = rw (drop-cons text i 0 h) (simp w (omega arith))

  pub word_more : white (get_or text i 0) ≡ false → (i + 1) + word_length (drop (i + 1) text) ≡ i + word_length (drop i text)
  unfolding word_length
  word_more w = rw (drop-cons text i 0 h, add-one) (simp w (omega arith))

  pub word_stops : white (get_or text i 0) ≡ true → i ≡ i + word_length (drop i text)
  unfolding word_length
  word_stops w = rw (drop-cons text i 0 h) (simp w (omega arith))

pub word_ends : (text : List ℕ) (i : ℕ) → length text ≤ i → i ≡ i + word_length (drop i text)
unfolding word_length
word_ends text i h = rw (drop_of_length-le text {i = i} h) (omega arith)

-- ---- equal texts

same_step : (t : Bool) {f g : Bool} → f ≡ g → (t && f) ≡ pick t g false
same_step true e = e
same_step false e = refl

pub same_pointwise : (a b : List ℕ) → bytes_eq a b ≡ same_bytes a b
unfolding same_bytes
same_pointwise [] [] = refl
same_pointwise [] (y ∷ ys) = refl
same_pointwise (x ∷ xs) [] = refl
same_pointwise (x ∷ xs) (y ∷ ys) = same_step (eqb x y) (same_pointwise xs ys)

-- ---- bytes of codes and names

graphic_ascii : (b : ℕ) → is_ascii_graphic b ≡ graphic b
unfolding graphic
graphic_ascii b = grind (arith, nat_tests)

pub all_graphic_list : (t : List ℕ) → list_all is_ascii_graphic t ≡ all_graphic t
unfolding all_graphic
all_graphic_list [] = refl
all_graphic_list (b ∷ rest) = rw (graphic_ascii b) (same_step (graphic b) (all_graphic_list rest))

-- ---- decimal numbers

pub digits_fold : (n : Number) (t : List ℕ) → fold longer_by n t ≡ digits_from n t
unfolding digits_from
digits_fold n [] = refl
digits_fold n (b ∷ rest) = digits_fold (longer_by n b) rest

pub decimal_none : (t : List ℕ) → length t ≡ 0 → Err Bad ≡ decimal_of t
unfolding decimal_of
decimal_none [] h = refl
decimal_none (b ∷ rest) h = absurd (omega arith)

pub decimal_some : (t : List ℕ) → (length t ≡ 0 → ⊥) → digits_from (Ok 0) t ≡ decimal_of t
unfolding decimal_of
decimal_some [] h = absurd (h refl)
decimal_some (b ∷ rest) h = refl

-- ---- the next token

-- what goes on with a token has no token until white space
module _ (i b : ℕ) (rest : List ℕ) where
  word_step : (w : Bool) → white b ≡ w → tokens true (suc i) rest ≡ tokens false (suc i + word_length rest) (drop (word_length rest) rest)
      → tokens true i (b ∷ rest) ≡ tokens false (i + word_length (b ∷ rest)) (drop (word_length (b ∷ rest)) (b ∷ rest))
  unfolding tokens word_length
  word_step true e ih = let z : i + 0 ≡ i = omega arith in simp (e, z)
  word_step false e ih = let z : i + suc (word_length rest) ≡ suc i + word_length rest = omega arith in simp (e, z) ih

  skip_step : (w : Bool) → white b ≡ w → tokens false (suc i) rest ≡ tokens false (suc i + white_length rest) (drop (white_length rest) rest)
      → tokens false i (b ∷ rest) ≡ tokens false (i + white_length (b ∷ rest)) (drop (white_length (b ∷ rest)) (b ∷ rest))
  unfolding tokens white_length
  skip_step true e ih = let z : i + suc (white_length rest) ≡ suc i + white_length rest = omega arith in simp (e, z) ih
  skip_step false e ih = let z : i + 0 ≡ i = omega arith in simp (e, z)

tokens_word : (i : ℕ) (bs : List ℕ) → tokens true i bs ≡ tokens false (i + word_length bs) (drop (word_length bs) bs)
unfolding tokens word_length
tokens_word i [] = refl
tokens_word i (b ∷ rest) = word_step i b rest (white b) refl (tokens_word (suc i) rest)

pub tokens_skip : (i : ℕ) (bs : List ℕ) → tokens false i bs ≡ tokens false (i + white_length bs) (drop (white_length bs) bs)
unfolding tokens white_length
tokens_skip i [] = refl
tokens_skip i (b ∷ rest) = skip_step i b rest (white b) refl (tokens_skip (suc i) rest)

-- the byte after the white bytes is not white
stops_step : (b : ℕ) (rest : List ℕ) (w : Bool) → white b ≡ w → (white_length rest < length rest → white (get_or rest (white_length rest) 0) ≡ false)
    → white_length (b ∷ rest) < length (b ∷ rest) → white (get_or (b ∷ rest) (white_length (b ∷ rest)) 0) ≡ false
unfolding white_length
stops_step b rest true e ih h = simp e (ih (omega (arith, simp e at h)))
stops_step b rest false e ih h = simp e

stops : (bs : List ℕ) → white_length bs < length bs → white (get_or bs (white_length bs) 0) ≡ false
unfolding white_length
stops [] h = absurd (omega arith)
stops (b ∷ rest) h = stops_step b rest (white b) refl (stops rest) h

-- a token begins at a byte that is not white
begins : (p b : ℕ) (rest : List ℕ) → white b ≡ false
    → tokens false p (b ∷ rest) ≡ record { place = p; bytes = take (word_length (b ∷ rest)) (b ∷ rest) } ∷ tokens false (p + word_length (b ∷ rest)) (drop (word_length (b ∷ rest)) (b ∷ rest))
unfolding tokens word_length
begins p b rest w = let z : p + suc (word_length rest) ≡ suc p + word_length rest = omega arith in simp (w, z) (ap (λ (ts : List Token). record { place = p; bytes = b ∷ take (word_length rest) rest } ∷ ts) (tokens_word (suc p) rest))

module _ (text : List ℕ) (i p : ℕ) (from : p ≡ i + white_length (drop i text)) where
  at_first : tokens false i (drop i text) ≡ tokens false p (drop p text)
  at_first = tokens_skip i (drop i text) ∙ rw (drop-drop (white_length (drop i text)) i text, from) refl

  pub no_token_lem : length text ≤ p → tokens false i (drop i text) ≡ []
  unfolding tokens
  no_token_lem h = at_first ∙ rw (drop_of_length-le text {i = p} h) refl

  solid : p < length text → white (get_or text p 0) ≡ false
  solid h = rw (from, ← get_or-drop i text (white_length (drop i text)) 0) (stops (drop i text) (simp length-drop (omega arith)))

  pub next_token : (e : ℕ) → e ≡ p + word_length (drop p text) → p < length text
      → tokens false i (drop i text) ≡ record { place = p; bytes = take (e - p) (drop p text) } ∷ tokens false e (drop e text)
  next_token e to h =
      at_first ∙ ap (tokens false p) (drop-cons text p 0 h) ∙ begins p (get_or text p 0) (drop (suc p) text) (solid h)
      ∙ rw (← drop-cons text p 0 h, drop-drop (word_length (drop p text)) p text, ← to) (let z : word_length (drop p text) ≡ e - p = omega arith in simp z)

  pub word_some : (e : ℕ) → e ≡ p + word_length (drop p text) → p < length text → p < e
  unfolding word_length
  word_some e to h = rw to (rw (drop-cons text p 0 h) (simp (solid h) (omega arith)))

within_step : (b : ℕ) (rest : List ℕ) (w : Bool) → word_length rest ≤ length rest → pick w 0 (suc (word_length rest)) ≤ suc (length rest)
within_step b rest true h = omega arith
within_step b rest false h = omega arith

word_fits : (bs : List ℕ) → word_length bs ≤ length bs
unfolding word_length
word_fits [] = omega arith
word_fits (b ∷ rest) = within_step b rest (white b) (word_fits rest)

pub word_within : (text : List ℕ) (p e : ℕ) → e ≡ p + word_length (drop p text) → p ≤ length text → e ≤ length text
word_within text p e to h = omega (arith, to, simp length-drop at (word_fits (drop p text)))

-- a token has a byte
pub some_byte : (text : List ℕ) (i p e : ℕ) → p ≡ i + white_length (drop i text) → e ≡ p + word_length (drop p text) → p < length text → 0 < length (take (e - p) (drop p text))
some_byte text i p e from to h = simp (length-take, length-drop) (omega (arith, word_some text i p from e to h))

-- what is left of a token after its first byte
pub rest_whole : (t : List ℕ) → take (length t - 1) (drop 1 t) ≡ drop 1 t
rest_whole t = take_all (length t - 1) (drop 1 t) (simp length-drop (omega arith))
