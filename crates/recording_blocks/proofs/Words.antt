-- Words and bytes: lengths, words by their indices, and back and forth.
-- Assumes nothing.
use mathlib.Core.Path.{◌≡◌, refl, sym, ap, ap₂, ◌∙◌}
use mathlib.Core.List.{List, [], ◌∷◌, ◌++◌, append-nil}
use Prim.Native.Nat.{ℕ, suc, zero, ◌+◌, ◌-◌, ◌*◌, ◌/◌, ◌%◌, ◌<◌, ◌≤◌}
use native.Mathlib.Omega.{arith}
use borrow.Author.Tests.{ne_eqb}
use mathlib.Core.Bool.{Bool, false, ◌&&◌}
use lib.Dec.{eqb}
use lib.ListN.{length, take, drop, get_or, length-drop, drop_of_length-le}
use lib.Seq.{get_or-take, get_or-drop, length-take-le, drop-drop}
use Rattle.std.specs.List.{list_all}
use Rattle.std.proofs.lemmas.List.{drop-take}
use Rattle.bits.specs.Byte.{pick}
use Rattle.recording_blocks.specs.Bytes.{Bytes, four_bytes, from_four, words_bytes, words_of, all_zero}
use Rattle.recording_blocks.specs.Block.{all_words}

pub length_words : (bytes : List ℕ) → length (words_of bytes) ≡ length bytes / 4
unfolding words_of
length_words [] = refl
length_words (a ∷ []) = refl
length_words (a ∷ b ∷ []) = refl
length_words (a ∷ b ∷ c ∷ []) = refl
length_words (a ∷ b ∷ c ∷ d ∷ rest) = omega (arith, length_words rest)

pub length_bytes : (ws : List ℕ) → length (words_bytes ws) ≡ 4 * length ws
unfolding words_bytes
length_bytes [] = refl
length_bytes (w ∷ ws) = omega (arith, length_bytes ws)

-- the word with an index is of the four bytes from four times that index on
pub word_at : (bytes : List ℕ) (i : ℕ) → i < length bytes / 4
    → from_four (get_or bytes (4 * i) 0) (get_or bytes (4 * i + 1) 0) (get_or bytes (4 * i + 2) 0) (get_or bytes (4 * i + 3) 0) ≡ get_or (words_of bytes) i 0
unfolding words_of
word_at [] i h = absurd (omega arith)
word_at (a ∷ []) i h = absurd (omega arith)
word_at (a ∷ b ∷ []) i h = absurd (omega arith)
word_at (a ∷ b ∷ c ∷ []) i h = absurd (omega arith)
word_at (a ∷ b ∷ c ∷ d ∷ rest) zero h = refl
word_at (a ∷ b ∷ c ∷ d ∷ rest) (suc i) h =
    let later : (m n : ℕ) → m ≡ suc (suc (suc (suc n))) → get_or (a ∷ b ∷ c ∷ d ∷ rest) m 0 ≡ get_or rest n 0 = λ m n e. ap (λ (k : ℕ). get_or (a ∷ b ∷ c ∷ d ∷ rest) k 0) e in
    rw (
      later (4 * suc i) (4 * i) (omega arith),
      later (4 * suc i + 1) (4 * i + 1) (omega arith),
      later (4 * suc i + 2) (4 * i + 2) (omega arith),
      later (4 * suc i + 3) (4 * i + 3) (omega arith),
    ) (word_at rest i (omega arith))

-- the words from one on are of the bytes from four times its index on
pub words_drop : (i : ℕ) (bytes : List ℕ) → words_of (drop (4 * i) bytes) ≡ drop i (words_of bytes)
unfolding words_of
words_drop zero bytes = refl
words_drop (suc i) [] = ap words_of (drop_of_length-le {A = ℕ} [] {i = 4 * suc i} (omega arith))
words_drop (suc i) (a ∷ []) = ap words_of (drop_of_length-le (a ∷ []) {i = 4 * suc i} (omega arith))
words_drop (suc i) (a ∷ b ∷ []) = ap words_of (drop_of_length-le (a ∷ b ∷ []) {i = 4 * suc i} (omega arith))
words_drop (suc i) (a ∷ b ∷ c ∷ []) = ap words_of (drop_of_length-le (a ∷ b ∷ c ∷ []) {i = 4 * suc i} (omega arith))
words_drop (suc i) (a ∷ b ∷ c ∷ d ∷ rest) =
    let four : 4 * suc i ≡ suc (suc (suc (suc (4 * i)))) = omega arith in
    ap (λ (n : ℕ). words_of (drop n (a ∷ b ∷ c ∷ d ∷ rest))) four ∙ words_drop i rest

-- whole words are zero where their bytes are
zero_four : (a b c d : ℕ) (t : Bool) → (eqb a 0 && (eqb b 0 && (eqb c 0 && (eqb d 0 && t)))) ≡ pick (eqb (from_four a b c d) 0) t false
zero_four zero zero zero zero t = refl
zero_four zero zero zero (suc d) t = rw (ne_eqb (suc d) 0 (λ e. omega arith), ne_eqb (from_four 0 0 0 (suc d)) 0 (λ e. omega arith)) refl
zero_four zero zero (suc c) d t = rw (ne_eqb (suc c) 0 (λ e. omega arith), ne_eqb (from_four 0 0 (suc c) d) 0 (λ e. omega arith)) refl
zero_four zero (suc b) c d t = rw (ne_eqb (suc b) 0 (λ e. omega arith), ne_eqb (from_four 0 (suc b) c d) 0 (λ e. omega arith)) refl
zero_four (suc a) b c d t = rw (ne_eqb (suc a) 0 (λ e. omega arith), ne_eqb (from_four (suc a) b c d) 0 (λ e. omega arith)) refl

pub zero_bytes : (bytes : List ℕ) → length bytes % 4 ≡ 0 → list_all (λ b. eqb b 0) bytes ≡ all_zero (words_of bytes)
unfolding words_of all_zero
zero_bytes [] h = refl
zero_bytes (a ∷ []) h = absurd (omega arith)
zero_bytes (a ∷ b ∷ []) h = absurd (omega arith)
zero_bytes (a ∷ b ∷ c ∷ []) h = absurd (omega arith)
zero_bytes (a ∷ b ∷ c ∷ d ∷ rest) h =
    zero_four a b c d (list_all (λ b. eqb b 0) rest) ∙ ap (λ (t : Bool). pick (eqb (from_four a b c d) 0) t false) (zero_bytes rest (omega arith))

-- a word back from its bytes
pub four_back : (n : ℕ) → from_four (n % 256) (n / 256 % 256) (n / 65536 % 256) (n / 16777216) ≡ n
four_back n = omega arith

-- the words of the bytes of words are these words
pub words_back : (ws : List ℕ) → words_of (words_bytes ws) ≡ ws
unfolding words_of words_bytes
words_back [] = refl
words_back (w ∷ ws) = ap₂ (λ (v : ℕ) (vs : List ℕ). v ∷ vs) (four_back w) (words_back ws)

-- the parts of a number, by whole multiples
lowest : (x y : ℕ) → x < 256 → (x + y * 256) % 256 ≡ x
lowest x y h = omega arith

above : (x y : ℕ) → x < 256 → (x + y * 256) / 256 ≡ y
above x y h = omega arith

above_two : (x y : ℕ) → x < 65536 → (x + y * 65536) / 65536 ≡ y
above_two x y h = omega arith

-- the four bytes of a number made of four bytes
pub bytes_of_four : (a b c d : ℕ) → a < 256 → b < 256 → c < 256 → four_bytes (from_four a b c d) ≡ a ∷ b ∷ c ∷ d ∷ []
bytes_of_four a b c d ha hb hc =
    let n = from_four a b c d in
    let whole : a + (b + (c + d * 256) * 256) * 256 ≡ n = omega arith in
    let first : n % 256 ≡ a = rw whole at (lowest a (b + (c + d * 256) * 256) ha) in
    let upper : n / 256 ≡ b + (c + d * 256) * 256 = rw whole at (above a (b + (c + d * 256) * 256) ha) in
    let second : n / 256 % 256 ≡ b = rw upper (lowest b (c + d * 256) hb) in
    let halves : (a + b * 256) + (c + d * 256) * 65536 ≡ n = omega arith in
    let half : n / 65536 ≡ c + d * 256 = rw halves at (above_two (a + b * 256) (c + d * 256) (omega arith)) in
    let third : n / 65536 % 256 ≡ c = rw half (lowest c d hc) in
    let fourth : n / 16777216 ≡ d = omega arith in
    rw (first, second, third, fourth)

-- the bytes of the words of whole words of bytes are these bytes
pub bytes_back : (bytes : List ℕ) → length bytes % 4 ≡ 0 → Bytes bytes → words_bytes (words_of bytes) ≡ bytes
unfolding words_of words_bytes
bytes_back [] h k = refl
bytes_back (a ∷ []) h k = absurd (omega arith)
bytes_back (a ∷ b ∷ []) h k = absurd (omega arith)
bytes_back (a ∷ b ∷ c ∷ []) h k = absurd (omega arith)
bytes_back (a ∷ b ∷ c ∷ d ∷ rest) h k =
    ap₂ (λ (x y : List ℕ). x ++ y) (bytes_of_four a b c d (k 0) (k 1) (k 2)) (bytes_back rest (omega arith) (λ i. k (suc (suc (suc (suc i))))))

-- the words of a block from one on, and the bytes that hold them
pub words_from : (b : List ℕ) (i : ℕ) → i ≤ 126 → words_of (take (508 - (4 + 4 * i)) (drop (4 + 4 * i) b)) ≡ drop i (all_words b)
unfolding all_words
words_from b i h =
    let all : 4 * i + (508 - (4 + 4 * i)) ≡ 504 = omega arith in
    ap (λ (l : List ℕ). words_of (take (508 - (4 + 4 * i)) l)) (sym (drop-drop (4 * i) 4 b))
    ∙ ap words_of (sym (drop-take (4 * i) (508 - (4 + 4 * i)) (drop 4 b)))
    ∙ ap (λ (n : ℕ). words_of (drop (4 * i) (take n (drop 4 b)))) all
    ∙ words_drop i (take 504 (drop 4 b))

pub rest_whole : (b : List ℕ) (i : ℕ) → 512 ≤ length b → i ≤ 126 → length (take (508 - (4 + 4 * i)) (drop (4 + 4 * i) b)) % 4 ≡ 0
rest_whole b i h k =
    let size : length (take (508 - (4 + 4 * i)) (drop (4 + 4 * i) b)) ≡ 508 - (4 + 4 * i) = length-take-le (508 - (4 + 4 * i)) (drop (4 + 4 * i) b) (omega (arith, length-drop (4 + 4 * i) b)) in
    omega (arith, size)

-- the 126 words of a block
module _ (b : List ℕ) (h : 512 ≤ length b) where
  within : length (take 504 (drop 4 b)) ≡ 504
  within = length-take-le 504 (drop 4 b) (omega (arith, length-drop 4 b))

  pub length_all : length (all_words b) ≡ 126
  unfolding all_words
  length_all = length_words (take 504 (drop 4 b)) ∙ omega (arith, within)

  byte_of : (i j : ℕ) → i < 504 → 4 + i ≡ j → get_or (take 504 (drop 4 b)) i 0 ≡ get_or b j 0
  byte_of i j k e = get_or-take 504 (drop 4 b) i 0 k ∙ get_or-drop 4 b i 0 ∙ ap (λ (n : ℕ). get_or b n 0) e

  pub word_of_lem : (i : ℕ) → i < 126
      → from_four (get_or b (4 + 4 * i) 0) (get_or b (4 + 4 * i + 1) 0) (get_or b (4 + 4 * i + 2) 0) (get_or b (4 + 4 * i + 3) 0) ≡ get_or (all_words b) i 0
  unfolding all_words
  word_of_lem i k =
      rw (
        byte_of (4 * i) (4 + 4 * i) (omega arith) (omega arith),
        byte_of (4 * i + 1) (4 + 4 * i + 1) (omega arith) (omega arith),
        byte_of (4 * i + 2) (4 + 4 * i + 2) (omega arith) (omega arith),
        byte_of (4 * i + 3) (4 + 4 * i + 3) (omega arith) (omega arith),
      ) at (word_at (take 504 (drop 4 b)) i (omega (arith, within)))

  -- the first of them, put to the start of as many places
  pub all_front : (places new : List ℕ) (k : ℕ) → k ≤ 126 → k ≤ length places
      → new ≡ take (length (take k places)) (words_of (take 504 (drop 4 b))) ++ drop (length (words_of (take 504 (drop 4 b)))) (take k places)
      → new ++ drop k places ≡ take k (all_words b) ++ drop k places
  unfolding all_words
  all_front places new k m h e =
      let size : length (take k places) ≡ k = length-take-le k places h in
      let none : drop (length (words_of (take 504 (drop 4 b)))) (take k places) ≡ [] =
      drop_of_length-le (take k places) (omega (arith, size, m, length_words (take 504 (drop 4 b)), within)) in
      ap (λ (l : List ℕ). l ++ drop k places)
      (e ∙ ap₂ (λ (n : ℕ) (l : List ℕ). take n (words_of (take 504 (drop 4 b))) ++ l) size none ∙ append-nil (take k (words_of (take 504 (drop 4 b)))))
