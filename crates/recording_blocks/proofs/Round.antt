-- A block written and read, and read and written: the same words, and the same bytes.
-- Assumes nothing.
use mathlib.Core.Path.{◌≡◌, refl, sym, ap, ap₂, ◌∙◌}
use mathlib.Core.Bool.{Bool, true}
use mathlib.Core.List.{List, [], ◌∷◌, ◌++◌}
use Prim.Native.Nat.{ℕ, zero, suc, ◌+◌, ◌*◌, ◌-◌, ◌/◌, ◌%◌, ◌<◌, ◌≤◌}
use native.Mathlib.Omega.{arith}
use lib.Dec.{eqb-suc-zero}
use lib.ListN.{length, take, drop, get_or, replicate, length-drop, take-append-drop}
use lib.Seq.{take_at, drop_at, take-add, get_or-append-add, get_or-drop, length-take-le}
use Rattle.std.proofs.lemmas.List.Sums.{sum_by-cons}
use Rattle.bits.specs.Byte.{pick}
use Rattle.recording_blocks.specs.Bytes.{Bytes, Words32, two_bytes, four_bytes, from_two, words_bytes, words_of, all_zero, sum}
use Rattle.recording_blocks.specs.Block.{padded, front, block_of, number_of, count_of, sum_of, all_words, block_words, unused, refusal}
use Rattle.recording_blocks.proofs.Words.{length_bytes, words_back, bytes_back, four_back, bytes_of_four, length_all}
use Rattle.recording_blocks.proofs.Loops.{length_padded, padded_at}
use Rattle.recording_blocks.proofs.Parts.{length_front, length_block}
use Rattle.recording_blocks.specs.Refusals.{Good}
use Rattle.recording_blocks.proofs.Refusals.{good, gives_rest}

-- ---- written, then read

two_back : (n : ℕ) → from_two (n % 256) (n / 256) ≡ n
two_back n = omega arith

zeros_zero : (n : ℕ) → all_zero (replicate n 0) ≡ true
unfolding all_zero
zeros_zero zero = refl
zeros_zero (suc n) = zeros_zero n

module _ (number : ℕ) (ws : List ℕ) (h : length ws ≤ 126) where
  pub number_back : number_of (block_of number ws) ≡ number
  unfolding number_of block_of front
  number_back = two_back number

  pub count_back : count_of (block_of number ws) ≡ length ws
  unfolding count_of block_of front
  count_back = two_back (length ws)

  pub all_back : all_words (block_of number ws) ≡ padded ws
  unfolding all_words block_of front
  all_back =
      ap words_of (take_at (words_bytes (padded ws)) (four_bytes (sum (front number ws))) 504 (length_bytes (padded ws) ∙ omega (arith, length_padded ws h)))
      ∙ words_back (padded ws)

  pub words_of_block : block_words (block_of number ws) ≡ ws
  words_of_block = ap₂ take count_back all_back ∙ take_at ws (replicate (126 - length ws) 0) (length ws) refl

  unused_of_block : unused (block_of number ws) ≡ replicate (126 - length ws) 0
  unused_of_block = ap₂ drop count_back all_back ∙ drop_at ws (replicate (126 - length ws) 0) (length ws) refl

  first_part : take 508 (block_of number ws) ≡ front number ws
  unfolding block_of
  first_part = take_at (front number ws) (four_bytes (sum (front number ws))) 508 (length_front number ws h)

  sum_byte : (j : ℕ) → get_or (block_of number ws) (508 + j) 0 ≡ get_or (four_bytes (sum (front number ws))) j 0
  unfolding block_of
  sum_byte j =
      ap (λ (n : ℕ). get_or (block_of number ws) (n + j) 0) (sym (length_front number ws h))
      ∙ get_or-append-add (front number ws) (four_bytes (sum (front number ws))) j 0

  sum_back : sum_of (block_of number ws) ≡ sum (front number ws)
  unfolding sum_of
  sum_back = rw (sum_byte 0, sum_byte 1, sum_byte 2, sum_byte 3) (four_back (sum (front number ws)))

  -- the reader takes what the writer makes
  pub block_accepted : refusal number (block_of number ws) ≡ 0
  block_accepted =
      let b = block_of number ws in
      sym (gives_rest number b (omega (arith, length_block number ws h)) (sum_of b) (sum (take 508 b)) refl refl (sum_back ∙ sym (ap sum first_part))
      (number_of b) refl number_back (count_of b) refl (omega (arith, count_back)) true
      (sym (ap all_zero unused_of_block ∙ zeros_zero (126 - length ws))))

-- ---- accepted, then written

-- the first four elements
first_four : (b : List ℕ) → 4 ≤ length b → take 4 b ≡ get_or b 0 0 ∷ get_or b 1 0 ∷ get_or b 2 0 ∷ get_or b 3 0 ∷ []
first_four [] h = absurd (omega arith)
first_four (x ∷ []) h = absurd (omega arith)
first_four (x ∷ y ∷ []) h = absurd (omega arith)
first_four (x ∷ y ∷ z ∷ []) h = absurd (omega arith)
first_four (x ∷ y ∷ z ∷ w ∷ rest) h = refl

all_zeros : (xs : List ℕ) → all_zero xs ≡ true → xs ≡ replicate (length xs) 0
unfolding all_zero
all_zeros [] e = refl
all_zeros (zero ∷ xs) e = ap (λ (t : List ℕ). 0 ∷ t) (all_zeros xs e)
all_zeros (suc x ∷ xs) e =
    absurd (let z : ◌≡◌ {A = ℕ} 0 1 = ap (λ (t : Bool). pick t 1 0) (rw (eqb-suc-zero x) at e) in omega arith)

two_of : (a b : ℕ) → a < 256 → two_bytes (from_two a b) ≡ a ∷ b ∷ []
two_of a b h =
    let low : from_two a b % 256 ≡ a = omega arith in
    let high : from_two a b / 256 ≡ b = omega arith in
    rw (low, high)

-- a part of bytes is of bytes
pub taken_bytes : (n : ℕ) (xs : List ℕ) → Bytes xs → Bytes (take n xs)
taken_bytes zero xs h i = omega arith
taken_bytes (suc n) [] h i = omega arith
taken_bytes (suc n) (x ∷ xs) h zero = h 0
taken_bytes (suc n) (x ∷ xs) h (suc i) = taken_bytes n xs (λ j. h (suc j)) i

pub dropped_bytes : (n : ℕ) (xs : List ℕ) → Bytes xs → Bytes (drop n xs)
dropped_bytes n xs h i = rw (get_or-drop n xs i 0) (h (n + i))

module _ (due : ℕ) (b : List ℕ) (k : Bytes b) (e : refusal due b ≡ 0) where
  g : Good due b
  g = good due b e

  within : length (take 504 (drop 4 b)) ≡ 504
  within = length-take-le 504 (drop 4 b) (omega (arith, length-drop 4 b, g.full))

  part_bytes : Bytes (take 504 (drop 4 b))
  part_bytes = taken_bytes 504 (drop 4 b) (dropped_bytes 4 b k)

  pub count_words : length (block_words b) ≡ count_of b
  count_words = length-take-le (count_of b) (all_words b) (omega (arith, length_all b g.full, g.counted))

  -- the words are those that the block holds, and zeros
  all_padded : all_words b ≡ padded (block_words b)
  all_padded =
      let n : length (unused b) ≡ 126 - length (block_words b) =
      length-drop (count_of b) (all_words b) ∙ omega (arith, length_all b g.full, count_words) in
      sym (take-append-drop (count_of b) (all_words b))
      ∙ ap (λ (t : List ℕ). block_words b ++ t) (all_zeros (unused b) g.zero ∙ ap (λ (m : ℕ). replicate m 0) n)

  payload : take 504 (drop 4 b) ≡ words_bytes (padded (block_words b))
  unfolding all_words
  payload =
      let n : length (take 504 (drop 4 b)) % 4 ≡ 0 = omega (arith, within) in
      sym (bytes_back (take 504 (drop 4 b)) n part_bytes) ∙ ap words_bytes all_padded

  head : take 4 b ≡ two_bytes due ++ two_bytes (length (block_words b))
  unfolding number_of count_of
  head =
      let p : two_bytes due ≡ get_or b 0 0 ∷ get_or b 1 0 ∷ [] = ap two_bytes (sym g.numbered) ∙ two_of (get_or b 0 0) (get_or b 1 0) (k 0) in
      let q : two_bytes (length (block_words b)) ≡ get_or b 2 0 ∷ get_or b 3 0 ∷ [] = ap two_bytes count_words ∙ two_of (get_or b 2 0) (get_or b 3 0) (k 2) in
      first_four b (omega (arith, g.full)) ∙ sym (ap₂ (λ (x y : List ℕ). x ++ y) p q)

  front_back : take 508 b ≡ front due (block_words b)
  unfolding front
  front_back = take-add 4 504 b ∙ ap₂ (λ (x y : List ℕ). x ++ y) head payload

  tail : take 4 (drop 508 b) ≡ four_bytes (sum (front due (block_words b)))
  unfolding sum_of
  tail =
      let s : four_bytes (sum (front due (block_words b))) ≡ get_or b 508 0 ∷ get_or b 509 0 ∷ get_or b 510 0 ∷ get_or b 511 0 ∷ [] =
      ap four_bytes (ap sum (sym front_back) ∙ sym g.added) ∙ bytes_of_four (get_or b 508 0) (get_or b 509 0) (get_or b 510 0) (get_or b 511 0) (k 508) (k 509) (k 510) in
      first_four (drop 508 b) (omega (arith, length-drop 508 b, g.full))
      ∙ rw (get_or-drop 508 b 0 0, get_or-drop 508 b 1 0, get_or-drop 508 b 2 0, get_or-drop 508 b 3 0) (sym s)

  -- an accepted block is what the writer makes of its words
  pub block_written : take 512 b ≡ block_of due (block_words b)
  unfolding block_of
  block_written = take-add 508 4 b ∙ ap₂ (λ (x y : List ℕ). x ++ y) front_back tail

  -- and its number is one of two bytes
  pub number_small : due < 65536
  unfolding number_of
  number_small = omega (arith, g.numbered, k 0, k 1)

-- ---- a block is of bytes

pub bytes_append : (xs ys : List ℕ) → Bytes xs → Bytes ys → Bytes (xs ++ ys)
bytes_append [] ys h k i = k i
bytes_append (x ∷ xs) ys h k zero = h 0
bytes_append (x ∷ xs) ys h k (suc i) = bytes_append xs ys (λ j. h (suc j)) k i

sum_bound : (xs : List ℕ) → Bytes xs → sum xs ≤ 255 * length xs
sum_bound [] h = omega arith
sum_bound (x ∷ xs) h = omega (arith, h 0, sum_bound xs (λ j. h (suc j)), sum_by-cons (λ y. y) x xs)

four_small : (n : ℕ) → n < 4294967296 → Bytes (four_bytes n)
four_small n h zero = omega arith
four_small n h (suc zero) = omega arith
four_small n h (suc (suc zero)) = omega arith
four_small n h (suc (suc (suc zero))) = omega arith
four_small n h (suc (suc (suc (suc i)))) = omega arith

two_small : (n : ℕ) → n < 65536 → Bytes (two_bytes n)
two_small n h zero = omega arith
two_small n h (suc zero) = omega arith
two_small n h (suc (suc i)) = omega arith

words_small : (ws : List ℕ) → Words32 ws → Bytes (words_bytes ws)
unfolding words_bytes
words_small [] h i = omega arith
words_small (w ∷ ws) h i = bytes_append (four_bytes w) (words_bytes ws) (four_small w (h 0)) (words_small ws (λ j. h (suc j))) i

padded_small : (ws : List ℕ) → Words32 ws → Words32 (padded ws)
padded_small ws h i = rw (← (padded_at ws i)) (h i)

pub block_bytes_lem : (number : ℕ) (ws : List ℕ) → number < 65536 → length ws ≤ 126 → Words32 ws → Bytes (block_of number ws)
unfolding block_of front
block_bytes_lem number ws n h k =
    let first : Bytes (front number ws) =
    bytes_append (two_bytes number) (two_bytes (length ws) ++ words_bytes (padded ws)) (two_small number n)
    (bytes_append (two_bytes (length ws)) (words_bytes (padded ws)) (two_small (length ws) (omega arith)) (words_small (padded ws) (padded_small ws k))) in
    bytes_append (front number ws) (four_bytes (sum (front number ws))) first
    (four_small (sum (front number ws)) (omega (arith, sum_bound (front number ws) first, length_front number ws h)))
