-- The layout of a block: its parts, as the writer puts them.
-- Assumes nothing.
use mathlib.Core.Path.{◌≡◌, ap, ap₂, ◌∙◌}
use mathlib.Core.List.{List, [], ◌++◌}
use Prim.Native.Nat.{ℕ, ◌+◌, ◌*◌, ◌/◌, ◌%◌, ◌<◌, ◌≤◌}
use native.Mathlib.Omega.{arith}
use lib.ListN.{length, take, drop, length-append, length-drop, drop_of_length-le}
use lib.Seq.{drop-drop, take_at}
use Rattle.recording_blocks.specs.Bytes.{two_bytes, four_bytes, words_bytes, sum}
use Rattle.recording_blocks.specs.Block.{padded, front, block_of}
use Rattle.recording_blocks.proofs.Words.{length_bytes}
use Rattle.recording_blocks.proofs.Loops.{length_padded}

pub length_front : (number : ℕ) (ws : List ℕ) → length ws ≤ 126 → length (front number ws) ≡ 508
unfolding front
length_front number ws h = omega (arith, length_bytes (padded ws), length_padded ws h)

pub length_block : (number : ℕ) (ws : List ℕ) → length ws ≤ 126 → length (block_of number ws) ≡ 512
unfolding block_of
length_block number ws h =
    length-append (front number ws) (four_bytes (sum (front number ws))) ∙ omega (arith, length_front number ws h)

-- two numbers of two bytes as one of four
lower : (n c : ℕ) → n < 65536 → (n + c * 65536) % 256 ≡ n % 256
lower n c h = omega arith

middle : (n c : ℕ) → (n + c * 65536) / 256 ≡ n / 256 + c * 256
middle n c = omega arith

third : (m c : ℕ) → m < 256 → (m + c * 256) % 256 ≡ m
third m c h = omega arith

upper : (n c : ℕ) → n < 65536 → (n + c * 65536) / 65536 ≡ c
upper n c h = omega arith

top : (n c : ℕ) → n < 65536 → (n + c * 65536) / 16777216 ≡ c / 256
top n c h = omega arith

pub head_bytes : (n c : ℕ) → n < 65536 → four_bytes (n + c * 65536) ≡ two_bytes n ++ two_bytes c
head_bytes n c h = rw (lower n c h, middle n c, third (n / 256) c (omega arith), upper n c h, top n c h)

-- the first 508 bytes, put in two parts
pub front_put : (old ws a₁ a₂ : List ℕ) (number : ℕ) → number < 65536
    → a₁ ≡ take 0 old ++ (four_bytes (number + length ws * 65536) ++ drop 4 old)
    → a₂ ≡ take 4 a₁ ++ (words_bytes (padded ws) ++ drop 508 a₁)
    → a₂ ≡ front number ws ++ drop 508 old
unfolding front
front_put old ws a₁ a₂ number h p q =
    let e : a₁ ≡ two_bytes number ++ (two_bytes (length ws) ++ drop 4 old) = p ∙ ap (λ (l : List ℕ). l ++ drop 4 old) (head_bytes number (length ws) h) in
    q ∙ rw e (ap (λ (t : List ℕ). two_bytes number ++ (two_bytes (length ws) ++ (words_bytes (padded ws) ++ t))) (drop-drop 504 4 old))

pub front_size : (old ws a : List ℕ) (number : ℕ) → length ws ≤ 126 → length old ≡ 512 → a ≡ front number ws ++ drop 508 old → length a ≡ 512
front_size old ws a number h n p =
    ap length p ∙ length-append (front number ws) (drop 508 old) ∙ omega (arith, length_front number ws h, length-drop 508 old)

-- and the sum behind them
pub block_put : (old ws a b : List ℕ) (number s : ℕ) → length ws ≤ 126 → length old ≡ 512
    → a ≡ front number ws ++ drop 508 old
    → s ≡ sum (take 508 a)
    → b ≡ take 508 a ++ (four_bytes s ++ drop 512 a)
    → b ≡ block_of number ws
unfolding block_of
block_put old ws a b number s h n p q z =
    let whole : take 508 a ≡ front number ws = ap (take 508) p ∙ take_at (front number ws) (drop 508 old) 508 (length_front number ws h) in
    let none : drop 512 a ≡ [] = drop_of_length-le a {i = 512} (omega (arith, front_size old ws a number h n p)) in
    z ∙ ap₂ (λ (t r : List ℕ). t ++ (four_bytes s ++ r)) whole none ∙ ap (λ (k : ℕ). front number ws ++ four_bytes k) (q ∙ ap sum whole)
