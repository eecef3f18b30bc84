-- Recordings written and read, and read and written.
-- Assumes nothing.
use mathlib.Core.Path.{◌≡◌, refl, sym, ap, ap₂, ◌∙◌}
use mathlib.Core.List.{List, [], ◌∷◌, ◌++◌, map}
use Prim.Native.Nat.{ℕ, zero, suc, ◌+◌, ◌≤◌}
use native.Mathlib.Omega.{arith}
use borrow.Author.Tests.{eq-eqb}
use lib.Dec.{eqb, eqb-suc-zero}
use lib.ListN.{length, take, drop, get_or}
use lib.Seq.{take_all, get_or-drop}
use Rattle.bits.specs.Byte.{pick}
use Rattle.recording_blocks.specs.Bytes.{Bytes, Words32}
use Rattle.recording_blocks.specs.Block.{block_of, block_words, refusal}
use Rattle.recording_blocks.proofs.Parts.{length_block}
use Rattle.recording_blocks.proofs.Round.{block_accepted, words_of_block, block_written, number_small, block_bytes_lem, bytes_append, taken_bytes, dropped_bytes}
use Rattle.recording_parts.specs.Recording.{cut, parts, blocks_of, joined, numbered, recording_of, read_words, read_number}
use Rattle.recording_parts.proofs.Pieces.{Sized, AtMost, joined_parts, parts_at_most, cut_at_most, blocks_joined, joined_blocks}

pub length_numbered : (number : ℕ) (lists : List (List ℕ)) → length (numbered number lists) ≡ length lists
unfolding numbered
length_numbered number [] = refl
length_numbered number (ws ∷ rest) = ap suc (length_numbered (number + 1) rest)

pub numbered_sized : (number : ℕ) (lists : List (List ℕ)) → AtMost 126 lists → Sized 512 (numbered number lists)
unfolding numbered
numbered_sized number [] h i k = absurd (omega arith)
numbered_sized number (ws ∷ rest) h zero k = length_block number ws (h 0)
numbered_sized number (ws ∷ rest) h (suc i) k = numbered_sized (number + 1) rest (λ j. h (suc j)) i (omega arith)

-- numbered blocks are read: all their words, and no refusal
pub read_numbered : (number : ℕ) (lists : List (List ℕ)) → AtMost 126 lists → read_words number (numbered number lists) ≡ joined lists
unfolding numbered read_words joined
read_numbered number [] h = refl
read_numbered number (ws ∷ rest) h =
    rw (eq-eqb _ _ (block_accepted number ws (h 0))) (ap₂ (λ (x y : List ℕ). x ++ y) (words_of_block number ws (h 0)) (read_numbered (number + 1) rest (λ j. h (suc j))))

pub accept_numbered : (number : ℕ) (lists : List (List ℕ)) → AtMost 126 lists → read_number number (numbered number lists) ≡ 0
unfolding numbered read_number
accept_numbered number [] h = refl
accept_numbered number (ws ∷ rest) h = rw (eq-eqb _ _ (block_accepted number ws (h 0))) (accept_numbered (number + 1) rest (λ j. h (suc j)))

-- what was written is read: the same words, and no refusal
pub read_written : (ws : List ℕ) → (read_words 0 (blocks_of (recording_of ws)) ≡ ws) × (read_number 0 (blocks_of (recording_of ws)) ≡ 0)
unfolding recording_of
read_written ws =
    let same : blocks_of (joined (numbered 0 (parts ws))) ≡ numbered 0 (parts ws) = blocks_joined (numbered 0 (parts ws)) (numbered_sized 0 (parts ws) (parts_at_most ws)) in (
      ap (read_words 0) same ∙ read_numbered 0 (parts ws) (parts_at_most ws) ∙ joined_parts ws,
      ap (read_number 0) same ∙ accept_numbered 0 (parts ws) (parts_at_most ws),
    )

-- a part of words of 32 bits is of such words
taken_words : (n : ℕ) (xs : List ℕ) → Words32 xs → Words32 (take n xs)
taken_words zero xs h i = omega arith
taken_words (suc n) [] h i = omega arith
taken_words (suc n) (x ∷ xs) h zero = h 0
taken_words (suc n) (x ∷ xs) h (suc i) = taken_words n xs (λ j. h (suc j)) i

dropped_words : (n : ℕ) (xs : List ℕ) → Words32 xs → Words32 (drop n xs)
dropped_words n xs h i = rw (get_or-drop n xs i 0) (h (n + i))

-- every block's words are words, and its number one of two bytes: the recording is of bytes
abbrev Words32s : List (List ℕ) → Type 0
Words32s lists = (i : ℕ) → Words32 (get_or lists i [])

numbered_bytes : (number : ℕ) (lists : List (List ℕ)) → number + length lists ≤ 65536 → AtMost 126 lists → Words32s lists → Bytes (joined (numbered number lists))
unfolding numbered joined
numbered_bytes number [] n h k = λ i. omega arith
numbered_bytes number (ws ∷ rest) n h k =
    bytes_append (block_of number ws) (joined (numbered (number + 1) rest)) (block_bytes_lem number ws (omega arith) (h 0) (k 0))
    (numbered_bytes (number + 1) rest (omega arith) (λ j. h (suc j)) (λ j. k (suc j)))

cut_words : (size n : ℕ) (ws : List ℕ) → Words32 ws → Words32s (cut size n ws)
unfolding cut
cut_words size zero ws h i = λ j. omega arith
cut_words size (suc n) ws h zero = taken_words size ws h
cut_words size (suc n) ws h (suc i) = cut_words size n (drop size ws) (dropped_words size ws h) i

pub written_bytes : (ws : List ℕ) → Words32 ws → length (parts ws) ≤ 65536 → Bytes (recording_of ws)
unfolding recording_of parts
written_bytes ws h n = numbered_bytes 0 (parts ws) (omega arith) (parts_at_most ws) (cut_words 126 _ ws h)

-- ---- accepted

-- every block is of bytes
abbrev pub BytesIn : List (List ℕ) → Type 0
BytesIn bs = (i : ℕ) → Bytes (get_or bs i [])

cut_bytes : (size n : ℕ) (xs : List ℕ) → Bytes xs → BytesIn (cut size n xs)
unfolding cut
cut_bytes size zero xs h i = λ j. omega arith
cut_bytes size (suc n) xs h zero = taken_bytes size xs h
cut_bytes size (suc n) xs h (suc i) = cut_bytes size n (drop size xs) (dropped_bytes size xs h) i

by_test : (n m : ℕ) → pick (eqb n 0) m n ≡ 0 → (n ≡ 0) × (m ≡ 0)
by_test zero m e = (refl, e)
by_test (suc n) m e = absurd (let z : suc n ≡ 0 = rw (eqb-suc-zero n) at e in omega arith)

pub accepted_first : (due : ℕ) (b : List ℕ) (rest : List (List ℕ)) → read_number due (b ∷ rest) ≡ 0 → (refusal due b ≡ 0) × (read_number (due + 1) rest ≡ 0)
unfolding read_number
accepted_first due b rest e = by_test (refusal due b) (read_number (due + 1) rest) e

-- the blocks of an accepted list are what the writer makes of each block's words
pub accepted_blocks : (due : ℕ) (bs : List (List ℕ)) → BytesIn bs → AtMost 512 bs → read_number due bs ≡ 0 → bs ≡ numbered due (map block_words bs)
unfolding numbered
accepted_blocks due [] k h e = refl
accepted_blocks due (b ∷ bs) k h e =
    let first = accepted_first due b bs e in
    ap₂ (λ (x : List ℕ) (r : List (List ℕ)). x ∷ r)
    (sym (take_all 512 b (h 0)) ∙ block_written due b (k 0) first.0)
    (accepted_blocks (due + 1) bs (λ j. k (suc j)) (λ j. h (suc j)) first.1)

-- and there are at most 65,536 of them
pub accepted_few : (due : ℕ) (bs : List (List ℕ)) → BytesIn bs → due ≤ 65536 → read_number due bs ≡ 0 → due + length bs ≤ 65536
accepted_few due [] k n e = omega arith
accepted_few due (b ∷ bs) k n e =
    let first = accepted_first due b bs e in
    omega (arith, accepted_few (due + 1) bs (λ j. k (suc j)) (omega (arith, number_small due b (k 0) first.0)) first.1)

-- what is accepted could have been written: the writer, given each block's words, makes the same bytes
pub accepted_written : (bytes : List ℕ) → Bytes bytes → read_number 0 (blocks_of bytes) ≡ 0
    → (bytes ≡ joined (numbered 0 (map block_words (blocks_of bytes)))) × (length (blocks_of bytes) ≤ 65536)
unfolding blocks_of
accepted_written bytes k e =
    let inside : BytesIn (blocks_of bytes) = cut_bytes 512 _ bytes k in (
      sym (joined_blocks bytes) ∙ ap joined (accepted_blocks 0 (blocks_of bytes) inside (cut_at_most 512 _ bytes) e),
      omega (arith, accepted_few 0 (blocks_of bytes) inside (omega arith) e),
    )
