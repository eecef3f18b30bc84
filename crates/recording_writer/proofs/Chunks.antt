-- A recording written in parts, and what is written is within its area.
-- Assumes nothing.
use mathlib.Core.Path.{◌≡◌, refl, ap, ◌∙◌}
use mathlib.Core.Bool.{Bool, true, false}
use mathlib.Core.List.{List, [], ◌∷◌, ◌++◌}
use Prim.Native.Nat.{ℕ, suc, ◌+◌, ◌*◌, ◌/◌, ◌≤◌}
use native.Mathlib.Omega.{arith}
use lib.Dec.{ltb}
use lib.ListN.{length, drop, length-append}
use Rattle.bits.specs.Byte.{pick}
use Rattle.recording_blocks.specs.Bytes.{words_of}
use Rattle.recording_blocks.specs.Block.{block_of}
use Rattle.recording_blocks.proofs.Words.{length_words}
use Rattle.recording_parts.specs.Recording.{parts, joined, numbered, recording_of}
use Rattle.recording_parts.proofs.Pieces.{joined_append, length_joined, length_parts, parts_append, parts_at_most}
use Rattle.recording_parts.proofs.Round.{numbered_sized, length_numbered}
use Rattle.recording_writer.specs.Written.{words_given, words_put, block_count, blocks_bytes, blocks_written, blocks_put}
use Rattle.recording_writer.specs.declared.BlocksWritten.{BlocksWritten}
use Rattle.std.specs.Prelude.{Result, Ok, Err, MatchResult}
use Rattle.recording_blocks.specs.declared.WriteFault.{WriteFault}
use Rattle.recording_blocks.specs.declared.WriteFault.TheVariants.{Numbers, Area}

-- the blocks of all words, numbered from 0, are the recording
pub whole : (ws : List ℕ) → blocks_bytes 0 ws ≡ recording_of ws
unfolding blocks_bytes recording_of
whole ws = refl

numbered_append : (number : ℕ) (cs bs : List (List ℕ)) → numbered number (cs ++ bs) ≡ numbered number cs ++ numbered (number + length cs) bs
unfolding numbered
numbered_append number [] bs =
    let e : number ≡ number + 0 = omega arith in
    ap (λ (n : ℕ). numbered n bs) e
numbered_append number (c ∷ cs) bs =
    let e : number + 1 + length cs ≡ number + suc (length cs) = omega arith in
    ap (λ (t : List (List ℕ)). block_of number c ∷ t) (numbered_append (number + 1) cs bs ∙ ap (λ (n : ℕ). numbered (number + 1) cs ++ numbered n bs) e)

-- words in two parts, the first of whole blocks: its blocks, and those of the second numbered on
pub in_parts : (number n : ℕ) (ws vs : List ℕ) → length ws ≡ 126 * n → blocks_bytes number (ws ++ vs) ≡ blocks_bytes number ws ++ blocks_bytes (number + block_count ws) vs
unfolding blocks_bytes
in_parts number n ws vs h =
    ap (λ (t : List (List ℕ)). joined (numbered number t)) (parts_append n ws vs h)
    ∙ ap joined (numbered_append number (parts ws) (parts vs))
    ∙ joined_append (numbered number (parts ws)) (numbered (number + length (parts ws)) (parts vs))
    ∙ ap (λ (m : ℕ). joined (numbered number (parts ws)) ++ joined (numbered (number + m) (parts vs))) (length_parts ws)

pub length_blocks : (number : ℕ) (ws : List ℕ) → length (blocks_bytes number ws) ≡ 512 * block_count ws
unfolding blocks_bytes
length_blocks number ws =
    length_joined (numbered number (parts ws)) (numbered_sized number (parts ws) (parts_at_most ws))
    ∙ ap (λ (m : ℕ). 512 * m) (length_numbered number (parts ws) ∙ length_parts ws)

-- what is given back is within what was lent
count_by : (t s : Bool) (number k n : ℕ) (block area : List ℕ) (r : BlocksWritten) → length block ≡ 512 * k
    → Ok r ≡ pick t (Err Numbers) (pick s (Err Area) (Ok (record { count = 512 * k; next = n })))
    → r.count ≤ length (pick t area (pick s area (block ++ drop (512 * k) area)))
count_by true s number k n block area r h e = cc
count_by false true number k n block area r h e = cc
count_by false false number k n block area r h e =
    let same : r ≡ record { count = 512 * k; next = n } = cc in
    omega (arith, ap (λ (x : BlocksWritten). x.count) same, length-append block (drop (512 * k) area))

pub bytes_within : (number : ℕ) (ws area new : List ℕ) (r : BlocksWritten) → Ok r ≡ blocks_written number ws area → new ≡ blocks_put number ws area → r.count ≤ length new
unfolding blocks_written blocks_put
bytes_within number ws area new r p q =
    rw q (count_by (ltb 65536 (number + block_count ws)) (ltb (length area) (512 * block_count ws)) number (block_count ws) (number + block_count ws) (blocks_bytes number ws) area r (length_blocks number ws) p)

-- none where it is refused
pub size_within : (number : ℕ) (ws area new : List ℕ) (d : Result BlocksWritten WriteFault) (size : ℕ) → d ≡ blocks_written number ws area → new ≡ blocks_put number ws area
    → MatchResult d (λ x. size ≡ x.count) (λ f. size ≡ 0) → size ≤ length new
size_within number ws area new (Ok x) size p q m = omega (arith, m, bytes_within number ws area new x p q)
size_within number ws area new (Err f) size p q m = omega (arith, m)

words_by : (t : Bool) (bytes places : List ℕ) → pick t 0 (length bytes / 4) ≤ length (pick t places (words_of bytes ++ drop (length bytes / 4) places))
words_by true bytes places = omega arith
words_by false bytes places = omega (arith, length-append (words_of bytes) (drop (length bytes / 4) places), length_words bytes)

pub words_within : (bytes places new : List ℕ) (r : ℕ) → r ≡ words_given bytes places → new ≡ words_put bytes places → r ≤ length new
unfolding words_given words_put
words_within bytes places new r p q = rw (p, q) (words_by (ltb (length places) (length bytes / 4)) bytes places)
