-- The number of what is wrong with a bad block, from the fault.
-- Assumes nothing.
use mathlib.Core.Path.{◌≡◌, refl}
use mathlib.Core.Bool.{Bool, true, false}
use mathlib.Core.List.{List, [], ◌∷◌}
use Prim.Native.Nat.{ℕ, ◌+◌}
use lib.Dec.{eqb, ltb}
use lib.ListN.{length, take}
use Rattle.bits.specs.Byte.{pick}
use Rattle.recording_blocks.specs.Bytes.{all_zero, sum}
use Rattle.recording_blocks.specs.Block.{number_of, count_of, sum_of, unused, refusal}
use Rattle.recording_parts.specs.Recording.{read_number, fault_at, number_at}

-- the number by the five tests of a block
abbrev tested : Bool → Bool → Bool → Bool → Bool → ℕ
tested short added numbered counted zero = pick short 10 (pick added (pick numbered (pick counted (pick zero 0 14) 13) 12) 11)

back_by : (short added numbered counted zero : Bool) → number_at (fault_at (tested short added numbered counted zero)) ≡ tested short added numbered counted zero
back_by true added numbered counted zero = refl
back_by false false numbered counted zero = refl
back_by false true false counted zero = refl
back_by false true true false zero = refl
back_by false true true true false = refl
back_by false true true true true = refl

refusal_back : (due : ℕ) (b : List ℕ) → number_at (fault_at (refusal due b)) ≡ refusal due b
unfolding refusal
refusal_back due b = back_by (ltb (length b) 512) (eqb (sum_of b) (sum (take 508 b))) (eqb (number_of b) due) (ltb (count_of b) 127) (all_zero (unused b))

either : (t : Bool) (m n : ℕ) → number_at (fault_at m) ≡ m → number_at (fault_at n) ≡ n → number_at (fault_at (pick t m n)) ≡ pick t m n
either true m n h k = h
either false m n h k = k

pub read_back : (due : ℕ) (bs : List (List ℕ)) → number_at (fault_at (read_number due bs)) ≡ read_number due bs
unfolding read_number
read_back due [] = refl
read_back due (b ∷ rest) = either (eqb (refusal due b) 0) (read_number (due + 1) rest) (refusal due b) (read_back (due + 1) rest) (refusal_back due b)
