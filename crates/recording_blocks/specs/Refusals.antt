-- A block that no number refuses, and when each number applies (Wish 1).
use Rattle.std.specs.Prelude.{◌≡◌, Bool, true, not, ◌&&◌, List, ℕ, ◌<◌, ◌≤◌, eqb, length, take}
use Rattle.recording_blocks.specs.Bytes.{all_zero, sum}
use Rattle.recording_blocks.specs.Block.{number_of, count_of, sum_of, unused}

-- each number by the five tests in their order
pub record Numbers (n : ℕ) (short added numbered counted zero : Bool) : Type 0 where
  pub ten : eqb n 10 ≡ short
  pub eleven : eqb n 11 ≡ (not short && not added)
  pub twelve : eqb n 12 ≡ (not short && (added && not numbered))
  pub thirteen : eqb n 13 ≡ (not short && (added && (numbered && not counted)))
  pub fourteen : eqb n 14 ≡ (not short && (added && (numbered && (counted && not zero))))
  pub none : eqb n 0 ≡ (not short && (added && (numbered && (counted && zero))))

-- an accepted block
pub record Good (due : ℕ) (b : List ℕ) : Type 0 where
  pub full : 512 ≤ length b
  pub added : sum_of b ≡ sum (take 508 b)
  pub numbered : number_of b ≡ due
  pub counted : count_of b < 127
  pub zero : all_zero (unused b) ≡ true
