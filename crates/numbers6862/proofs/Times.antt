-- A list of clocks, its first or none.
-- Assumes nothing.
use Prim.Native.Nat.{ℕ, zero, suc, ◌+◌, ◌-◌, ◌<◌, ◌≤◌}
use mathlib.Core.Path.{◌≡◌, refl, ap, ◌∙◌}
use native.Mathlib.Omega.{arith}
use Rattle.std.proofs.Common.{Result, Ok, Err}
use Rattle.std.specs.Result.{result_unwrap_or}
use Rattle.sync6862.specs.declared.Counters.{Counters}
use Rattle.sync6862.specs.declared.Refusal.{Refusal}
use Rattle.sync6862.specs.declared.Call.TheVariants.{Clock}
use Rattle.sync6862.specs.Unit.{answer, left}
use Rattle.sync6862_laws.specs.Counting.{run, clocks}

-- the state, where there is none that a call made
or_state : (s : Counters) (r : Result Counters Refusal) → result_unwrap_or r s ≡ left s r
or_state s (Ok next) = refl
or_state s (Err why) = refl

one_more : (k : ℕ) (s : Counters) → 0 < k → run (left s (answer s Clock)) (clocks (k - 1)) ≡ run s (clocks k)
unfolding run
one_more zero s h = absurd (omega arith)
one_more (suc n) s h = let e : suc n - 1 ≡ n = omega arith in rw e

-- a clock more of n, k having been given
pub one_given : (n k : ℕ) (s next : Counters) (r : Result Counters Refusal) → k < n → r ≡ answer s Clock → next ≡ result_unwrap_or r s
    → run next (clocks (n - (k + 1))) ≡ run s (clocks (n - k))
one_given n k s next r h made or =
    let is : next ≡ left s (answer s Clock) = or ∙ or_state s r ∙ ap (left s) made in
    let e : n - (k + 1) ≡ (n - k) - 1 = omega arith in
    rw (is, e) (one_more (n - k) s (omega arith))

pub all_given : (n k : ℕ) (s : Counters) → n ≤ k → s ≡ run s (clocks (n - k))
unfolding run
all_given n k s h = let e : n - k ≡ 0 = omega arith in rw e refl
