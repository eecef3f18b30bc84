-- Instructions one by one, each with its lines.
-- Assumes nothing.
use Prim.Native.Nat.{ℕ, ◌+◌, ◌<◌, ◌≤◌}
use mathlib.Core.Path.{◌≡◌, sym, ◌∙◌}
use mathlib.Core.Bool.{Bool, true, false}
use mathlib.Core.List.{List}
use native.Mathlib.Omega.{arith}
use Rattle.firmware_trace.specs.declared.Run.{Run}
use Rattle.firmware_trace.specs.Trace.{ran_on, ram_on}
use Rattle.firmware_print.specs.Marked.{marked}
use Rattle.firmware_print.specs.Taken.{is_followed, Traced, begun, done, TracedTo}

-- before the next one
pub record Tracing (rom : List ℕ) (n : ℕ) (start : Run) (ram : List ℕ) (r : Run) (m : List ℕ) (i : ℕ) : Type 0 where
  pub traced : Traced rom start ram i r m
  pub most : i ≤ n
  pub followed : 0 < i → is_followed r.number r.printed ≡ true

pub begin : (rom : List ℕ) (n : ℕ) (start : Run) (ram : List ℕ) → Tracing rom n start ram start ram 0
begin rom n start ram = record { traced = begun; most = omega arith; followed = λ h. absurd (omega (arith, h)) }

module _ (rom : List ℕ) (n : ℕ) (start : Run) (ram : List ℕ) (r : Run) (m : List ℕ) (i : ℕ) (h : Tracing rom n start ram r m i) where
  pub finish : n ≤ i → TracedTo rom n start ram r m
  finish l = record { count = i; traced = h.traced; most = h.most; all = λ z. absurd (omega (arith, z, l)) }

  module _ (l : i < n) (q : Run) (e : q ≡ ran_on rom m r 1) (m' : List ℕ) (f : m' ≡ ram_on rom m r 1) (p b : Bool) (g : b ≡ is_followed q.number p) where
    one_more : Traced rom start ram (i + 1) (marked q p) m'
    one_more = rw (e, f) (done i r m p h.traced h.followed)

    pub stop : b ≡ false → TracedTo rom n start ram (marked q p) m'
    stop z = record { count = i + 1; traced = one_more; most = omega (arith, l); all = λ y. sym g ∙ z }

    pub again : b ≡ true → Tracing rom n start ram (marked q p) m' (i + 1)
    again z = record { traced = one_more; most = omega (arith, l); followed = λ y. sym g ∙ z }
