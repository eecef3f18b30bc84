-- The test `<=` of the code is the definitions' `<` of one more.
-- Assumes nothing.
use Prim.Native.Nat.{ℕ, ◌+◌}
use mathlib.Core.Path.{◌≡◌, refl}
use mathlib.Core.Bool.{Bool, true, false}
use native.Mathlib.Omega.{arith}
use lib.Dec.{leb, ltb}
use borrow.Author.Tests.{ltb-true, ltb-false, le-leb, lt-leb}

at_most_by : (m n : ℕ) (within : Bool) → ltb m (n + 1) ≡ within → leb m n ≡ within
at_most_by m n true e = let less = ltb-true m (n + 1) e in le-leb m n (omega arith)
at_most_by m n false e = let most = ltb-false m (n + 1) e in lt-leb m n (omega arith)

pub at_most_lem : (m n : ℕ) → leb m n ≡ ltb m (n + 1)
at_most_lem m n = at_most_by m n (ltb m (n + 1)) refl
