-- The test `>=` of the code is the definitions' `<`, denied.
use Prim.Native.Nat.{ℕ}
use mathlib.Core.Path.{◌≡◌, refl}
use mathlib.Core.Bool.{Bool, true, false, not}
use lib.Dec.{leb, ltb}
use borrow.Author.Tests.{ltb-true, ltb-false, le-leb, lt-leb}

at_least_by : (m n : ℕ) (below : Bool) → ltb n m ≡ below → leb m n ≡ not below
at_least_by m n true e = lt-leb m n (ltb-true n m e)
at_least_by m n false e = le-leb m n (ltb-false n m e)

pub at_least : (m n : ℕ) → leb m n ≡ not (ltb n m)
at_least m n = at_least_by m n (ltb n m) refl
