-- A list filled from its front with the elements of another, one store a turn.
-- Assumes nothing.
use mathlib.Core.Path.{◌≡◌, refl, sym, ◌∙◌}
use mathlib.Core.List.{List}
use Prim.Native.Nat.{ℕ, ◌+◌, ◌<◌, ◌≤◌}
use native.Mathlib.Omega.{arith}
use native.Mathlib.Numerals.{add-one}
use lib.ListN.{length, take, get_or, set, length-set}
use lib.Seq.{take-suc, take-suc-set, take-length}

-- the first i elements of `list` are those of `wanted`, and both have n
pub record Filled (wanted : List ℕ) (n : ℕ) (list : List ℕ) (i : ℕ) : Type 0 where
  pub bound : i ≤ n
  pub long : length list ≡ n
  pub enough : length wanted ≡ n
  pub same : take i list ≡ take i wanted

module _ (wanted : List ℕ) (n : ℕ) (list : List ℕ) where
  pub filled_none : length list ≡ n → length wanted ≡ n → Filled wanted n list 0
  filled_none h k = record { bound = omega arith; long = h; enough = k; same = refl }

  pub filled_more : (i v : ℕ) → Filled wanted n list i → i < n → v ≡ get_or wanted i 0 → Filled wanted n (set list i v) (i + 1)
  filled_more i v f h e =
      record {
        bound = omega arith;
        long = simp length-set f.long;
        enough = f.enough;
        same = rw (add-one, take-suc-set list i v (omega arith), take-suc wanted i 0 (omega arith), f.same, e);
      }

  pub filled_all : Filled wanted n list n → list ≡ wanted
  filled_all f = sym (rw f.long at (take-length list)) ∙ f.same ∙ rw f.enough at (take-length wanted)
