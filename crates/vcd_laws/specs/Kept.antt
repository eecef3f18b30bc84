-- What a call leaves alone.
use Rattle.std.specs.Prelude.{◌≡◌, List, ℕ, ◌≤◌, length, drop}
use Rattle.vcd_laws.specs.Giving.{Told}

-- no word is taken back, and places past the words written stay as they were
pub record Kept (room : List ℕ) (count : ℕ) (t : Told) : Type 0 where
  pub grows : count ≤ t.count
  pub past : drop t.count t.room ≡ drop t.count room
  pub size : length t.room ≡ length room
