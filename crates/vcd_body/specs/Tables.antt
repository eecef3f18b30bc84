-- The tables by which the reader finds a code at once. They hold what a search would find.
use Rattle.std.specs.Prelude.{ℕ, ◌<◌, ◌≡◌, List, [], ◌∷◌, length, get_or}
use Rattle.vcd_codes.specs.Codes.{code_at, variables, find, meant}

-- for each code of one byte, what it stands for
pub record Singles (text places pins : List ℕ) (entries : ℕ) (singles : List ℕ) (n : ℕ) : Type 0 where
  pub size : length singles ≡ 256
  pub each : (b : ℕ) → b < n → meant (get_or singles b 0) ≡ find (variables text places pins 0 entries) (b ∷ [])

-- for each entry, what its code stands for
pub record Lists (text places pins : List ℕ) (entries : ℕ) (lists : List ℕ) (n : ℕ) : Type 0 where
  pub size : length lists ≡ 32
  pub each : (k : ℕ) → k < n → meant (get_or lists k 0) ≡ find (variables text places pins 0 entries) (code_at text places k)
