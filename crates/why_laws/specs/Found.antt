-- What is found of a source: by a step, and by a list.
use Rattle.std.specs.Prelude.{◌≡◌, true, false, ℕ, ◌+◌, List}
use Rattle.events.specs.Decoded.{Decoded}
use Rattle.chip.specs.declared.Chip.{Chip}
use Rattle.chip_events.specs.Outcome.{next}
use Rattle.why_last_set.specs.declared.Sort.{Sort}
use Rattle.why_last_set.specs.declared.Last.{Last}
use Rattle.why_last_set.specs.declared.Last.TheVariants.{Never, At}
use Rattle.why_last_set.specs.LastSet.{Source}
use Rattle.why_laws.specs.Due.{is_set, IsSort, source_of, SetAt, LastAt}

-- the word set the flag, its place is told, and its event is of this sort
pub record StepAt (s : Source) (c : Chip) (e : Decoded) (place told : ℕ) (sort : Sort) : Type 0 where
  pub same : told ≡ place
  pub clear : is_set s c ≡ false
  pub set : is_set s (next c e) ≡ true
  pub source : source_of sort ≡ s
  pub event : IsSort c e sort

-- what is noted of one word says of it
abbrev pub Step : Source → Chip → Decoded → ℕ → Last → Type 0
Step s c e place Never = is_set s c ≡ false → is_set s (next c e) ≡ true → ⊥
Step s c e place (At told sort) = StepAt s c e place told sort

-- of the words from a place `base` on: no change; or the last of them, at a place told from `base`
pub record FoundAt (s : Source) (c : Chip) (ws : List ℕ) (base told : ℕ) (sort : Sort) : Type 0 where
  pub index : ℕ
  pub place : told ≡ base + index
  pub last : LastAt s c ws index sort

abbrev pub Found : Source → Chip → List ℕ → ℕ → Last → Type 0
Found s c ws base Never = (n : ℕ) → SetAt s c ws n → ⊥
Found s c ws base (At told sort) = FoundAt s c ws base told sort
