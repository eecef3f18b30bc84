-- START and STOP of II STS over a list of words (document 01, "Registers", 15, and "The bus").
use Rattle.std.specs.Prelude.{ℕ, Bool, false, not, ◌&&◌, ◌||◌, List, [], ◌∷◌, ◌≡◌}
use Rattle.bits.specs.Byte.{bit}
use Rattle.registers.specs.Names.{IISTS, START, STOP}
use Rattle.events.specs.Decoded.{Decoded}
use Rattle.events.specs.Word.{decode}
use Rattle.chip.specs.declared.Chip.{Chip}
use Rattle.chip_events.specs.Outcome.{next}
use Rattle.chip_count_laws.specs.Counting.{resets, writes}
use Rattle.chip.specs.declared.Core.{Core}
use Rattle.bus_address_laws.specs.Addressed.{starts, stops}

-- the bit as II STS holds it
abbrev pub status_bit : ℕ → Chip → Bool
status_bit k c = bit k c.core.bus.iists

-- cleared: a 0 written to the bit of II STS, or a reset
unfoldable pub clears_bit : ℕ → Chip → Decoded → Bool
clears_bit k c e = writes IISTS k false c e || resets c e

-- the condition came in the list since the bit was last cleared, or the bit was there first and was not cleared
abbrev pub seen_since : (Chip → Decoded → Bool) → ℕ → Chip → List ℕ → Bool → Bool
seen_since condition k c [] before = before
seen_since condition k c (w ∷ ws) before = seen_since condition k (next c (decode w)) ws (condition c (decode w) || (before && not (clears_bit k c (decode w))))

-- both bits after an event
pub record After (c : Chip) (e : Decoded) (after : Core) : Type 0 where
  pub start : bit START after.bus.iists ≡ (starts c e || (status_bit START c && not (clears_bit START c e)))
  pub stop : bit STOP after.bus.iists ≡ (stops c e || (status_bit STOP c && not (clears_bit STOP c e)))
