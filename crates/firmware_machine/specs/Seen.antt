-- What is known of the chip's registers while the chip does not change: of each that nothing has been asked, or what its read gives. It
-- stands between the machine and the instructions that run without the chip.
use Rattle.std.specs.Prelude.{ℕ, ◌+◌, ◌<◌, ◌≡◌, List, eqb, get_or}
use Rattle.bits.specs.Byte.{pick}
use Rattle.chip.specs.declared.Chip.{Chip}
use Rattle.chip_reads.specs.declared.Reading.{Reading}
use Rattle.chip_reads.specs.Reads.{reading}
use Rattle.cpu_memory.specs.Memory.{not_seen}

-- a read, as `known` of the memory takes it: the byte, or 256 and the number of the refusal
unfoldable pub known_reading : Reading → ℕ
known_reading r = pick (eqb r.number 0) r.byte (256 + r.number)

pub data Known (k : Chip) (r v : ℕ) : Type 0 where
  unseen : v ≡ not_seen r → Known k r v
  read : v ≡ known_reading (reading k r) → Known k r v

-- what is known of every register is true of this chip
abbrev pub Knows : List ℕ → Chip → Type 0
Knows seen k = (r : ℕ) → r < 38 → Known k r (get_or seen r 0)

-- nothing is known of the register r
pub record Waiting (seen : List ℕ) (r : ℕ) : Type 0 where
  pub below_38 : r < 38
  pub not_seen_lem : get_or seen r 0 ≡ not_seen r
