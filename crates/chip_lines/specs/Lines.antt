-- The levels of the two lines of the bus, and which of them the chip pulls (document 01, "The bus" and "Ports").
use Rattle.std.specs.Prelude.{ℕ, ◌+◌, ◌*◌, ◌≡◌, Bool, true, false, not, Ok, Err}
use Rattle.std.specs.declared.result.Result.{Result}
use Rattle.std.specs.Int.Bits.{bit_or}
use Rattle.bits.specs.Byte.{pick, weight_if, bit}
use Rattle.registers.specs.Names.{PT3, ENDDC}
use Rattle.bus.specs.Bus.{line, sda_pulled, scl_pulled}
use Rattle.chip.specs.declared.Core.{Core}
use Rattle.chip.specs.declared.Chip.{Chip}
use Rattle.chip.specs.State.{register_at}
use Rattle.chip_edges.specs.Edges.{active_mode}
use Rattle.chip_well_formed.specs.declared.IllFormed.{IllFormed}
use Rattle.chip_well_formed.specs.WellFormed.{well_formed}
use Rattle.chip_lines.specs.declared.Levels.{Levels}

-- what is reported of a state: both lines, or that the state is ill formed
abbrev pub Lines : Type 0
Lines = Result Levels IllFormed

-- with DDC off SDA is P30 and SCL is P31, open drain pins of port 3: a 0 in the latch of PT3 pulls. With DDC on the bus pulls, as the
-- mode and the transfer say, and the latch does not
unfoldable pub sda_pulled_at : Core → ℕ → Bool
sda_pulled_at c latch = pick (bit ENDDC c.bus.iists) (not (bit 0 latch)) (sda_pulled (active_mode c) c.bus.phase c.bus.shifter)

unfoldable pub scl_pulled_at : Core → ℕ → Bool
scl_pulled_at c latch = pick (bit ENDDC c.bus.iists) (not (bit 1 latch)) (scl_pulled (active_mode c) c.bus.phase)

abbrev pub pulls_sda_of : Chip → Bool
pulls_sda_of c = sda_pulled_at c.core (register_at c.registers PT3)

abbrev pub pulls_scl_of : Chip → Bool
pulls_scl_of c = scl_pulled_at c.core (register_at c.registers PT3)

-- a line is 1 where the outside is 1 and the chip does not pull
abbrev pub sda_of : Chip → Bool
sda_of c = line (pulls_sda_of c) c.core.sda

abbrev pub scl_of : Chip → Bool
scl_of c = line (pulls_scl_of c) c.core.scl

abbrev pub levels_of : Chip → Levels
levels_of c = record { sda = sda_of c; scl = scl_of c; pulls_sda = pulls_sda_of c; pulls_scl = pulls_scl_of c }

-- both lines; an ill formed state is reported before all else
unfoldable pub lines_report : Chip → Lines
lines_report c = pick (well_formed c) (Ok (levels_of c)) (Err (record {}))

-- a bit each: the levels as PT3 has them, then what the chip pulls
abbrev pub four_bits : Bool → Bool → Bool → Bool → ℕ
four_bits sda scl pulls_sda pulls_scl = bit_or (bit_or (weight_if sda 0) (weight_if scl 1)) (bit_or (weight_if pulls_sda 2) (weight_if pulls_scl 3))

-- the number of each case, and its bits
abbrev pub lines_number : Lines → ℕ
lines_number (Err e) = 8
lines_number (Ok l) = 0

abbrev pub lines_bits : Lines → ℕ
lines_bits (Err e) = 0
lines_bits (Ok l) = four_bits l.sda l.scl l.pulls_sda l.pulls_scl

-- the same in one number: the number in bits 31..24, the levels below
abbrev pub lines_word : Lines → ℕ
lines_word l = lines_number l * 16777216 + lines_bits l

-- what a case says of the chip
unfoldable pub LinesValues : Chip → Lines → Type 0
LinesValues c (Err e) = well_formed c ≡ false
LinesValues c (Ok l) =
    (well_formed c ≡ true) × (l.sda ≡ sda_of c) × (l.scl ≡ scl_of c) × (l.pulls_sda ≡ pulls_sda_of c) × (l.pulls_scl ≡ pulls_scl_of c)

-- the number that is reported: 8 where the chip is ill formed, and no other
abbrev pub number_at : Chip → ℕ
number_at c = pick (well_formed c) 0 8

-- the number and the values of a case
pub record LinesCase (c : Chip) (l : Lines) : Type 0 where
  pub number : lines_number l ≡ number_at c
  pub values : LinesValues c l
