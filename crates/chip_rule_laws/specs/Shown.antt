-- What a read of HVCON shows bit by bit, and of the latches (document 01, "Registers").
use Rattle.std.specs.Prelude.{Bool, ℕ}
use Rattle.bits.specs.Byte.{pick}
use Rattle.registers.specs.Names.{HPOLI, VPOLI}

abbrev pub found_at : Bool → ℕ
found_at vertical = pick vertical VPOLI HPOLI
