-- The numbers of the pins that a rule names (document 01, "Event words"). Those of the ports are P00 to P07 from 0, P10 to P16
-- from 8 and P20 to P27 from 16.
use Rattle.std.specs.Prelude.{ℕ}

abbrev pub P16 : ℕ
P16 = 14

abbrev pub SDA : ℕ
SDA = 24

abbrev pub SCL : ℕ
SCL = 25

abbrev pub HSYNCI : ℕ
HSYNCI = 26

abbrev pub VSYNCI : ℕ
VSYNCI = 27

abbrev pub RESET : ℕ
RESET = 28
