-- A transfer up to a held clock.
use Rattle.std.specs.Prelude.{List, [], ◌∷◌, ◌++◌, ℕ}
use Rattle.chip.specs.declared.Chip.{Chip}
use Rattle.chip.specs.State.{fresh}
use Rattle.list_call.specs.Run.{advanced}

-- SCL high and low, the bit being on SDA
abbrev pub scl_pulse : List ℕ
scl_pulse = 0x03001901 ∷ 0x03001900 ∷ []

-- MDCON and II STS written 0, START, A0H, and the rise of the ninth clock
abbrev pub addressed : List ℕ
addressed =
    0x02000500 ∷ 0x02001500 ∷ 0x03001800 ∷ 0x03001900 ∷ 0x03001801 ∷ (scl_pulse ++ (0x03001800 ∷ (scl_pulse ++ (0x03001801 ∷ (scl_pulse ++ (0x03001800 ∷
    (scl_pulse ++ (scl_pulse ++ (scl_pulse ++ (scl_pulse ++ (scl_pulse ++ (0x03001901 ∷ []))))))))))))

-- the chip there
abbrev pub ninth : Chip
ninth = advanced fresh addressed

-- the fall that ends it
abbrev pub fall : ℕ
fall = 0x03001900

-- an 8 µs clock, SCL and SDA moved, an 8 µs clock, a watchdog clock, an 8 µs clock
abbrev pub words : List ℕ
words = 0x04000000 ∷ 0x03001901 ∷ 0x03001800 ∷ 0x03001801 ∷ 0x04000000 ∷ 0x04000300 ∷ 0x04000000 ∷ []
