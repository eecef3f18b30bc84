-- A list of changes that is computed by both readings, and the chip at its start.
use Rattle.std.specs.Prelude.{ℕ, List, [], ◌∷◌, ◌++◌}
use Rattle.chip.specs.declared.Chip.{Chip}
use Rattle.chip.specs.State.{fresh}
use Rattle.list_call.specs.Run.{after}

-- a clock with SDA at 0, and one with SDA at 1
abbrev pub bit0 : List ℕ
bit0 = 0x1900 ∷ 0x1800 ∷ 0x1901 ∷ []

abbrev pub bit1 : List ℕ
bit1 = 0x1900 ∷ 0x1801 ∷ 0x1901 ∷ []

-- START and 50H; a STOP; START and A1H, a START in its eighth clock, 6EH with its ninth clock, and one more START
abbrev pub example : List ℕ
example =
    (0x1800 ∷ []) ++ (bit0 ++ (bit1 ++ (bit0 ++ (bit1 ++ (bit0 ++ (bit0 ++ (bit0 ++ (bit0 ++ (bit0 ++ (0x1801 ∷ 0x1800 ∷ []) ++
    (bit1 ++ (bit0 ++ (bit1 ++ (bit0 ++ (bit0 ++ (bit0 ++ (bit0 ++ (bit1 ++ (0x1800 ∷ []) ++
    (bit0 ++ (bit1 ++ (bit1 ++ (bit0 ++ (bit1 ++ (bit1 ++ (bit1 ++ (bit0 ++ (bit1 ++ bit0))))))))))))))))))))))))))

-- MDCON and II STS written 0, and 6EH to II ADR
unfoldable pub ready : Chip
ready = after fresh (0x02000500 ∷ 0x02001500 ∷ 0x0200136e ∷ [])
