-- Words whose counts are computed.
use Rattle.std.specs.Prelude.{List, [], ◌∷◌, ℕ}

-- HSYNCI low, high, an 8 µs clock, HSYNCI high again, low, high
abbrev pub words : List ℕ
words = 0x03001a00 ∷ 0x03001a01 ∷ 0x04000000 ∷ 0x03001a01 ∷ 0x03001a00 ∷ 0x03001a01 ∷ []
