-- A stream with bytes left over, and its text (document 01, "Replay program and cases").
use Rattle.std.specs.Prelude.{ℕ, ◌+◌, List, [], ◌∷◌, ◌++◌}

-- the words 02000F01 03001B00 03001B01, by which the request line of V comes up, as the bytes of a stream
abbrev pub requesting : List ℕ
requesting = 0x01 ∷ 0x0f ∷ 0x00 ∷ 0x02 ∷ 0x00 ∷ 0x1b ∷ 0x00 ∷ 0x03 ∷ 0x01 ∷ 0x1b ∷ 0x00 ∷ 0x03 ∷ []

-- a line of text, of decimal digits
abbrev pub digits : List ℕ → List ℕ
digits [] = 0x0a ∷ []
digits (d ∷ ds) = (0x30 + d) ∷ digits ds

-- 00000000, 00000000, 00000100
abbrev pub answered : List ℕ
answered =
    digits (0 ∷ 0 ∷ 0 ∷ 0 ∷ 0 ∷ 0 ∷ 0 ∷ 0 ∷ []) ++ (digits (0 ∷ 0 ∷ 0 ∷ 0 ∷ 0 ∷ 0 ∷ 0 ∷ 0 ∷ []) ++ digits (0 ∷ 0 ∷ 0 ∷ 0 ∷ 0 ∷ 1 ∷ 0 ∷ 0 ∷ []))

-- 01000100 for the bytes left over, and 01000000 where no request line is up
abbrev pub left_over_requested : List ℕ
left_over_requested = digits (0 ∷ 1 ∷ 0 ∷ 0 ∷ 0 ∷ 1 ∷ 0 ∷ 0 ∷ [])

abbrev pub left_over_alone : List ℕ
left_over_alone = digits (0 ∷ 1 ∷ 0 ∷ 0 ∷ 0 ∷ 0 ∷ 0 ∷ 0 ∷ [])
