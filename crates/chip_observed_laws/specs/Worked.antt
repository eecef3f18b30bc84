-- 27 rises of VSYNCI with two bytes written, and the levels that they put on SDA.
use Rattle.std.specs.Prelude.{List, [], ◌∷◌, ◌++◌, replicate, ℕ}

-- VSYNCI low and high
abbrev pub rise : List ℕ
rise = 0x03001b00 ∷ 0x03001b01 ∷ []

-- II STS written 0, which turns DDC1 on, and 1DH written to II DAT
abbrev pub turned_on : List ℕ
turned_on = 0x02001500 ∷ 0x0200141d ∷ []

-- 1DH is loaded by rise 10; C5H is written to II DAT before rise 13 and loaded by rise 19
abbrev pub rises : List (List ℕ)
rises = replicate 12 rise ++ ((0x020014c5 ∷ rise) ∷ replicate 14 rise)

-- nine ones; 1DH, its top bit first; the null bit; C5H; the null bit
abbrev pub levels : List ℕ
levels =
    replicate 9 1
    ++ (0 ∷ 0 ∷ 0 ∷ 1 ∷ 1 ∷ 1 ∷ 0 ∷ 1 ∷ [])
    ++ (1 ∷ [])
    ++ (1 ∷ 1 ∷ 0 ∷ 0 ∷ 0 ∷ 1 ∷ 0 ∷ 1 ∷ [])
    ++ (1 ∷ [])
