-- A text as words with white space between them, said without a reader.
use Rattle.std.specs.Prelude.{ℕ, true, false, ◌≡◌, List, [], ◌∷◌, ◌++◌}
use Rattle.vcd_text.specs.Token.{white, Token}

-- bytes that are not white
pub data NonWhite : List ℕ → Type 0 where
  no_byte : NonWhite []
  more : {b : ℕ} {bs : List ℕ} → white b ≡ false → NonWhite bs → NonWhite (b ∷ bs)

-- a word ends before it: the text is over, or goes on with a white byte
pub data WordEnds : List ℕ → Type 0 where
  at_end_lem : WordEnds []
  at_white : {b : ℕ} {rest : List ℕ} → white b ≡ true → WordEnds (b ∷ rest)

-- the words of a text, in their order; any white space stands between them, before the first and after the last
pub data Spells : List ℕ → List (List ℕ) → Type 0 where
  no_text : Spells [] []
  white_byte : {b : ℕ} {text : List ℕ} {ws : List (List ℕ)} → white b ≡ true → Spells text ws → Spells (b ∷ text) ws
  word : {b : ℕ} {bs rest text : List ℕ} {ws : List (List ℕ)} → NonWhite (b ∷ bs) → WordEnds rest → text ≡ (b ∷ bs) ++ rest → Spells rest ws → Spells text ((b ∷ bs) ∷ ws)

unfoldable pub bytes_of : List Token → List (List ℕ)
bytes_of [] = []
bytes_of (t ∷ ts) = t.bytes ∷ bytes_of ts
