-- The body of a dump as a list of items, the words that spell it, and the event words that it means (IEEE 1364, 18.2.3; Wish 10).
use Rattle.std.specs.Prelude.{Ok}
use Rattle.std.specs.Prelude.{ℕ, ◌-◌, ◌*◌, ◌<◌, ◌≤◌, Bool, true, false, ◌≡◌, List, [], ◌∷◌, ◌++◌, map, length, replicate}
use Rattle.vcd_text.specs.Token.{same_bytes, end_word, decimal_of}
use Rattle.vcd_output.specs.Room.{clock_word, pin_word}
use Rattle.vcd_codes.specs.Codes.{Found, undeclared, declared}
use Rattle.vcd_items.specs.Items.{is_vector, is_real, comment_word}
use Rattle.vcd_steps.specs.Events.{clocks_by, words}
use Rattle.vcd_body.specs.Trace.{Trace}

-- a time and its digits; a change of a scalar, its state and its code; a vector or a real, its letter, its bytes and its code; the keyword of a dump
-- and its end; a comment and its words
pub data Item : Type 0 where
  time : ℕ → List ℕ → Item
  change : ℕ → List ℕ → Item
  vector : ℕ → List ℕ → List ℕ → Item
  real : ℕ → List ℕ → List ℕ → Item
  dump : List ℕ → Item
  end : Item
  comment : List (List ℕ) → Item

-- its words, before others
unfoldable pub item_words : Item → List (List ℕ) → List (List ℕ)
item_words (time n ds) ws = (35 ∷ ds) ∷ ws
item_words (change s code) ws = (s ∷ code) ∷ ws
item_words (vector b v code) ws = (b ∷ v) ∷ code ∷ ws
item_words (real r v code) ws = (r ∷ v) ∷ code ∷ ws
item_words (dump kw) ws = kw ∷ ws
item_words end ws = end_word ∷ ws
item_words (comment cs) ws = comment_word ∷ (cs ++ (end_word ∷ ws))

unfoldable pub body_words : List Item → List (List ℕ)
body_words [] = []
body_words (i ∷ is) = item_words i (body_words is)

-- the states of a scalar: 0 is low; 1, x and z, in either case, are high
pub data State : ℕ → Bool → Type 0 where
  s_zero : State 48 false
  s_one : State 49 true
  s_x : State 120 true
  s_X : State 88 true
  s_z : State 122 true
  s_Z : State 90 true

unfoldable pub pins_of : Found → List ℕ
pins_of undeclared = []
pins_of (declared pins) = pins

unfoldable pub level_words : Bool → List ℕ → List ℕ
level_words high [] = []
level_words high (p ∷ ps) = pin_word high p ∷ level_words high ps

-- no word of a comment is `$end`
pub data NoEndWord : List (List ℕ) → Type 0 where
  no_word : NoEndWord []
  one_word : {w : List ℕ} {ws : List (List ℕ)} → same_bytes w end_word ≡ false → NoEndWord ws → NoEndWord (w ∷ ws)

-- b and r, in either case
pub data VectorLetter : ℕ → Type 0 where
  l_b : VectorLetter 98
  l_B : VectorLetter 66

pub data RealLetter : ℕ → Type 0 where
  l_r : RealLetter 114
  l_R : RealLetter 82

-- $dumpvars, $dumpall, $dumpon, $dumpoff
pub data DumpWord : List ℕ → Type 0 where
  d_vars : DumpWord (36 ∷ 100 ∷ 117 ∷ 109 ∷ 112 ∷ 118 ∷ 97 ∷ 114 ∷ 115 ∷ [])
  d_all : DumpWord (36 ∷ 100 ∷ 117 ∷ 109 ∷ 112 ∷ 97 ∷ 108 ∷ 108 ∷ [])
  d_on : DumpWord (36 ∷ 100 ∷ 117 ∷ 109 ∷ 112 ∷ 111 ∷ 110 ∷ [])
  d_off : DumpWord (36 ∷ 100 ∷ 117 ∷ 109 ∷ 112 ∷ 111 ∷ 102 ∷ 102 ∷ [])

-- what a body means: find, what a code stands for; scale, the unit in ps. Of the time t and c clocks, inside a dump or not, the event words
-- that items bring where none of them is refused
module _ (find : List ℕ → Found) (scale : ℕ) where
  pub data Means : ℕ → ℕ → Bool → List Item → List ℕ → Type 0 where
    m_none : {t c : ℕ} → Means t c false [] []
    -- a time makes the clocks up to and at it due, and does not go back or exceed 64 bits in ps
    m_time : {t c n : ℕ} {ds : List ℕ} {is : List Item} {ws : List ℕ} → decimal_of ds ≡ Ok n → t ≤ n → n * scale < 18446744073709551616
        → Means n (clocks_by n scale) false is ws → Means t c false (time n ds ∷ is) (replicate (clocks_by n scale - c) clock_word ++ ws)
    -- a change gives the pins of its code the level
    m_change : {t c s : ℕ} {inside high : Bool} {code pins : List ℕ} {is : List Item} {ws : List ℕ} → State s high → find code ≡ declared pins
        → Means t c inside is ws → Means t c inside (change s code ∷ is) (level_words high pins ++ ws)
    m_vector : {t c b : ℕ} {inside : Bool} {v code pins : List ℕ} {is : List Item} {ws : List ℕ} → VectorLetter b → is_vector v ≡ true → find code ≡ declared pins
        → Means t c inside is ws → Means t c inside (vector b v code ∷ is) ws
    m_real : {t c r : ℕ} {inside : Bool} {v code pins : List ℕ} {is : List Item} {ws : List ℕ} → RealLetter r → is_real v ≡ true → find code ≡ declared pins
        → Means t c inside is ws → Means t c inside (real r v code ∷ is) ws
    m_end : {t c : ℕ} {is : List Item} {ws : List ℕ} → Means t c false is ws → Means t c true (end ∷ is) ws
    m_comment : {t c : ℕ} {cs : List (List ℕ)} {is : List Item} {ws : List ℕ} → NoEndWord cs → Means t c false is ws → Means t c false (comment cs ∷ is) ws
    m_dump : {t c : ℕ} {kw : List ℕ} {is : List Item} {ws : List ℕ} → DumpWord kw → Means t c true is ws → Means t c false (dump kw ∷ is) ws

-- a trace that refuses nothing and has these words
pub record Accepted (t : Trace) (ws : List ℕ) : Type 0 where
  pub same : words t.events ≡ ws
  pub number : t.number ≡ 0
  pub place : t.place ≡ 0
