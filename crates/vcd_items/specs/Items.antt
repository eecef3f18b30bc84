-- What a token of the body is (IEEE 1364, 18.2.3 and 18.2.4; Wish 10): a change, a time or a keyword, by its bytes alone.
use Rattle.std.specs.Prelude.{ℕ, ◌+◌, ◌*◌, Bool, true, false, List, [], ◌∷◌, length, drop, get_or, eqb, ltb}
use Rattle.bits.specs.Byte.{pick}
use Rattle.vcd_text.specs.Token.{same_bytes, end_word, decimal_of}
use Rattle.vcd_items.specs.declared.Kind.{Kind}
use Rattle.vcd_items.specs.declared.Kind.TheVariants.{Low, High, Vector, Real, Hash, Dollar, Other}
use Rattle.vcd_items.specs.declared.Item.{Item}
use Rattle.vcd_items.specs.declared.Item.TheVariants.{Scalar, Value, Time, Dump, End, Comment, Bad}

-- ---- vectors: one or more of the four states

-- 0, 1, x and z, in either case
unfoldable pub four_state : ℕ → Bool
four_state b =
    pick (eqb b 48) true (pick (eqb b 49) true (pick (eqb b 120) true (pick (eqb b 88) true (pick (eqb b 122) true (pick (eqb b 90) true false)))))

unfoldable pub all_states : List ℕ → Bool
all_states [] = true
all_states (b ∷ rest) = pick (four_state b) (all_states rest) false

unfoldable pub is_vector : List ℕ → Bool
is_vector t = pick (eqb (length t) 0) false (all_states t)

-- ---- reals: what C's %.16g prints

-- classes of bytes: 0 digit, 1 sign, 2 point, 3 e, 4 n, 5 a, 6 i, 7 f, in either case; 8 any other
unfoldable pub letter_class : ℕ → ℕ
letter_class b =
    pick (eqb b 43) 1
    (pick (eqb b 45) 1
    (pick (eqb b 46) 2
    (pick (eqb b 69) 3
    (pick (eqb b 101) 3
    (pick (eqb b 78) 4
    (pick (eqb b 110) 4
    (pick (eqb b 65) 5
    (pick (eqb b 97) 5
    (pick (eqb b 73) 6
    (pick (eqb b 105) 6
    (pick (eqb b 70) 7
    (pick (eqb b 102) 7
    8))))))))))))

unfoldable pub real_class : ℕ → ℕ
real_class b = pick (ltb b 48) (letter_class b) (pick (ltb b 58) 0 (letter_class b))

-- what was read: 0 nothing, 1 a sign, 2 digits, 3 a point after them, 4 digits after that, 5 e, 6 its sign, 7 its digits;
-- 8 n, 9 na, 10 i, 11 in, 12 nan or inf; 15 no real. State q and class c, as 16 q + c, give the next:
unfoldable pub real_next : ℕ → ℕ → ℕ
real_next q c =
    pick (eqb (q * 16 + c) 0) 2
    (pick (eqb (q * 16 + c) 1) 1
    (pick (eqb (q * 16 + c) 4) 8
    (pick (eqb (q * 16 + c) 6) 10
    (pick (eqb (q * 16 + c) 16) 2
    (pick (eqb (q * 16 + c) 20) 8
    (pick (eqb (q * 16 + c) 22) 10
    (pick (eqb (q * 16 + c) 32) 2
    (pick (eqb (q * 16 + c) 34) 3
    (pick (eqb (q * 16 + c) 35) 5
    (pick (eqb (q * 16 + c) 48) 4
    (pick (eqb (q * 16 + c) 64) 4
    (pick (eqb (q * 16 + c) 67) 5
    (pick (eqb (q * 16 + c) 80) 7
    (pick (eqb (q * 16 + c) 81) 6
    (pick (eqb (q * 16 + c) 96) 7
    (pick (eqb (q * 16 + c) 112) 7
    (pick (eqb (q * 16 + c) 133) 9
    (pick (eqb (q * 16 + c) 148) 12
    (pick (eqb (q * 16 + c) 164) 11
    (pick (eqb (q * 16 + c) 183) 12
    15))))))))))))))))))))

unfoldable pub real_state : ℕ → List ℕ → ℕ
real_state q [] = q
real_state q (b ∷ rest) = real_state (real_next q (real_class b)) rest

-- whole where digits, or nan or inf, stand at the end
unfoldable pub whole_real : ℕ → Bool
whole_real q = pick (eqb q 2) true (pick (eqb q 4) true (pick (eqb q 7) true (pick (eqb q 12) true false)))

unfoldable pub is_real : List ℕ → Bool
is_real t = whole_real (real_state 0 t)

-- ---- tokens

-- by the first byte
unfoldable pub kind_of : ℕ → Kind
kind_of b =
    pick (eqb b 48) Low
    (pick (eqb b 49) High (pick (eqb b 120) High (pick (eqb b 88) High (pick (eqb b 122) High (pick (eqb b 90) High
    (pick (eqb b 35) Hash (pick (eqb b 36) Dollar
    (pick (eqb b 98) Vector (pick (eqb b 66) Vector (pick (eqb b 114) Real (pick (eqb b 82) Real Other)))))))))))

-- $dumpvars, $dumpall, $dumpon, $dumpoff
unfoldable pub is_dump : List ℕ → Bool
is_dump t =
    pick (same_bytes t (36 ∷ 100 ∷ 117 ∷ 109 ∷ 112 ∷ 118 ∷ 97 ∷ 114 ∷ 115 ∷ [])) true
    (pick (same_bytes t (36 ∷ 100 ∷ 117 ∷ 109 ∷ 112 ∷ 97 ∷ 108 ∷ 108 ∷ [])) true
    (pick (same_bytes t (36 ∷ 100 ∷ 117 ∷ 109 ∷ 112 ∷ 111 ∷ 110 ∷ [])) true
    (same_bytes t (36 ∷ 100 ∷ 117 ∷ 109 ∷ 112 ∷ 111 ∷ 102 ∷ 102 ∷ []))))

abbrev pub comment_word : List ℕ
comment_word = 36 ∷ 99 ∷ 111 ∷ 109 ∷ 109 ∷ 101 ∷ 110 ∷ 116 ∷ []

-- the keywords of the body
unfoldable pub keyword_of : List ℕ → Item
keyword_of t = pick (same_bytes t end_word) End (pick (same_bytes t comment_word) Comment (pick (is_dump t) Dump Bad))

-- a scalar change is its state and then its code; b and r stand before a value, whose code is the next token; # stands before a
-- decimal number
unfoldable pub item_as : Kind → List ℕ → Item
item_as Low t = Scalar false
item_as High t = Scalar true
item_as Vector t = pick (is_vector (drop 1 t)) Value Bad
item_as Real t = pick (is_real (drop 1 t)) Value Bad
item_as Hash t = Time (decimal_of (drop 1 t))
item_as Dollar t = keyword_of t
item_as Other t = Bad

unfoldable pub item_of : List ℕ → Item
item_of t = pick (eqb (length t) 0) Bad (item_as (kind_of (get_or t 0 0)) t)
