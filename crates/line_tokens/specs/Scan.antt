-- The tokens of a line of text, byte by byte: what stands between white space, up to a comment. A token is one number, its bytes in base
-- 256, the first one highest, letters in upper case; 0 is no token, as `None` is.
use Rattle.std.specs.Prelude.{Option, Some, None, ℕ, ◌+◌, ◌-◌, ◌*◌, Bool, true, false, List, [], ◌∷◌, eqb, ltb}
use Rattle.bits.specs.Byte.{pick}
use Rattle.line_tokens.specs.declared.Token.{Token}
use Rattle.line_tokens.specs.declared.BadToken.{BadToken}
use Rattle.line_tokens.specs.declared.Scanner.{Scanner}

-- one more; the largest number of 64 bits stands
unfoldable pub one_more : ℕ → ℕ
one_more n = pick (ltb n 18446744073709551615) (n + 1) n

-- ---- bytes

-- white space: a blank, a tab, and the carriage return of a line that ends in CR LF
unfoldable pub blank : ℕ → Bool
blank b = pick (eqb b 32) true (pick (eqb b 9) true (eqb b 13))

-- a byte without its letter case; FFH for a control byte, which no name has
unfoldable pub fold : ℕ → ℕ
fold b = pick (ltb b 33) 255 (pick (ltb b 97) b (pick (ltb b 123) (b - 32) b))

-- a token with one byte more; FFH eight times for a token of nine bytes or more
unfoldable pub grown : ℕ → ℕ → ℕ
grown v b = pick (ltb v 72057594037927936) (v * 256 + fold b) 18446744073709551615

-- a decimal number with one digit more; none for what is no number below 2^64 - 1
unfoldable pub counted : Option ℕ → ℕ → Option ℕ
counted None b = None
counted (Some n) b =
    pick (ltb b 48) None
    (pick (ltb b 58) (pick (ltb n 1844674407370955161) (Some (n * 10 + (b - 48))) None) None)

-- ---- a token in reading

-- a token with one byte more; where there is none, it begins here, and one of number 0 goes on from its count
unfoldable pub longer : Option Token → ℕ → ℕ → Token
longer None at b = record { value = grown 0 b; count = counted (Some 0) b; at = at }
longer (Some t) at b = record { value = grown t.value b; count = counted t.count b; at = pick (eqb t.value 0) at t.at }

-- a bad or missing token at a place
abbrev pub bad_at : ℕ → BadToken
bad_at at = record { at = at }

-- ---- a line in reading

unfoldable pub start : Scanner
start = record { pending = None; done = None; at = 0; remark = false }

-- one byte on
unfoldable pub moved : Scanner → Option Token → Option Token → Bool → Scanner
moved s pending done remark = record { pending = pending; done = done; at = one_more s.at; remark = remark }

-- a byte of a comment
unfoldable pub passed : Scanner → Scanner
passed s = moved s None None true

-- a byte that ends a token, or `#`, with which a comment begins
unfoldable pub ended : Scanner → Bool → Scanner
ended s remark = moved s None s.pending remark

-- a byte that begins a token, whatever stands before it
unfoldable pub begun : Scanner → ℕ → Scanner
begun s b = moved s (Some (longer None s.at b)) s.pending false

-- a byte that goes on with a token
unfoldable pub within : Scanner → ℕ → Scanner
within s b = moved s (Some (longer s.pending s.at b)) None false

unfoldable pub is_star : Option Token → Bool
is_star None = false
is_star (Some t) = eqb t.value 42

-- `*` is a token by itself, with or without white space around it
unfoldable pub scanned : Scanner → ℕ → Scanner
scanned s b =
    pick (blank b) (ended s false)
    (pick (eqb b 35) (ended s true)
    (pick (eqb b 42) (begun s b)
    (pick (is_star s.pending) (begun s b)
    (within s b))))

-- a byte more of a line
unfoldable pub scan : Scanner → ℕ → Scanner
scan s b = pick s.remark (passed s) (scanned s b)

-- ---- the tokens of a line

-- a token before others, if there is one
unfoldable pub before : Option Token → List Token → List Token
before None rest = rest
before (Some t) rest = pick (eqb t.value 0) rest (t ∷ rest)

-- what follows in a line that is read so far
unfoldable pub tokens_from : Scanner → List ℕ → List Token
tokens_from s [] = before s.pending []
tokens_from s (b ∷ rest) = before (scan s b).done (tokens_from (scan s b) rest)

-- the tokens of a line
abbrev pub tokens : List ℕ → List Token
tokens line = tokens_from start line

-- their numbers
unfoldable pub values : List Token → List ℕ
values [] = []
values (t ∷ rest) = t.value ∷ values rest
