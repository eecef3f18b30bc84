-- The header of a dump as a whole: its tokens one after the other, and the variables that they declare (Wish 10).
use Rattle.std.specs.Prelude.{ℕ, ◌+◌, ◌-◌, Bool, true, false, List, [], ◌∷◌, ◌++◌, length, take, drop, eqb, ltb}
use Rattle.bits.specs.Byte.{pick}
use Rattle.vcd_text.specs.Token.{Token, tokens}
use Rattle.vcd_codes.specs.Codes.{Variable}
use Rattle.vcd_header.specs.declared.Head.{Head}
use Rattle.vcd_header.specs.Header.{stops_at, step_as, end_as, fresh_head}

-- where the reader stands, and the variables in declared order
pub record Heading : Type 0 where
  pub head : Head
  pub variables : List Variable

abbrev pub heading : Head → List Variable → Heading
heading h variables = record { head = h; variables = variables }

-- a pin has its variable already: only the first scalar of a name counts
unfoldable pub taken : List Variable → ℕ → Bool
taken [] pin = false
taken (v ∷ rest) pin = pick (eqb v.pin pin) true (taken rest pin)

-- one variable more is counted
abbrev pub one_more : Head → Head
one_more h = record {
  mark = h.mark;
  entries = h.entries + 1;
  unit = h.unit;
  variable = record { from = 0; to = 0; index = 0; pin = 0; scalar = false; whole = false };
  close = h.close;
  section = h.section;
}

-- a whole $var: 42 at its keyword where 32 are declared; its code is the bytes of the file between two places
unfoldable pub declares : List ℕ → Heading → Heading
declares text g =
    pick (ltb g.head.entries 32)
    (heading (one_more g.head)
    (g.variables
    ++ (record {
      code = take (g.head.variable.to - g.head.variable.from) (drop g.head.variable.from text);
      pin = pick (taken g.variables g.head.variable.pin) 0 g.head.variable.pin;
    }
    ∷ [])))
    (heading (stops_at g.head 42 g.head.mark) g.variables)

unfoldable pub settled : List ℕ → Heading → Heading
settled text g = pick g.head.variable.whole (declares text g) g

abbrev pub head_token : List ℕ → Heading → Token → Heading
head_token text g t =
    settled text (heading (step_as g.head.section t.bytes g.head t.place (t.place + length t.bytes)) g.variables)

-- the tokens up to the first refusal or the end of the definitions
unfoldable pub header : List ℕ → Heading → List Token → Heading
header text g [] = heading (end_as g.head.section g.head (length text)) g.variables
header text g (t ∷ ts) = pick (head_token text g t).head.close.stop (head_token text g t) (header text (head_token text g t) ts)

-- the header of a file
unfoldable pub header_of : List ℕ → Heading
header_of text = header text (heading fresh_head []) (tokens false 0 text)
