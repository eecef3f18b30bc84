-- What a call is to make of a trace (Wish 10): its event words one after the other, as far as there are places.
use Rattle.std.specs.Prelude.{ℕ, ◌+◌, List, [], ◌∷◌, length, drop, set, ltb}
use Rattle.bits.specs.Byte.{pick}
use Rattle.vcd_steps.specs.Events.{Event}
use Rattle.vcd_text.specs.Token.{Token}
use Rattle.vcd_codes.specs.Codes.{Found, find}
use Rattle.vcd_steps.specs.declared.State.{State}
use Rattle.vcd_steps.specs.Steps.{Effect, refuse, proceed}
use Rattle.vcd_body.specs.declared.Cursor.{Cursor}
use Rattle.vcd_body.specs.Trace.{Trace, stopped, prepended, token, body}
use Rattle.vcd_body.specs.Pieces.{Answer}
use Rattle.vcd.specs.Header.{Heading, header_of}
use Rattle.vcd.specs.Call.{body_tokens, goes_on_at}

-- the places after a call; how many words were written; the refusal, or 0, and its place
pub record Told : Type 0 where
  pub room : List ℕ
  pub count : ℕ
  pub number : ℕ
  pub place : ℕ

abbrev pub told : List ℕ → ℕ → ℕ → ℕ → Told
told room count number place = record { room = room; count = count; number = number; place = place }

-- each event at the next place; the first that finds none is 43, at the token that brings it
unfoldable pub give : List Event → ℕ → ℕ → List ℕ → ℕ → Told
give [] number place room count = told room count number place
give (e ∷ rest) number place room count =
    pick (ltb count (length room)) (give rest number place (set room count e.word) (count + 1)) (told room count 43 e.place)

abbrev pub given : Trace → List ℕ → Told
given t room = give t.events t.number t.place room 0

-- what a call tells, where to go on aside
abbrev pub told_by : Answer → Told
told_by a = told a.room a.piece.count a.piece.number a.piece.place

-- ---- what is left of a trace where a call goes on

module _ (look : List ℕ → Found) (scale : ℕ) where
  -- the first token without the events that are done
  unfoldable pub left_by : ℕ → List Token → Effect → Trace
  left_by done ts (refuse number place) = stopped number place
  left_by done ts (proceed next events) = prepended (drop done events) (body look scale next ts)

  unfoldable pub left_of : ℕ → State → List Token → Trace
  left_of done s [] = body look scale s []
  left_of done s (t ∷ ts) = left_by done ts (token look scale s t)

unfoldable pub rest_by : List ℕ → Heading → Cursor → Trace
rest_by text g c =
    pick (ltb 0 g.head.close.number) (stopped g.head.close.number g.head.close.place)
    (left_of (find g.variables) g.head.unit.unit c.done c.state (body_tokens text (goes_on_at g c)))

unfoldable pub rest_of : List ℕ → Cursor → Trace
rest_of text c = rest_by text (header_of text) c
