-- The body read into lent places, and where to go on when they are full.
use Rattle.std.specs.Prelude.{ℕ, false, List, [], ◌∷◌, drop}
use Rattle.bits.specs.Byte.{pick}
use Rattle.vcd_text.specs.Token.{Token}
use Rattle.vcd_output.specs.declared.Put.{Put}
use Rattle.vcd_output.specs.Room.{put}
use Rattle.vcd_codes.specs.Codes.{Found}
use Rattle.vcd_steps.specs.declared.Mode.TheVariants.{Plain}
use Rattle.vcd_steps.specs.declared.State.{State}
use Rattle.vcd_steps.specs.Events.{words}
use Rattle.vcd_steps.specs.Steps.{Effect, refuse, proceed, ends_as}
use Rattle.vcd_body.specs.declared.Cursor.{Cursor}
use Rattle.vcd_body.specs.declared.Piece.{Piece}
use Rattle.vcd_body.specs.declared.Turn.{Turn}
use Rattle.vcd_body.specs.declared.Turn.TheVariants.{Stop, Full, On}
use Rattle.vcd_body.specs.Trace.{token}

-- before the first token of the body
abbrev pub fresh_state : State
fresh_state = record { mark = 0; opened = 0; time = 0; clocks = 0; mode = Plain; inside = false }

-- where a call goes on: at a place of the file, `done` words of the token there being written
abbrev pub cursor : ℕ → ℕ → State → Cursor
cursor at done s = record { at = at; done = done; state = s }

-- the cursor that begins
abbrev pub start : Cursor
start = cursor 0 0 fresh_state

-- the places after a call, and what it tells
pub record Answer : Type 0 where
  pub room : List ℕ
  pub piece : Piece

abbrev pub answer : List ℕ → Piece → Answer
answer room piece = record { room = room; piece = piece }

-- a call that ends by a refusal, or at the file's end: there is nothing to go on with
abbrev pub closed : ℕ → ℕ → ℕ → Piece
closed count number place = record { count = count; place = place; number = number; next = start }

-- a call whose places are full: 43 at the token whose next word finds none, where the next call goes on
abbrev pub paused : ℕ → ℕ → ℕ → State → Piece
paused count place done s = record { count = count; place = place; number = 43; next = cursor place done s }

-- ---- one token

-- the places after a token, and what is to do next
pub record Turned : Type 0 where
  pub room : List ℕ
  pub turn : Turn

abbrev pub turned : List ℕ → Turn → Turned
turned room turn = record { room = room; turn = turn }

-- its words are written, but for those done; the first that finds no place stops the call
unfoldable pub turn_by : State → Put → Turn
turn_by s told = pick told.full (Full told.count told.done) (On s told.count)

unfoldable pub placed : Effect → ℕ → ℕ → List ℕ → Turned
placed (refuse number place) done count room = turned room (Stop number place)
placed (proceed s events) done count room =
    turned (put (drop done (words events)) room count done).room (turn_by s (put (drop done (words events)) room count done).told)

-- ---- the tokens one after the other

-- after a token of the state s at place p, count words standing before it
unfoldable pub goes_on : Turn → List ℕ → ℕ → State → ℕ → (State → ℕ → List ℕ → Answer) → Answer
goes_on (Stop number place) room count s p rest = answer room (closed count number place)
goes_on (Full n done) room count s p rest = answer room (paused n p done s)
goes_on (On next n) room count s p rest = rest next n room

module _ (find : List ℕ → Found) (scale : ℕ) where
  unfoldable pub pieces : State → ℕ → ℕ → List ℕ → List Token → Answer
  pieces s done count room [] = answer room (closed count (ends_as s.mode s).number (ends_as s.mode s).place)
  pieces s done count room (t ∷ ts) =
      goes_on (placed (token find scale s t) done count room).turn (placed (token find scale s t) done count room).room count s t.place
      (λ (next : State) (n : ℕ) (after : List ℕ). pieces next 0 n after ts)
