-- A call writes the words of the trace, one after the other, and tells the first refusal: `call-gives`.
-- Assumes nothing.
use Rattle.vcd_text.specs.declared.NumberError.TheVariants.{Bad, Big}
use Rattle.std.specs.Prelude.{Ok, Err}
use Rattle.vcd_text.specs.Token.{Number}
use mathlib.Core.Bool.{Bool, true, false}
use mathlib.Core.Path.{◌≡◌, refl, sym, ap, ◌∙◌}
use mathlib.Core.List.{List, [], ◌∷◌, ◌++◌}
use Prim.Native.Nat.{ℕ, zero, suc, ◌+◌, ◌-◌, ◌*◌, ◌<◌}
use native.Mathlib.Omega.{arith}
use lib.ListN.{length, take, drop, get_or, set, length-set}
use lib.Seq.{drop-set-lt, drop-nil}
use lib.Dec.{ltb, eqb}
use borrow.Author.Tests.{lt-ltb}
use Rattle.bits.specs.Byte.{pick}
use Rattle.vcd_text.specs.Token.{Token, same_bytes, end_word, tokens}
use Rattle.vcd_output.specs.declared.Put.{Put}
use Rattle.vcd_output.specs.Room.{Written, wrote, put}
use Rattle.vcd_codes.specs.Codes.{Found, undeclared, declared, find}
use Rattle.vcd_items.specs.declared.Item.{Item}
use Rattle.vcd_items.specs.declared.Item.TheVariants as item
use Rattle.vcd_items.specs.Items.{item_of}
use Rattle.vcd_steps.specs.declared.Mode.{Mode}
use Rattle.vcd_steps.specs.declared.Mode.TheVariants.{Plain, Code, Comment}
use Rattle.vcd_steps.specs.declared.State.{State}
use Rattle.vcd_steps.specs.Events.{Event, event, clocks_by, clock_events, pin_events, words}
use Rattle.vcd_steps.specs.Steps.{Effect, refuse, proceed, advanced, time_as, time_of, change_of, code_of, dump_of, end_of, comment_of, commented, item_step, ends_as}
use Rattle.vcd_body.specs.declared.Turn.{Turn}
use Rattle.vcd_body.specs.declared.Turn.TheVariants.{Stop, Full, On}
use Rattle.vcd_body.specs.declared.Cursor.{Cursor}
use Rattle.vcd_body.specs.Trace.{Trace, stopped, prepended, carried, token_as, token, body}
use Rattle.vcd_body.specs.Pieces.{Answer, answer, closed, paused, fresh_state, start, turn_by, placed, goes_on, pieces}
use Rattle.vcd.specs.Header.{Heading, header_of}
use Rattle.vcd.specs.Call.{body_tokens, trace_by, trace_of, goes_on_at, call_by, call_of}
use Rattle.vcd_laws.specs.Giving.{told, give, given, told_by, left_by, left_of, rest_by, rest_of}
use Rattle.vcd_laws.specs.Kept.{Kept}

-- ---- all events of a token stand at its place

pub data AllAt (p : ℕ) : List Event → Type 0 where
  all_none : AllAt p []
  all_more : {e : Event} {rest : List Event} → e.place ≡ p → AllAt p rest → AllAt p (e ∷ rest)

-- a refusal, or events at the place
pub data At (p : ℕ) : Effect → Type 0 where
  at_refuse : {n q : ℕ} → At p (refuse n q)
  at_proceed : {s : State} {events : List Event} → AllAt p events → At p (proceed s events)

clocks_at : (p k n : ℕ) → AllAt p (clock_events p k n)
unfolding clock_events
clocks_at p k zero = all_none
clocks_at p k (suc n) = all_more refl (clocks_at p (k + 1) n)

pins_at : (p t : ℕ) (high : Bool) (pins : List ℕ) → AllAt p (pin_events p t high pins)
unfolding pin_events
pins_at p t high [] = all_none
pins_at p t high (pin ∷ rest) = all_more refl (pins_at p t high rest)

either_at : (p : ℕ) (q : Bool) (x y : Effect) → At p x → At p y → At p (pick q x y)
either_at p true x y a b = a
either_at p false x y a b = b

module _ (scale : ℕ) (s : State) (p : ℕ) where
  number_at : (n : Number) → At p (time_as n scale s p)
  unfolding time_as advanced
  number_at (Err Bad) = at_refuse
  number_at (Err Big) = at_refuse
  number_at (Ok n) =
      either_at p (ltb n s.time) _ _ at_refuse (either_at p (ltb (n * scale) 18446744073709551616) _ _ (at_proceed (clocks_at p s.clocks (clocks_by n scale - s.clocks))) at_refuse)

  time_at : (n : Number) → At p (time_of n scale s p)
  unfolding time_of
  time_at n = either_at p s.inside _ _ at_refuse (either_at p (eqb scale 0) _ _ at_refuse (number_at n))

  change_at : (f : Found) (high : Bool) → At p (change_of f high scale s p)
  unfolding change_of
  change_at undeclared high = at_refuse
  change_at (declared pins) high = at_proceed (pins_at p (s.time * scale) high pins)

  item_at : (i : Item) (f : Found) → At p (item_step i f scale s p)
  unfolding item_step dump_of end_of comment_of
  item_at (item.Scalar high) f = change_at f high
  item_at item.Value f = at_proceed all_none
  item_at (item.Time n) f = time_at n
  item_at item.Dump f = either_at p s.inside _ _ at_refuse (at_proceed all_none)
  item_at item.End f = either_at p s.inside _ _ (at_proceed all_none) at_refuse
  item_at item.Comment f = either_at p s.inside _ _ at_refuse (at_proceed all_none)
  item_at item.Bad f = at_refuse

  code_at : (f : Found) → At p (code_of f s)
  unfolding code_of
  code_at undeclared = at_refuse
  code_at (declared pins) = at_proceed all_none

  comment_at : (b : Bool) → At p (commented b s)
  unfolding commented
  comment_at true = at_proceed all_none
  comment_at false = at_proceed all_none

  pub token_at_lem : (look : List ℕ → Found) (m : Mode) (t : List ℕ) → At p (token_as look scale m s t p)
  unfolding token_as
  token_at_lem look Plain t = item_at (item_of t) (look (drop 1 t))
  token_at_lem look Code t = code_at (look t)
  token_at_lem look Comment t = comment_at (same_bytes t end_word)

-- ---- events given after others

drop_all : (p n : ℕ) (xs : List Event) → AllAt p xs → AllAt p (drop n xs)
drop_all p zero xs a = a
drop_all p (suc n) [] a = all_none
drop_all p (suc n) (x ∷ xs) (all_more e a) = drop_all p n xs a

pub words_drop : (n : ℕ) (xs : List Event) → words (drop n xs) ≡ drop n (words xs)
unfolding words
words_drop zero xs = refl
words_drop (suc n) [] = refl
words_drop (suc n) (x ∷ xs) = words_drop n xs

-- some find no place: 43 at their place
module _ (p : ℕ) (ys : List Event) (n q : ℕ) where
  full_step : (e : Event) (xs : List Event) (room : List ℕ) (count d : ℕ) (b : Bool) → e.place ≡ p
      → ((put (words xs) (set room count e.word) (count + 1) (d + 1)).told.full ≡ true
      → give (xs ++ ys) n q (set room count e.word) (count + 1)
      ≡ told (put (words xs) (set room count e.word) (count + 1) (d + 1)).room (put (words xs) (set room count e.word) (count + 1) (d + 1)).told.count 43 p)
      → (pick b (put (words xs) (set room count e.word) (count + 1) (d + 1)) (wrote room (record { count = count; done = d; full = true }))).told.full ≡ true
      → pick b (give (xs ++ ys) n q (set room count e.word) (count + 1)) (told room count 43 e.place)
      ≡ told (pick b (put (words xs) (set room count e.word) (count + 1) (d + 1)) (wrote room (record { count = count; done = d; full = true }))).room
      (pick b (put (words xs) (set room count e.word) (count + 1) (d + 1)) (wrote room (record { count = count; done = d; full = true }))).told.count 43 p
  full_step e xs room count d true z ih h = ih h
  full_step e xs room count d false z ih h = rw z refl

  pub give_full : (xs : List Event) (room : List ℕ) (count d : ℕ) → AllAt p xs → (put (words xs) room count d).told.full ≡ true
      → give (xs ++ ys) n q room count ≡ told (put (words xs) room count d).room (put (words xs) room count d).told.count 43 p
  unfolding give put words
  give_full [] room count d a h = absurd (let z : ◌≡◌ {A = ℕ} 0 1 = cc in omega arith)
  give_full (e ∷ xs) room count d (all_more z a) h =
      full_step e xs room count d (ltb count (length room)) z (λ k. give_full xs (set room count e.word) (count + 1) (d + 1) a k) h

-- all find a place: what comes after them is given next
module _ (ys : List Event) (n q : ℕ) where
  on_step : (e : Event) (xs : List Event) (room : List ℕ) (count d : ℕ) (b : Bool)
      → ((put (words xs) (set room count e.word) (count + 1) (d + 1)).told.full ≡ false
      → give (xs ++ ys) n q (set room count e.word) (count + 1)
      ≡ give ys n q (put (words xs) (set room count e.word) (count + 1) (d + 1)).room (put (words xs) (set room count e.word) (count + 1) (d + 1)).told.count)
      → (pick b (put (words xs) (set room count e.word) (count + 1) (d + 1)) (wrote room (record { count = count; done = d; full = true }))).told.full ≡ false
      → pick b (give (xs ++ ys) n q (set room count e.word) (count + 1)) (told room count 43 e.place)
      ≡ give ys n q (pick b (put (words xs) (set room count e.word) (count + 1) (d + 1)) (wrote room (record { count = count; done = d; full = true }))).room
      (pick b (put (words xs) (set room count e.word) (count + 1) (d + 1)) (wrote room (record { count = count; done = d; full = true }))).told.count
  on_step e xs room count d true ih h = ih h
  on_step e xs room count d false ih h = absurd (let z : ◌≡◌ {A = ℕ} 0 1 = cc in omega arith)

  pub give_on : (xs : List Event) (room : List ℕ) (count d : ℕ) → (put (words xs) room count d).told.full ≡ false
      → give (xs ++ ys) n q room count ≡ give ys n q (put (words xs) room count d).room (put (words xs) room count d).told.count
  unfolding give put words
  give_on [] room count d h = refl
  give_on (e ∷ xs) room count d h =
      on_step e xs room count d (ltb count (length room)) (λ k. give_on xs (set room count e.word) (count + 1) (d + 1) k) h

-- ---- the tokens one after the other

module _ (look : List ℕ → Found) (scale : ℕ) where
  left_zero : (e : Effect) (ts : List Token) → carried e (λ (n : State). body look scale n ts) ≡ left_by look scale 0 ts e
  unfolding carried left_by
  left_zero (refuse n q) ts = refl
  left_zero (proceed next events) ts = refl

  pub left_all : (s : State) (ts : List Token) → body look scale s ts ≡ left_of look scale 0 s ts
  unfolding body left_of
  left_all s [] = refl
  left_all s (t ∷ ts) = left_zero (token look scale s t) ts

  -- after a token that brings events
  module _ (ts : List Token) (s next : State) (p done count : ℕ) (room : List ℕ) (events : List Event) (a : AllAt p events)
      (ih : (n : ℕ) (l : List ℕ) → told_by (pieces look scale next 0 n l ts) ≡ give (body look scale next ts).events (body look scale next ts).number (body look scale next ts).place l n) where
    turn_gives : (w : Written) (b : Bool) → w ≡ put (words (drop done events)) room count done → w.told.full ≡ b
        → told_by (goes_on (pick b (Full w.told.count w.told.done) (On next w.told.count)) w.room count s p (λ (n : State) (m : ℕ) (l : List ℕ). pieces look scale n 0 m l ts))
        ≡ give (drop done events ++ (body look scale next ts).events) (body look scale next ts).number (body look scale next ts).place room count
    unfolding goes_on
    turn_gives w true e f =
        rw e (sym (give_full p (body look scale next ts).events (body look scale next ts).number (body look scale next ts).place (drop done events) room count done (drop_all p done events a) (rw e at f)))
    turn_gives w false e f =
        ih w.told.count w.room
        ∙ rw e (sym (give_on (body look scale next ts).events (body look scale next ts).number (body look scale next ts).place (drop done events) room count done (rw e at f)))

  effect_gives : (ts : List Token) (s : State) (p done count : ℕ) (room : List ℕ) (e : Effect) → At p e
      → ((next : State) (n : ℕ) (l : List ℕ) → told_by (pieces look scale next 0 n l ts) ≡ give (body look scale next ts).events (body look scale next ts).number (body look scale next ts).place l n)
      → told_by (goes_on (placed e done count room).turn (placed e done count room).room count s p (λ (n : State) (m : ℕ) (l : List ℕ). pieces look scale n 0 m l ts))
      ≡ give (left_by look scale done ts e).events (left_by look scale done ts e).number (left_by look scale done ts e).place room count
  unfolding placed goes_on left_by turn_by give
  effect_gives ts s p done count room (refuse n q) at_refuse ih = refl
  effect_gives ts s p done count room (proceed next events) (at_proceed a) ih =
      turn_gives ts s next p done count room events a (ih next) (put (drop done (words events)) room count done) (put (drop done (words events)) room count done).told.full (rw (words_drop done events) refl) refl

  pub pieces_give : (ts : List Token) (s : State) (done count : ℕ) (room : List ℕ)
      → told_by (pieces look scale s done count room ts) ≡ give (left_of look scale done s ts).events (left_of look scale done s ts).number (left_of look scale done s ts).place room count
  unfolding pieces left_of body give
  pieces_give [] s done count room = refl
  pieces_give (t ∷ ts) s done count room =
      effect_gives ts s t.place done count room (token look scale s t) (token_at_lem scale s t.place look s.mode t.bytes)
      (λ next n l. pieces_give ts next 0 n l ∙ rw (← (left_all next ts)) refl)

-- ---- a call

call_by_lem : (text : List ℕ) (g : Heading) (c : Cursor) (room : List ℕ) (b : Bool)
    → told_by (pick b (answer room (closed 0 g.head.close.number g.head.close.place))
    (pieces (find g.variables) g.head.unit.unit c.state c.done 0 room (body_tokens text (goes_on_at g c))))
    ≡ given (pick b (stopped g.head.close.number g.head.close.place) (left_of (find g.variables) g.head.unit.unit c.done c.state (body_tokens text (goes_on_at g c)))) room
unfolding give
call_by_lem text g c room true = refl
call_by_lem text g c room false = pieces_give (find g.variables) g.head.unit.unit (body_tokens text (goes_on_at g c)) c.state c.done 0 room

-- from any cursor a call gives what is left of the trace
pub more_gives : (text : List ℕ) (c : Cursor) (room : List ℕ) → told_by (call_of text c room) ≡ given (rest_of text c) room
unfolding call_of call_by rest_of rest_by
more_gives text c room = call_by_lem text (header_of text) c room (ltb 0 (header_of text).head.close.number)

begin_at : (n : ℕ) → pick (ltb 0 n) n 0 ≡ n
begin_at zero = refl
begin_at (suc n) = let h : 0 < suc n = omega arith in simp (lt-ltb 0 (suc n) h)

pub all_left : (text : List ℕ) → rest_of text start ≡ trace_of text
unfolding rest_of rest_by trace_of trace_by
all_left text = rw (begin_at (header_of text).head.close.place, ← (left_all (find (header_of text).variables) (header_of text).head.unit.unit fresh_state (body_tokens text (header_of text).head.close.place))) refl

-- the whole file: the words, their number, the refusal and its place are those of the trace
pub call_gives : (text room : List ℕ) → told_by (call_of text start room) ≡ given (trace_of text) room
call_gives text room = more_gives text start room ∙ rw (all_left text) refl

-- ---- what a call leaves as it was, and what it writes

kept_step : (e : Event) (rest : List Event) (n q : ℕ) (room : List ℕ) (count : ℕ) (b : Bool) → Kept (set room count e.word) (count + 1) (give rest n q (set room count e.word) (count + 1))
    → Kept room count (pick b (give rest n q (set room count e.word) (count + 1)) (told room count 43 e.place))
kept_step e rest n q room count true k = record {
  grows = omega (arith, k.grows);
  past = k.past ∙ drop-set-lt (give rest n q (set room count e.word) (count + 1)).count room count e.word (omega (arith, k.grows));
  size = k.size ∙ length-set room count e.word;
}
kept_step e rest n q room count false k = record { grows = omega arith; past = refl; size = refl }

pub give_keeps : (es : List Event) (n q : ℕ) (room : List ℕ) (count : ℕ) → Kept room count (give es n q room count)
unfolding give
give_keeps [] n q room count = record { grows = omega arith; past = refl; size = refl }
give_keeps (e ∷ rest) n q room count = kept_step e rest n q room count (ltb count (length room)) (give_keeps rest n q (set room count e.word) (count + 1))

-- places past the words that were written keep their content, for every file, cursor and room
pub untouched : (text : List ℕ) (c : Cursor) (room : List ℕ) → Kept room 0 (told_by (call_of text c room))
untouched text c room = rw (more_gives text c room) (give_keeps (rest_of text c).events (rest_of text c).number (rest_of text c).place room 0)
