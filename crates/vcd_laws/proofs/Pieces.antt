-- Words in pieces are the words of one call: the cursor that a call tells with 43 leaves the events that were not written
-- (`left_after`), two pieces joined are one call with the room of both (`pieces-joined`, `words-joined`), and so are any number
-- (`pieces-all`, `pieces-words`).
-- Assumes nothing.
use Rattle.vcd_text.specs.declared.NumberError.TheVariants.{Bad, Big}
use Rattle.std.specs.Prelude.{Ok, Err}
use Rattle.vcd_text.specs.Token.{Number}
use mathlib.Core.Bool.{Bool, true, false}
use mathlib.Core.Path.{◌≡◌, refl, sym, ap, ◌∙◌}
use mathlib.Core.List.{List, [], ◌∷◌, ◌++◌, append-nil, append_assoc}
use Prim.Native.Nat.{ℕ, zero, suc, ◌+◌, ◌-◌, ◌*◌, ◌<◌, ◌≤◌}
use native.Mathlib.Omega.{arith}
use native.Mathlib.Numerals.{add-one}
use lib.ListN.{length, take, drop, set, length-set, length-append}
use lib.Seq.{drop-drop, drop-nil, drop-append-le, drop-append-add, set-append_left, take-add, take-append-le, take-suc-set}
use lib.Dec.{ltb, eqb}
use borrow.Author.Tests.{lt-ltb, le-ltb, ltb-true, ltb-false, eqb-true, eqb-false}
use Rattle.bits.specs.Byte.{pick}
use Rattle.vcd_text.specs.Token.{Token, same_bytes, end_word, white_length, word_length, tokens}
use Rattle.vcd_text.proofs.Laws.{tokens_skip, no_token_lem, next_token, word_some}
use Rattle.vcd_output.specs.declared.Put.{Put}
use Rattle.vcd_output.specs.Room.{Written, wrote, put}
use Rattle.vcd_codes.specs.Codes.{Found, undeclared, declared, find}
use Rattle.vcd_items.specs.declared.Item.{Item}
use Rattle.vcd_items.specs.declared.Item.TheVariants as item
use Rattle.vcd_items.specs.Items.{item_of}
use Rattle.vcd_steps.specs.declared.Mode.{Mode}
use Rattle.vcd_steps.specs.declared.Mode.TheVariants.{Plain, Code, Comment}
use Rattle.vcd_steps.specs.declared.State.{State}
use Rattle.vcd_steps.specs.Events.{Event, words}
use Rattle.vcd_steps.specs.Steps.{Effect, refuse, proceed, advanced, time_as, time_of, change_of, code_of, dump_of, end_of, comment_of, commented, item_step, ends_as}
use Rattle.vcd_body.specs.declared.Turn.TheVariants.{Full, On}
use Rattle.vcd_body.specs.declared.Cursor.{Cursor}
use Rattle.vcd_body.specs.Trace.{Trace, stopped, prepended, token_as, token, body}
use Rattle.vcd_body.specs.Pieces.{Answer, answer, closed, start, turn_by, placed, goes_on, pieces}
use Rattle.vcd.specs.Header.{Heading, header_of}
use Rattle.vcd.specs.Call.{body_tokens, goes_on_at, trace_of, call_by, call_of}
use Rattle.vcd_laws.specs.Giving.{Told, told, give, given, told_by, left_by, left_of, rest_by, rest_of}
use Rattle.vcd_laws.specs.Pieces.{without, joined, together, in_pieces, words_of, words_in_pieces}
use Rattle.vcd_laws.proofs.Calls.{left_all, words_drop, more_gives, call_gives, give_keeps}

-- ---- the tokens from a token's place on are that token and those after it

pub data Stands (text : List ℕ) (low : ℕ) : List Token → Type 0 where
  stands_none : Stands text low []
  stands_more : {t : Token} {ts : List Token} → low ≤ t.place → tokens false t.place (drop t.place text) ≡ t ∷ ts → Stands text low ts → Stands text low (t ∷ ts)

stand_by : (text : List ℕ) (low i p e : ℕ) (b : Bool) → ltb p (length text) ≡ b → p ≡ i + white_length (drop i text) → e ≡ p + word_length (drop p text) → low ≤ i
    → (p < length text → Stands text low (tokens false e (drop e text))) → Stands text low (tokens false i (drop i text))
stand_by text low i p e true q from to h ih =
    let l : p < length text = ltb-true p (length text) q in
    let step = next_token text i p from e to l in
    let here : tokens false p (drop p text) ≡ tokens false i (drop i text) =
    sym (tokens_skip i (drop i text) ∙ rw (drop-drop (white_length (drop i text)) i text, ← from) refl) in
    let on : low ≤ p = omega arith in
    rw step (stands_more on (here ∙ step) (ih l))
stand_by text low i p e false q from to h ih =
    let l : length text ≤ p = ltb-false p (length text) q in
    rw (no_token_lem text i p from l) stands_none

pub tokens_stand : (text : List ℕ) (n low i : ℕ) → length text - i ≤ n → low ≤ i → Stands text low (tokens false i (drop i text))
tokens_stand text zero low i h k =
    stand_by text low i (i + white_length (drop i text)) (i + white_length (drop i text) + word_length (drop (i + white_length (drop i text)) text))
    (ltb (i + white_length (drop i text)) (length text)) refl refl refl k (λ l. absurd (omega (arith, l)))
tokens_stand text (suc n) low i h k =
    stand_by text low i (i + white_length (drop i text)) (i + white_length (drop i text) + word_length (drop (i + white_length (drop i text)) text))
    (ltb (i + white_length (drop i text)) (length text)) refl refl refl k
    (λ l. let m = word_some text i (i + white_length (drop i text)) refl (i + white_length (drop i text) + word_length (drop (i + white_length (drop i text)) text)) refl l in
    tokens_stand text n low (i + white_length (drop i text) + word_length (drop (i + white_length (drop i text)) text)) (omega (arith, m)) (omega (arith, m)))

-- ---- how far a writing goes

words_length : (xs : List Event) → length (words xs) ≡ length xs
unfolding words
words_length [] = refl
words_length (x ∷ xs) = ap suc (words_length xs)

-- where some word finds no place, as many more are done as were written
record Filled (ws : List ℕ) (count d : ℕ) (t : Put) : Type 0 where
  grows : count ≤ t.count
  within : t.count ≤ count + length ws
  done : t.done ≡ d + (t.count - count)

filled_step : (w : ℕ) (ws room : List ℕ) (count d : ℕ) (b : Bool)
    → ((put ws (set room count w) (count + 1) (d + 1)).told.full ≡ true → Filled ws (count + 1) (d + 1) (put ws (set room count w) (count + 1) (d + 1)).told)
    → (pick b (put ws (set room count w) (count + 1) (d + 1)) (wrote room (record { count = count; done = d; full = true }))).told.full ≡ true
    → Filled (w ∷ ws) count d (pick b (put ws (set room count w) (count + 1) (d + 1)) (wrote room (record { count = count; done = d; full = true }))).told
filled_step w ws room count d true ih h =
    let r = ih h in
    record { grows = omega (arith, r.grows); within = omega (arith, r.within); done = omega (arith, r.grows, r.done) }
filled_step w ws room count d false ih h = record { grows = omega arith; within = omega arith; done = omega arith }

put_fills : (ws room : List ℕ) (count d : ℕ) → (put ws room count d).told.full ≡ true → Filled ws count d (put ws room count d).told
unfolding put
put_fills [] room count d h = absurd (let z : ◌≡◌ {A = ℕ} 0 1 = cc in omega arith)
put_fills (w ∷ ws) room count d h = filled_step w ws room count d (ltb count (length room)) (λ k. put_fills ws (set room count w) (count + 1) (d + 1) k) h

-- where none is without a place, all are written
whole_step_lem : (w : ℕ) (ws room : List ℕ) (count d : ℕ) (b : Bool)
    → ((put ws (set room count w) (count + 1) (d + 1)).told.full ≡ false → (put ws (set room count w) (count + 1) (d + 1)).told.count ≡ count + 1 + length ws)
    → (pick b (put ws (set room count w) (count + 1) (d + 1)) (wrote room (record { count = count; done = d; full = true }))).told.full ≡ false
    → (pick b (put ws (set room count w) (count + 1) (d + 1)) (wrote room (record { count = count; done = d; full = true }))).told.count ≡ count + suc (length ws)
whole_step_lem w ws room count d true ih h = omega (arith, ih h)
whole_step_lem w ws room count d false ih h = absurd (let z : ◌≡◌ {A = ℕ} 0 1 = cc in omega arith)

put_whole : (ws room : List ℕ) (count d : ℕ) → (put ws room count d).told.full ≡ false → (put ws room count d).told.count ≡ count + length ws
unfolding put
put_whole [] room count d h = omega arith
put_whole (w ∷ ws) room count d h = whole_step_lem w ws room count d (ltb count (length room)) (λ k. put_whole ws (set room count w) (count + 1) (d + 1) k) h

-- ---- no token, and no end of a file, is refused with 43

pub data Other : Effect → Type 0 where
  other_refuse : {n q : ℕ} → (n ≡ 43 → ⊥) → Other (refuse n q)
  other_proceed : {s : State} {events : List Event} → Other (proceed s events)

either_other : (q : Bool) (x y : Effect) → Other x → Other y → Other (pick q x y)
either_other true x y a b = a
either_other false x y a b = b

forty : {q : ℕ} → Other (refuse 40 q)
forty = other_refuse (λ (e : ◌≡◌ {A = ℕ} 40 43). omega arith)

forty_four : {q : ℕ} → Other (refuse 44 q)
forty_four = other_refuse (λ (e : ◌≡◌ {A = ℕ} 44 43). omega arith)

module _ (scale : ℕ) (s : State) (p : ℕ) where
  number_other : (n : Number) → Other (time_as n scale s p)
  unfolding time_as advanced
  number_other (Err Bad) = forty
  number_other (Err Big) = forty_four
  number_other (Ok n) =
      either_other (ltb n s.time) _ _ (other_refuse (λ (e : ◌≡◌ {A = ℕ} 41 43). omega arith))
      (either_other (ltb (n * scale) 18446744073709551616) _ _ other_proceed forty_four)

  time_other : (n : Number) → Other (time_of n scale s p)
  unfolding time_of
  time_other n = either_other s.inside _ _ forty (either_other (eqb scale 0) _ _ forty (number_other n))

  change_other : (f : Found) (high : Bool) → Other (change_of f high scale s p)
  unfolding change_of
  change_other undeclared high = forty
  change_other (declared pins) high = other_proceed

  item_other : (i : Item) (f : Found) → Other (item_step i f scale s p)
  unfolding item_step dump_of end_of comment_of
  item_other (item.Scalar high) f = change_other f high
  item_other item.Value f = other_proceed
  item_other (item.Time n) f = time_other n
  item_other item.Dump f = either_other s.inside _ _ forty other_proceed
  item_other item.End f = either_other s.inside _ _ other_proceed forty
  item_other item.Comment f = either_other s.inside _ _ forty other_proceed
  item_other item.Bad f = forty

  code_other : (f : Found) → Other (code_of f s)
  unfolding code_of
  code_other undeclared = forty
  code_other (declared pins) = other_proceed

  comment_other : (b : Bool) → Other (commented b s)
  unfolding commented
  comment_other true = other_proceed
  comment_other false = other_proceed

  token_other : (look : List ℕ → Found) (m : Mode) (t : List ℕ) → Other (token_as look scale m s t p)
  unfolding token_as
  token_other look Plain t = item_other (item_of t) (look (drop 1 t))
  token_other look Code t = code_other (look t)
  token_other look Comment t = comment_other (same_bytes t end_word)

end_other : (m : Mode) (s : State) (b : Bool) → s.inside ≡ b → (ends_as m s).number ≡ 43 → ⊥
unfolding ends_as
end_other Plain s true q e = let z : ◌≡◌ {A = ℕ} 40 43 = rw q at e in omega arith
end_other Plain s false q e = let z : ◌≡◌ {A = ℕ} 0 43 = rw q at e in omega arith
end_other Code s b q e = omega arith
end_other Comment s b q e = omega arith

-- ---- the tokens one after the other

module _ (look : List ℕ → Found) (scale : ℕ) (text : List ℕ) (low : ℕ) where
  -- the cursor told leaves a trace without the events written since a count
  record Leaves (a : Answer) (count : ℕ) (t : Trace) : Type 0 where
    grows : count ≤ a.piece.count
    past : low ≤ a.piece.next.at
    rest : left_of look scale a.piece.next.done a.piece.next.state (body_tokens text a.piece.next.at) ≡ without (a.piece.count - count) t

  module _ (t : Token) (ts : List Token) (s after : State) (events : List Event) (done count : ℕ) (room : List ℕ) (l : low ≤ t.place)
      (q : tokens false t.place (drop t.place text) ≡ t ∷ ts) (m : token look scale s t ≡ proceed after events)
      (ih : (n : ℕ) (r : List ℕ) → (pieces look scale after 0 n r ts).piece.number ≡ 43 → Leaves (pieces look scale after 0 n r ts) n (body look scale after ts)) where
    turn_leaves : (w : Written) (b : Bool) → w ≡ put (words (drop done events)) room count done → w.told.full ≡ b
        → (goes_on (pick b (Full w.told.count w.told.done) (On after w.told.count)) w.room count s t.place (λ (n : State) (k : ℕ) (r : List ℕ). pieces look scale n 0 k r ts)).piece.number ≡ 43
        → Leaves (goes_on (pick b (Full w.told.count w.told.done) (On after w.told.count)) w.room count s t.place (λ (n : State) (k : ℕ) (r : List ℕ). pieces look scale n 0 k r ts))
        count (prepended (drop done events) (body look scale after ts))
    unfolding goes_on left_of left_by
    turn_leaves w true e f h =
        let r : Filled (words (drop done events)) count done w.told = rw e (put_fills (words (drop done events)) room count done (rw e at f)) in
        let short : w.told.count - count ≤ length (drop done events) = omega (arith, r.within, words_length (drop done events)) in
        record {
          grows = r.grows;
          past = l;
          rest =
              rw (q, m, r.done, drop-append-le (w.told.count - count) (drop done events) (body look scale after ts).events short, drop-drop (w.told.count - count) done events)
              refl;
        }
    turn_leaves w false e f h =
        let i = ih w.told.count w.room h in
        let y : w.told.count ≡ count + length (words (drop done events)) = rw e (put_whole (words (drop done events)) room count done (rw e at f)) in
        let z : w.told.count ≡ count + length (drop done events) = omega (arith, y, words_length (drop done events)) in
        let k : (pieces look scale after 0 w.told.count w.room ts).piece.count - count ≡ length (drop done events) + ((pieces look scale after 0 w.told.count w.room ts).piece.count - w.told.count) =
        omega (arith, i.grows, z) in
        record {
          grows = omega (arith, i.grows, z);
          past = i.past;
          rest =
              i.rest
              ∙ rw (k, drop-append-add (drop done events) (body look scale after ts).events ((pieces look scale after 0 w.told.count w.room ts).piece.count - w.told.count)) refl;
        }

  effect_leaves : (t : Token) (ts : List Token) (s : State) (done count : ℕ) (room : List ℕ) (e : Effect) → low ≤ t.place
      → tokens false t.place (drop t.place text) ≡ t ∷ ts → token look scale s t ≡ e → Other e
      → ((after : State) (n : ℕ) (r : List ℕ) → (pieces look scale after 0 n r ts).piece.number ≡ 43 → Leaves (pieces look scale after 0 n r ts) n (body look scale after ts))
      → (goes_on (placed e done count room).turn (placed e done count room).room count s t.place (λ (n : State) (k : ℕ) (r : List ℕ). pieces look scale n 0 k r ts)).piece.number ≡ 43
      → Leaves (goes_on (placed e done count room).turn (placed e done count room).room count s t.place (λ (n : State) (k : ℕ) (r : List ℕ). pieces look scale n 0 k r ts)) count (left_by look scale done ts e)
  unfolding placed goes_on left_by turn_by
  effect_leaves t ts s done count room (refuse n p) l q m (other_refuse o) ih h = absurd (o h)
  effect_leaves t ts s done count room (proceed after events) l q m o ih h =
      turn_leaves t ts s after events done count room l q m (ih after) (put (drop done (words events)) room count done) (put (drop done (words events)) room count done).told.full (rw (words_drop done events) refl) refl h

  pieces_leave : (ts : List Token) (s : State) (done count : ℕ) (room : List ℕ) → Stands text low ts → (pieces look scale s done count room ts).piece.number ≡ 43
      → Leaves (pieces look scale s done count room ts) count (left_of look scale done s ts)
  unfolding pieces left_of
  pieces_leave [] s done count room a h = absurd (end_other s.mode s s.inside refl h)
  pieces_leave (t ∷ ts) s done count room (stands_more l q a) h =
      effect_leaves t ts s done count room (token look scale s t) l q refl (token_other scale s t.place look s.mode t.bytes)
      (λ after n r k. rw (left_all look scale after ts) (pieces_leave ts after 0 n r a k)) h

-- ---- a call

on_at : (low at : ℕ) → low ≤ at → pick (ltb at low) low at ≡ at
on_at low at h = simp (le-ltb at low h)

from_at : (low at : ℕ) (b : Bool) → ltb at low ≡ b → low ≤ pick b low at
from_at low at true e = omega arith
from_at low at false e = ltb-false at low e

call_leaves : (text : List ℕ) (g : Heading) (c : Cursor) (room : List ℕ) (b : Bool) (a : Answer)
    → a ≡ pick b (answer room (closed 0 g.head.close.number g.head.close.place))
    (pieces (find g.variables) g.head.unit.unit c.state c.done 0 room (body_tokens text (goes_on_at g c)))
    → a.piece.number ≡ 43
    → pick b (stopped g.head.close.number g.head.close.place)
    (left_of (find g.variables) g.head.unit.unit a.piece.next.done a.piece.next.state (body_tokens text (goes_on_at g a.piece.next)))
    ≡ without a.piece.count (pick b (stopped g.head.close.number g.head.close.place)
    (left_of (find g.variables) g.head.unit.unit c.done c.state (body_tokens text (goes_on_at g c))))
call_leaves text g c room true a e h = rw (drop-nil a.piece.count) refl
call_leaves text g c room false a e h =
    let stand : Stands text g.head.close.place (body_tokens text (goes_on_at g c)) =
    tokens_stand text (length text - goes_on_at g c) g.head.close.place (goes_on_at g c) (omega arith) (from_at g.head.close.place c.at (ltb c.at g.head.close.place) refl) in
    let r : Leaves (find g.variables) g.head.unit.unit text g.head.close.place a 0
    (left_of (find g.variables) g.head.unit.unit c.done c.state (body_tokens text (goes_on_at g c))) =
    rw e (pieces_leave (find g.variables) g.head.unit.unit text g.head.close.place (body_tokens text (goes_on_at g c)) c.state c.done 0 room stand (rw e at h)) in
    let z : a.piece.count - 0 ≡ a.piece.count = omega arith in
    rw (on_at g.head.close.place a.piece.next.at r.past) (rw z at r.rest)

call_is : (text : List ℕ) (c : Cursor) (room : List ℕ) → call_of text c room
    ≡ pick (ltb 0 (header_of text).head.close.number) (answer room (closed 0 (header_of text).head.close.number (header_of text).head.close.place))
    (pieces (find (header_of text).variables) (header_of text).head.unit.unit c.state c.done 0 room (body_tokens text (goes_on_at (header_of text) c)))
unfolding call_of call_by
call_is text c room = refl

-- after 43 the cursor told leaves what was left before, without the words that the call has written
pub left_after : (text : List ℕ) (c : Cursor) (room : List ℕ) → (call_of text c room).piece.number ≡ 43
    → rest_of text (call_of text c room).piece.next ≡ without (call_of text c room).piece.count (rest_of text c)
unfolding rest_of rest_by
left_after text c room h = call_leaves text (header_of text) c room (ltb 0 (header_of text).head.close.number) (call_of text c room) (call_is text c room) h

-- ---- events given in two rooms are given in both together

set_right : (xs ys : List ℕ) (i w : ℕ) → set (xs ++ ys) (length xs + i) w ≡ xs ++ set ys i w
set_right [] ys i w = let z : 0 + i ≡ i = omega arith in rw z refl
set_right (x ∷ xs) ys i w = let z : suc (length xs) + i ≡ suc (length xs + i) = omega arith in rw z (ap (λ (l : List ℕ). x ∷ l) (set_right xs ys i w))

take_none : (n : ℕ) → ◌≡◌ {A = List ℕ} (take n []) []
take_none zero = refl
take_none (suc n) = refl

module _ (n q : ℕ) where
  give_place : (e : Event) (rest : List Event) (room : List ℕ) (count : ℕ) → count < length room
      → give (e ∷ rest) n q room count ≡ give rest n q (set room count e.word) (count + 1)
  unfolding give
  give_place e rest room count h = simp (lt-ltb count (length room) h)

  give_none : (e : Event) (rest : List Event) (room : List ℕ) (count : ℕ) → length room ≤ count → give (e ∷ rest) n q room count ≡ told room count 43 e.place
  unfolding give
  give_none e rest room count h = simp (le-ltb count (length room) h)

  -- in a room after another one
  after_by : (e : Event) (rest : List Event) (first room : List ℕ) (k : ℕ) (b : Bool) → ltb k (length room) ≡ b
      → give rest n q (first ++ set room k e.word) (length first + (k + 1)) ≡ joined (told first (length first) 0 0) (give rest n q (set room k e.word) (k + 1))
      → give (e ∷ rest) n q (first ++ room) (length first + k) ≡ joined (told first (length first) 0 0) (give (e ∷ rest) n q room k)
  after_by e rest first room k true f ih =
      let l : k < length room = ltb-true k (length room) f in
      let size = length-append first room in
      let z : length first + k + 1 ≡ length first + (k + 1) = omega arith in
      give_place e rest (first ++ room) (length first + k) (omega (arith, l, size)) ∙ rw (set_right first room k e.word, z, give_place e rest room k l) ih
  after_by e rest first room k false f ih =
      let l : length room ≤ k = ltb-false k (length room) f in
      let size = length-append first room in
      give_none e rest (first ++ room) (length first + k) (omega (arith, l, size)) ∙ rw (give_none e rest room k l) refl

  give_after : (es : List Event) (first room : List ℕ) (k : ℕ) → give es n q (first ++ room) (length first + k) ≡ joined (told first (length first) 0 0) (give es n q room k)
  unfolding give
  give_after [] first room k = refl
  give_after (e ∷ rest) first room k = after_by e rest first room k (ltb k (length room)) refl (give_after rest first (set room k e.word) (k + 1))

  join_by : (e : Event) (rest : List Event) (first room : List ℕ) (count : ℕ) (b : Bool) → ltb count (length first) ≡ b → count ≤ length first
      → (count + 1 ≤ length (set first count e.word)
      → give rest n q (set first count e.word ++ room) (count + 1)
      ≡ joined (give rest n q (set first count e.word) (count + 1)) (give (drop ((give rest n q (set first count e.word) (count + 1)).count - (count + 1)) rest) n q room 0))
      → give (e ∷ rest) n q (first ++ room) count ≡ joined (give (e ∷ rest) n q first count) (give (drop ((give (e ∷ rest) n q first count).count - count) (e ∷ rest)) n q room 0)
  join_by e rest first room count true f h ih =
      let l : count < length first = ltb-true count (length first) f in
      let size = length-append first room in
      let grows = (give_keeps rest n q (set first count e.word) (count + 1)).grows in
      let z : (give rest n q (set first count e.word) (count + 1)).count - count ≡ suc ((give rest n q (set first count e.word) (count + 1)).count - (count + 1)) = omega (arith, grows) in
      give_place e rest (first ++ room) count (omega (arith, l, size))
      ∙ rw (set-append_left first room count e.word l, give_place e rest first count l, z) (ih (rw (length-set first count e.word) (omega arith)))
  join_by e rest first room count false f h ih =
      let l : length first ≤ count = ltb-false count (length first) f in
      let z : count ≡ length first + 0 = omega arith in
      let y : count - count ≡ 0 = omega arith in
      let same : length first ≡ count = omega arith in
      rw (give_none e rest first count l, y) (ap (λ (i : ℕ). give (e ∷ rest) n q (first ++ room) i) z ∙ give_after (e ∷ rest) first room 0 ∙ rw same refl)

  give_join : (es : List Event) (first room : List ℕ) (count : ℕ) → count ≤ length first
      → give es n q (first ++ room) count ≡ joined (give es n q first count) (give (drop ((give es n q first count).count - count) es) n q room 0)
  unfolding give
  give_join [] first room count h = rw (drop-nil (count - count)) (let z : count ≡ count + 0 = omega arith in rw (← z) refl)
  give_join (e ∷ rest) first room count h =
      join_by e rest first room count (ltb count (length first)) refl h (λ k. give_join rest (set first count e.word) room (count + 1) k)

  -- a room that was enough stays enough
  enough_by : (e : Event) (rest : List Event) (first room : List ℕ) (count : ℕ) (b : Bool) → ltb count (length first) ≡ b
      → (((give rest n q (set first count e.word) (count + 1)).number ≡ 43 → ⊥)
      → give rest n q (set first count e.word ++ room) (count + 1)
      ≡ told ((give rest n q (set first count e.word) (count + 1)).room ++ room) (give rest n q (set first count e.word) (count + 1)).count (give rest n q (set first count e.word) (count + 1)).number (give rest n q (set first count e.word) (count + 1)).place)
      → ((give (e ∷ rest) n q first count).number ≡ 43 → ⊥)
      → give (e ∷ rest) n q (first ++ room) count
      ≡ told ((give (e ∷ rest) n q first count).room ++ room) (give (e ∷ rest) n q first count).count (give (e ∷ rest) n q first count).number (give (e ∷ rest) n q first count).place
  enough_by e rest first room count true f ih h =
      let l : count < length first = ltb-true count (length first) f in
      let size = length-append first room in
      give_place e rest (first ++ room) count (omega (arith, l, size))
      ∙ rw (set-append_left first room count e.word l, give_place e rest first count l) (ih (rw (give_place e rest first count l) at h))
  enough_by e rest first room count false f ih h =
      let l : length first ≤ count = ltb-false count (length first) f in
      absurd (h (rw (give_none e rest first count l) refl))

  give_enough : (es : List Event) (first room : List ℕ) (count : ℕ) → ((give es n q first count).number ≡ 43 → ⊥)
      → give es n q (first ++ room) count ≡ told ((give es n q first count).room ++ room) (give es n q first count).count (give es n q first count).number (give es n q first count).place
  unfolding give
  give_enough [] first room count h = refl
  give_enough (e ∷ rest) first room count h = enough_by e rest first room count (ltb count (length first)) refl (λ k. give_enough rest (set first count e.word) room (count + 1) k) h

  -- what is written are the first words, as many as there are places
  words_by : (e : Event) (rest : List Event) (room : List ℕ) (count : ℕ) (b : Bool) → ltb count (length room) ≡ b → count ≤ length room
      → (count + 1 ≤ length (set room count e.word)
      → take (give rest n q (set room count e.word) (count + 1)).count (give rest n q (set room count e.word) (count + 1)).room
      ≡ take (count + 1) (set room count e.word) ++ take (length (set room count e.word) - (count + 1)) (words rest))
      → take (give (e ∷ rest) n q room count).count (give (e ∷ rest) n q room count).room ≡ take count room ++ take (length room - count) (words (e ∷ rest))
  unfolding words
  words_by e rest room count true f h ih =
      let l : count < length room = ltb-true count (length room) f in
      let size = length-set room count e.word in
      let z : length room - count ≡ suc (length room - (count + 1)) = omega arith in
      let i = ih (omega (arith, l, size)) in
      rw (give_place e rest room count l, z) (i ∙ rw (size, add-one, take-suc-set room count e.word l, append_assoc) refl)
  words_by e rest room count false f h ih =
      let l : length room ≤ count = ltb-false count (length room) f in
      let z : length room - count ≡ 0 = omega arith in
      rw (give_none e rest room count l, z) (sym (append-nil (take count room)))

  give_words : (es : List Event) (room : List ℕ) (count : ℕ) → count ≤ length room
      → take (give es n q room count).count (give es n q room count).room ≡ take count room ++ take (length room - count) (words es)
  unfolding give words
  give_words [] room count h = rw (take_none (length room - count)) (sym (append-nil (take count room)))
  give_words (e ∷ rest) room count h = words_by e rest room count (ltb count (length room)) refl h (λ k. give_words rest (set room count e.word) (count + 1) k)

  -- no more are told than there are places
  within_by : (e : Event) (rest : List Event) (room : List ℕ) (count : ℕ) (b : Bool) → ltb count (length room) ≡ b → count ≤ length room
      → (count + 1 ≤ length (set room count e.word)
      → (give rest n q (set room count e.word) (count + 1)).count ≤ length (give rest n q (set room count e.word) (count + 1)).room)
      → (give (e ∷ rest) n q room count).count ≤ length (give (e ∷ rest) n q room count).room
  within_by e rest room count true f h ih =
      let l : count < length room = ltb-true count (length room) f in
      let size = length-set room count e.word in
      rw (give_place e rest room count l) (ih (omega (arith, l, size)))
  within_by e rest room count false f h ih = rw (give_none e rest room count (ltb-false count (length room) f)) h

  give_within : (es : List Event) (room : List ℕ) (count : ℕ) → count ≤ length room → (give es n q room count).count ≤ length (give es n q room count).room
  unfolding give
  give_within [] room count h = h
  give_within (e ∷ rest) room count h = within_by e rest room count (ltb count (length room)) refl h (λ k. give_within rest (set room count e.word) (count + 1) k)

  -- and what is left are those after as many
  left_by_lem : (e : Event) (rest : List Event) (room : List ℕ) (count : ℕ) (b : Bool) → ltb count (length room) ≡ b → count ≤ length room
      → (count + 1 ≤ length (set room count e.word)
      → drop ((give rest n q (set room count e.word) (count + 1)).count - (count + 1)) rest ≡ drop (length (set room count e.word) - (count + 1)) rest)
      → drop ((give (e ∷ rest) n q room count).count - count) (e ∷ rest) ≡ drop (length room - count) (e ∷ rest)
  left_by_lem e rest room count true f h ih =
      let l : count < length room = ltb-true count (length room) f in
      let size = length-set room count e.word in
      let grows = (give_keeps rest n q (set room count e.word) (count + 1)).grows in
      let z : length room - count ≡ suc (length (set room count e.word) - (count + 1)) = omega (arith, l, size) in
      let y : (give rest n q (set room count e.word) (count + 1)).count - count ≡ suc ((give rest n q (set room count e.word) (count + 1)).count - (count + 1)) = omega (arith, grows) in
      rw (give_place e rest room count l, z, y) (ih (omega (arith, l, size)))
  left_by_lem e rest room count false f h ih =
      let l : length room ≤ count = ltb-false count (length room) f in
      let z : count - count ≡ length room - count = omega arith in
      rw (give_none e rest room count l, z) refl

  give_left : (es : List Event) (room : List ℕ) (count : ℕ) → count ≤ length room → drop ((give es n q room count).count - count) es ≡ drop (length room - count) es
  unfolding give
  give_left [] room count h = rw (drop-nil (count - count), drop-nil (length room - count)) refl
  give_left (e ∷ rest) room count h = left_by_lem e rest room count (ltb count (length room)) refl h (λ k. give_left rest (set room count e.word) (count + 1) k)

-- ---- pieces joined

join_told : (t : Trace) (first room : List ℕ) (a : Told) → a ≡ given t first → given t (first ++ room) ≡ joined a (given (without a.count t) room)
join_told t first room a e =
    let z : (given t first).count - 0 ≡ (given t first).count = omega arith in
    rw e (give_join t.number t.place t.events first room 0 (omega arith) ∙ rw z refl)

enough_told : (t : Trace) (first room : List ℕ) (a : Told) → a ≡ given t first → (a.number ≡ 43 → ⊥) → given t (first ++ room) ≡ told (a.room ++ room) a.count a.number a.place
enough_told t first room a e h = rw e (give_enough t.number t.place t.events first room 0 (rw e at h))

-- a call that ends with 43 and the next one from its cursor: the same places, count, number and place as one call with both rooms
pub pieces_joined : (text : List ℕ) (c : Cursor) (first room : List ℕ) → (call_of text c first).piece.number ≡ 43
    → joined (told_by (call_of text c first)) (told_by (call_of text (call_of text c first).piece.next room)) ≡ told_by (call_of text c (first ++ room))
pieces_joined text c first room h =
    sym (more_gives text c (first ++ room) ∙ join_told (rest_of text c) first room (told_by (call_of text c first)) (more_gives text c first)
    ∙ ap (λ (b : Told). joined (told_by (call_of text c first)) b) (sym (more_gives text (call_of text c first).piece.next room ∙ rw (left_after text c first h) refl)))

told_words : (t : Trace) (room : List ℕ) (a : Told) → a ≡ given t room → take a.count a.room ≡ take (length room) (words t.events)
told_words t room a e =
    let z : length room - 0 ≡ length room = omega arith in
    rw e (give_words t.number t.place t.events room 0 (omega arith) ∙ rw z refl)

told_left : (t : Trace) (room : List ℕ) (a : Told) → a ≡ given t room → drop a.count t.events ≡ drop (length room) t.events
told_left t room a e =
    let z : length room - 0 ≡ length room = omega arith in
    let y : (given t room).count - 0 ≡ (given t room).count = omega arith in
    rw e (rw (z, y) at (give_left t.number t.place t.events room 0 (omega arith)))

-- the words that a call writes: the first that are left, as many as there are places
pub call_words : (text : List ℕ) (c : Cursor) (room : List ℕ)
    → words_of (call_of text c room) ≡ take (length room) (words (rest_of text c).events)
call_words text c room = told_words (rest_of text c) room (told_by (call_of text c room)) (more_gives text c room)

-- the words of the first call and then those of the second are the words of the one call
pub words_joined : (text : List ℕ) (c : Cursor) (first room : List ℕ) → (call_of text c first).piece.number ≡ 43
    → words_of (call_of text c first) ++ words_of (call_of text (call_of text c first).piece.next room) ≡ words_of (call_of text c (first ++ room))
words_joined text c first room h =
    let left : (rest_of text (call_of text c first).piece.next).events ≡ drop (length first) (rest_of text c).events =
    ap (λ (t : Trace). t.events) (left_after text c first h) ∙ told_left (rest_of text c) first (told_by (call_of text c first)) (more_gives text c first) in
    rw (call_words text c first, call_words text (call_of text c first).piece.next room, call_words text c (first ++ room), left, words_drop (length first) (rest_of text c).events, length-append first room)
    (sym (take-add (length first) (length room) (words (rest_of text c).events)))

-- a call that ends otherwise does the same with more room
pub room_enough : (text : List ℕ) (c : Cursor) (first room : List ℕ) → ((call_of text c first).piece.number ≡ 43 → ⊥)
    → told ((call_of text c first).room ++ room) (call_of text c first).piece.count (call_of text c first).piece.number (call_of text c first).piece.place ≡ told_by (call_of text c (first ++ room))
room_enough text c first room h =
    sym (more_gives text c (first ++ room) ∙ enough_told (rest_of text c) first room (told_by (call_of text c first)) (more_gives text c first) h)

all_by : (text : List ℕ) (c : Cursor) (first room : List ℕ) (rest : Told) (b : Bool) → eqb (call_of text c first).piece.number 43 ≡ b
    → rest ≡ told_by (call_of text (call_of text c first).piece.next room)
    → pick b (joined (told_by (call_of text c first)) rest)
    (told ((call_of text c first).room ++ room) (call_of text c first).piece.count (call_of text c first).piece.number (call_of text c first).piece.place)
    ≡ told_by (call_of text c (first ++ room))
all_by text c first room rest true e r = rw r (pieces_joined text c first room (eqb-true (call_of text c first).piece.number 43 e))
all_by text c first room rest false e r = room_enough text c first room (eqb-false (call_of text c first).piece.number 43 e)

-- any number of pieces are one call with all their rooms
pub pieces_all : (text : List ℕ) (c : Cursor) (room : List ℕ) (rooms : List (List ℕ)) → in_pieces text c room rooms ≡ told_by (call_of text c (room ++ together rooms))
unfolding in_pieces together
pieces_all text c room [] = rw (append-nil room) refl
pieces_all text c room (next ∷ rest) =
    all_by text c room (next ++ together rest) (in_pieces text (call_of text c room).piece.next next rest) (eqb (call_of text c room).piece.number 43) refl
    (pieces_all text (call_of text c room).piece.next next rest)

-- from the beginning: the words of the trace
pub pieces_give_trace : (text room : List ℕ) (rooms : List (List ℕ)) → in_pieces text start room rooms ≡ given (trace_of text) (room ++ together rooms)
pieces_give_trace text room rooms = pieces_all text start room rooms ∙ call_gives text (room ++ together rooms)

-- ---- the words, each room's taken before the next call

told_within : (t : Trace) (room : List ℕ) (a : Told) → a ≡ given t room → a.count ≤ length a.room
told_within t room a e = rw e (give_within t.number t.place t.events room 0 (omega arith))

words_enough : (text : List ℕ) (c : Cursor) (first room : List ℕ) → ((call_of text c first).piece.number ≡ 43 → ⊥) → words_of (call_of text c first) ≡ words_of (call_of text c (first ++ room))
words_enough text c first room h =
    let l : (call_of text c first).piece.count ≤ length (call_of text c first).room = told_within (rest_of text c) first (told_by (call_of text c first)) (more_gives text c first) in
    sym (take-append-le (call_of text c first).piece.count (call_of text c first).room room l)
    ∙ ap (λ (a : Told). take a.count a.room) (room_enough text c first room h)

words_by_number : (text : List ℕ) (c : Cursor) (first room rest : List ℕ) (b : Bool) → eqb (call_of text c first).piece.number 43 ≡ b
    → rest ≡ words_of (call_of text (call_of text c first).piece.next room)
    → pick b (words_of (call_of text c first) ++ rest) (words_of (call_of text c first)) ≡ words_of (call_of text c (first ++ room))
words_by_number text c first room rest true e r = rw r (words_joined text c first room (eqb-true (call_of text c first).piece.number 43 e))
words_by_number text c first room rest false e r = words_enough text c first room (eqb-false (call_of text c first).piece.number 43 e)

-- the words in pieces are the words of one call with all the rooms
pub pieces_words : (text : List ℕ) (c : Cursor) (room : List ℕ) (rooms : List (List ℕ)) → words_in_pieces text c room rooms ≡ words_of (call_of text c (room ++ together rooms))
unfolding words_in_pieces together
pieces_words text c room [] = rw (append-nil room) refl
pieces_words text c room (next ∷ rest) =
    words_by_number text c room (next ++ together rest) (words_in_pieces text (call_of text c room).piece.next next rest) (eqb (call_of text c room).piece.number 43) refl
    (pieces_words text (call_of text c room).piece.next next rest)
