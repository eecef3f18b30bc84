-- The calls that read a list find what the lines of its text mean, in order, wherever blocks end. That `firmware` makes these calls is to be read
-- in its source: `firmware_input::find`, which reads the file, has no contract that could say so.
-- Assumes nothing.
use Rattle.std.specs.Prelude.{None, Some, Ok, Err}
use mathlib.Core.Path.{◌≡◌, refl, ap, ◌∙◌}
use mathlib.Core.Bool.{Bool, true, false}
use mathlib.Core.List.{List, [], ◌∷◌, ◌++◌, append_assoc, flatten, map}
use Prim.Native.Nat.{ℕ, zero, suc, ◌+◌, ◌≤◌}
use native.Mathlib.Omega.{arith}
use lib.ListN.{length, drop, drop_of_length-le}
use lib.Seq.{drop-drop}
use lib.Dec.{eqb, ltb}
use borrow.Author.Tests.{ltb-true, ltb-false}
use Rattle.bits.specs.Byte.{pick}
use Rattle.firmware_event_lines.specs.declared.Event.{Event}
use Rattle.firmware_event_lines.specs.declared.Reader.{Reader}
use Rattle.firmware_event_lines.specs.Lines.{Meaning, nothing, event, line_start, next, read_on, meaning_of}
use Rattle.firmware_event_list.specs.Lists.{is_something, behind, found_on}
use Rattle.firmware_event_list.proofs.Reading.{found_later}
use Rattle.firmware_event_laws.specs.Tokens.{split, newline, line_meant, malformed_at, malformed_line, listed, lines_meant, text_meant}
use Rattle.firmware_event_laws.specs.Calls.{Calls, calls, before, calls_from, calls_on, found_in}
use Rattle.firmware_event_laws.proofs.Lines.{first, rest, first_onto, rest_onto, line_tokens}
use Rattle.firmware_event_laws.proofs.Places.{has_line}

-- ---- one more

before_nothing : (m : Meaning) (c : Calls) → is_something m ≡ false → c ≡ before m c
before_nothing (Ok None) c e = refl
before_nothing (Ok (Some v)) c e = absurd (let z : ◌≡◌ {A = ℕ} 0 1 = cc in omega arith)
before_nothing (Err v) c e = absurd (let z : ◌≡◌ {A = ℕ} 0 1 = cc in omega arith)

listed_append : (m : Meaning) (ms ns : List Meaning) → listed m (ms ++ ns) ≡ listed m ms ++ ns
listed_append (Ok None) ms ns = refl
listed_append (Ok (Some v)) ms ns = refl
listed_append (Err v) ms ns = refl

-- ---- byte by byte

abbrev at_byte : Reader → ℕ → Meaning
at_byte r b = pick (eqb b 10) (meaning_of r.line) nothing

on_bytes : Reader → List ℕ → Calls
on_bytes r [] = calls [] r
on_bytes r (b ∷ bs) = before (at_byte r b) (on_bytes (behind r b) bs)

-- what one call finds, and what is found behind it
record Found (bs : List ℕ) (r : Reader) (i : ℕ) : Type 0 where
  size : ℕ
  place : (found_on r i bs).at ≡ i + size
  more : before (found_on r i bs).meaning (on_bytes (found_on r i bs).reader (drop size bs)) ≡ on_bytes r bs

module _ (b : ℕ) (bs : List ℕ) (r : Reader) (i : ℕ) where
  later : (q : Reader) → found_on r i (b ∷ bs) ≡ found_on q (i + 1) bs → on_bytes q bs ≡ on_bytes r (b ∷ bs) → Found bs q (i + 1) → Found (b ∷ bs) r i
  later q e o f = record {
    size = suc f.size;
    place = rw e (let p = f.place in omega arith);
    more = rw e (f.more ∙ o);
  }

  found_step : ((q : Reader) → Found bs q (i + 1)) → (t s : Bool) → eqb b 10 ≡ t → is_something (meaning_of r.line) ≡ s → Found (b ∷ bs) r i
  unfolding found_on on_bytes
  found_step ih true true e m = record { size = 1; place = simp (e, m); more = simp (e, m) }
  found_step ih true false e m = later line_start (simp (e, m)) (simp e (before_nothing (meaning_of r.line) (on_bytes line_start bs) m)) (ih line_start)
  found_step ih false s e m = later (next r b) (simp e) (simp e) (ih (next r b))

found : (bs : List ℕ) (r : Reader) (i : ℕ) → Found bs r i
unfolding found_on on_bytes
found [] r i = record { size = 0; place = omega arith; more = refl }
found (b ∷ bs) r i = found_step b bs r i (λ q. found bs q (i + 1)) (eqb b 10) (is_something (meaning_of r.line)) refl refl

-- ---- a block

all_read : (r : Reader) (i : ℕ) (block : List ℕ) → length block ≤ i → calls [] r ≡ on_bytes r (drop i block)
unfolding on_bytes
all_read r i block h = rw (drop_of_length-le block {i = i} h) refl

module _ (n : ℕ) (r : Reader) (i : ℕ) (block : List ℕ) (h : length block ≤ i + suc n) where
  call_step : ((q : Reader) (j : ℕ) → length block ≤ j + n → calls_from n q j block ≡ on_bytes q (drop j block))
      → (t : Bool) → ltb i (length block) ≡ t → calls_from (suc n) r i block ≡ on_bytes r (drop i block)
  unfolding calls_from
  call_step ih true e =
      let f = found_on r i (drop i block) in
      let g = found (drop i block) r i in
      let far = found_later r block i (ltb-true i (length block) e) in
      simp e (ap (before f.meaning) (ih f.reader f.at (omega arith)) ∙ rw (g.place, ← (drop-drop g.size i block)) g.more)
  call_step ih false e = simp e (all_read r i block (ltb-false i (length block) e))

block_bytes_lem : (n : ℕ) (r : Reader) (i : ℕ) (block : List ℕ) → length block ≤ i + n → calls_from n r i block ≡ on_bytes r (drop i block)
unfolding calls_from
block_bytes_lem zero r i block h = all_read r i block (omega arith)
block_bytes_lem (suc n) r i block h = call_step n r i block h (λ q j k. block_bytes_lem n q j block k) (ltb i (length block)) refl

-- ---- blocks

bytes_append : (xs ys : List ℕ) (r : Reader) → (on_bytes r (xs ++ ys)).found ≡ (on_bytes r xs).found ++ (on_bytes (on_bytes r xs).reader ys).found
unfolding on_bytes
bytes_append [] ys r = refl
bytes_append (b ∷ xs) ys r = ap (listed (at_byte r b)) (bytes_append xs ys (behind r b)) ∙ listed_append (at_byte r b) _ _

block_then : (block : List ℕ) (blocks : List (List ℕ)) (r : Reader) → calls_from (length block) r 0 block ≡ on_bytes r block
    → ((q : Reader) → calls_on q blocks ≡ (on_bytes q (flatten blocks ++ (10 ∷ []))).found)
    → calls_on r (block ∷ blocks) ≡ (on_bytes r (flatten (block ∷ blocks) ++ (10 ∷ []))).found
unfolding calls_on flatten
block_then block blocks r h ih = simp (h, ih, append_assoc, bytes_append)

end_then : (r : Reader) → calls_from 1 r 0 (10 ∷ []) ≡ on_bytes r (10 ∷ []) → calls_on r [] ≡ (on_bytes r (10 ∷ [])).found
unfolding calls_on
end_then r h = ap (λ (c : Calls). c.found) h

blocks_bytes_lem : (blocks : List (List ℕ)) (r : Reader) → calls_on r blocks ≡ (on_bytes r (flatten blocks ++ (10 ∷ []))).found
unfolding flatten
blocks_bytes_lem [] r = end_then r (block_bytes_lem 1 r 0 (10 ∷ []) (omega arith))
blocks_bytes_lem (block ∷ blocks) r = block_then block blocks r (block_bytes_lem (length block) r 0 block (omega arith)) (blocks_bytes_lem blocks)

-- ---- lines

-- the first of the lines is what the reader has yet to read of its line
abbrev from_reader : Reader → List (List ℕ) → List Meaning
from_reader r ls = listed (meaning_of (read_on r (first ls)).line) (lines_meant (rest ls))

fresh_line : (l : List ℕ) (ls : List (List ℕ)) → from_reader line_start (l ∷ ls) ≡ lines_meant (l ∷ ls)
unfolding lines_meant first rest
fresh_line l ls = rw (line_tokens l) refl

from_start : (bs : List ℕ) → from_reader line_start (split newline bs) ≡ text_meant bs
from_start bs = rw (has_line newline bs) (fresh_line (first (split newline bs)) (rest (split newline bs)))

line_step : (b : ℕ) (bs : List ℕ) (r : Reader) → ((q : Reader) → (on_bytes q (bs ++ (10 ∷ []))).found ≡ from_reader q (split newline bs))
    → (t : Bool) → eqb b 10 ≡ t → (on_bytes r (b ∷ (bs ++ (10 ∷ [])))).found ≡ from_reader r (split newline (b ∷ bs))
unfolding on_bytes split read_on first rest
line_step b bs r ih true e = simp (e, ih, from_start)
line_step b bs r ih false e = simp (e, first_onto, rest_onto) (ih (next r b))

bytes_lines : (bs : List ℕ) (r : Reader) → (on_bytes r (bs ++ (10 ∷ []))).found ≡ from_reader r (split newline bs)
unfolding on_bytes split read_on first rest lines_meant
bytes_lines [] r = refl
bytes_lines (b ∷ bs) r = line_step b bs r (bytes_lines bs) (eqb b 10) refl

-- for any bytes in any blocks, empty ones too; malformed lines stand among the events, and the program ends at the first
pub events_in_order : (blocks : List (List ℕ)) → found_in blocks ≡ text_meant (flatten blocks)
events_in_order blocks = blocks_bytes_lem blocks line_start ∙ bytes_lines (flatten blocks) line_start ∙ from_start (flatten blocks)

-- ---- no malformed line

abbrev EventsAlone : List Meaning → Type 0
EventsAlone ms = (es : List Event) × (ms ≡ map event es)

event_step : (n : ℕ) (l : List ℕ) (ls : List (List ℕ)) (m : Meaning) → line_meant l ≡ m → malformed_at n (l ∷ ls) ≡ None
    → (malformed_at (n + 1) ls ≡ None → EventsAlone (lines_meant ls)) → EventsAlone (lines_meant (l ∷ ls))
unfolding malformed_at lines_meant
event_step n l ls (Ok None) e h ih = rw e (ih (rw e at h))
event_step n l ls (Ok (Some v)) e h ih =
    let t = ih (rw e at h) in
    rw e (v ∷ t.0, ap (λ (ms : List Meaning). event v ∷ ms) t.1)
event_step n l ls (Err v) e h ih = let k : Some n ≡ None = rw e at h in absurd (let z : ◌≡◌ {A = ℕ} 0 1 = cc in omega arith)

lines_events : (ls : List (List ℕ)) (n : ℕ) → malformed_at n ls ≡ None → EventsAlone (lines_meant ls)
unfolding malformed_at lines_meant
lines_events [] n h = ([], refl)
lines_events (l ∷ ls) n h = event_step n l ls (line_meant l) refl h (lines_events ls (n + 1))

-- where the check of the text tells no line, calls find events alone
pub events_alone : (blocks : List (List ℕ)) → malformed_line (flatten blocks) ≡ None → (es : List Event) × (found_in blocks ≡ map event es)
events_alone blocks h = rw (events_in_order blocks) (lines_events (split newline (flatten blocks)) 1 h)
