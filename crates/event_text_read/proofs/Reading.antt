-- A byte more of a line, and its end: what the loop of the code needs.
-- Assumes nothing.
use mathlib.Core.Path.{◌≡◌, refl, sym, ap, ◌∙◌}
use mathlib.Core.Bool.{Bool, true, false}
use mathlib.Core.List.{List, [], ◌∷◌}
use Prim.Native.Nat.{ℕ, suc, ◌+◌, ◌<◌, ◌≤◌}
use native.Mathlib.Numerals.{add-one}
use lib.Dec.{eqb}
use lib.ListN.{length, drop, get_or, drop_of_length-le}
use lib.Seq.{drop-cons}
use Rattle.std.specs.Prelude.{Option, Some, None}
use Rattle.bits.specs.Byte.{pick}
use Rattle.line_tokens.specs.declared.Token.{Token}
use Rattle.line_tokens.specs.declared.Scanner.{Scanner}
use Rattle.line_tokens.specs.Scan.{before, scan, tokens_from}
use Rattle.event_text_read.specs.declared.Event.{Event}
use Rattle.event_text_read.specs.Event.{take, taken, take_all}

by_value : (e : Event) (t : Token) (rest : List Token) (z : Bool) → take_all (pick z e (take e t)) rest ≡ take_all e (pick z rest (t ∷ rest))
unfolding take_all
by_value e t rest true = refl
by_value e t rest false = refl

pub take_before : (e : Event) (t : Option Token) (rest : List Token) → take_all (taken e t) rest ≡ take_all e (before t rest)
unfolding taken before
take_before e None rest = refl
take_before e (Some t) rest = by_value e t rest (eqb t.value 0)

pub read_next : (e : Event) (s : Scanner) (line : List ℕ) (i : ℕ) → i < length line
    → take_all (taken e (scan s (get_or line i 0)).done) (tokens_from (scan s (get_or line i 0)) (drop (i + 1) line)) ≡ take_all e (tokens_from s (drop i line))
unfolding tokens_from
read_next e s line i h =
    rw (drop-cons line i 0 h, add-one)
    (take_before e (scan s (get_or line i 0)).done (tokens_from (scan s (get_or line i 0)) (drop (suc i) line)))

pub read_end : (e : Event) (s : Scanner) (line : List ℕ) (i : ℕ) → length line ≤ i → taken e s.pending ≡ take_all e (tokens_from s (drop i line))
unfolding tokens_from take_all
read_end e s line i h = rw (drop_of_length-le line {i = i} h) (take_before e s.pending [])
