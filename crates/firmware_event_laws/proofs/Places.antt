-- What a check of a text tells is its first malformed line.
-- Assumes nothing.
use Rattle.std.specs.Prelude.{Option, None, Some, Ok}
use mathlib.Core.Path.{◌≡◌, refl, sym, ap, ◌∙◌}
use mathlib.Core.Bool.{Bool, true, false}
use mathlib.Core.List.{List, [], ◌∷◌}
use Prim.Native.Nat.{ℕ, ◌+◌, ◌<◌}
use native.Mathlib.Omega.{arith}
use lib.ListN.{length}
use lib.Dec.{eqb}
use borrow.Author.Tests.{lt-ltb}
use Rattle.bits.specs.Byte.{pick}
use Rattle.firmware_event_lines.specs.declared.Reader.{Reader}
use Rattle.firmware_event_lines.specs.Lines.{line_start, next, read_on, meaning_of}
use Rattle.firmware_event_list.specs.Lists.{is_malformed, one_more, checked, opened, line_ended, checked_byte, checked_on, ends_well}
use Rattle.firmware_event_list.proofs.Reading.{check_stop}
use Rattle.firmware_event_laws.specs.Tokens.{onto, split, newline, malformed_at, malformed_line, told_by}
use Rattle.firmware_event_laws.proofs.Lines.{first, rest, first_onto, rest_onto, line_tokens}

-- a text has a line
some_line : (separates : ℕ → Bool) (b : ℕ) (bs : List ℕ) (t : Bool) → separates b ≡ t
    → split separates (b ∷ bs) ≡ first (split separates (b ∷ bs)) ∷ rest (split separates (b ∷ bs))
unfolding split first rest
some_line p b bs true e = simp e
some_line p b bs false e = simp e (onto_line b (split p bs))
  where
    onto_line : (b : ℕ) (ps : List (List ℕ)) → onto b ps ≡ first (onto b ps) ∷ rest (onto b ps)
    onto_line b [] = refl
    onto_line b (q ∷ ps) = refl

pub has_line : (separates : ℕ → Bool) (bs : List ℕ) → split separates bs ≡ first (split separates bs) ∷ rest (split separates bs)
unfolding split first rest
has_line p [] = refl
has_line p (b ∷ bs) = some_line p b bs (p b) refl

-- the first of the lines is what the reader has yet to read of its line
abbrev from_reader : Reader → ℕ → List (List ℕ) → Option ℕ
from_reader r n ls = pick (is_malformed (meaning_of (read_on r (first ls)).line)) (Some n) (malformed_at (n + 1) (rest ls))

fresh_line : (n : ℕ) (l : List ℕ) (ls : List (List ℕ)) → from_reader line_start n (l ∷ ls) ≡ malformed_at n (l ∷ ls)
unfolding malformed_at first rest
fresh_line n l ls = rw (line_tokens l) refl

from_start : (n : ℕ) (bs : List ℕ) → from_reader line_start n (split newline bs) ≡ malformed_at n (split newline bs)
from_start n bs = rw (has_line newline bs) (fresh_line n (first (split newline bs)) (rest (split newline bs)))

told_end : (r : Reader) (n : ℕ) (m : Bool) → is_malformed (meaning_of r.line) ≡ m → told_by (Ok (checked r n)) ≡ pick m (Some n) None
unfolding ends_well
told_end r n true e = simp e
told_end r n false e = simp e

module _ (b : ℕ) (bs : List ℕ) (r : Reader) (n : ℕ) (h : n < 18446744073709551615) where
  at_newline : (m : Bool) → eqb b 10 ≡ true → is_malformed (meaning_of r.line) ≡ m
      → told_by (checked_on (Ok (checked line_start (n + 1))) bs) ≡ from_reader line_start (n + 1) (split newline bs)
      → told_by (checked_on (Ok (checked r n)) (b ∷ bs)) ≡ from_reader r n (split newline (b ∷ bs))
  unfolding checked_on checked_byte line_ended one_more ends_well split read_on first rest
  at_newline true e m ih = simp (e, m) (ap told_by (sym (check_stop (record { reader = r; number = n }) bs)))
  at_newline false e m ih = simp (e, m, lt-ltb n 18446744073709551615 h) (ih ∙ from_start (n + 1) bs)

  within_line : eqb b 10 ≡ false
      → told_by (checked_on (Ok (checked (next r b) n)) bs) ≡ from_reader (next r b) n (split newline bs)
      → told_by (checked_on (Ok (checked r n)) (b ∷ bs)) ≡ from_reader r n (split newline (b ∷ bs))
  unfolding checked_on checked_byte split read_on
  within_line e ih = simp (e, first_onto, rest_onto) ih

told_step : (b : ℕ) (bs : List ℕ) (r : Reader) (n : ℕ) → n + length (b ∷ bs) < 18446744073709551616
    → ((q : Reader) (m : ℕ) → m + length bs < 18446744073709551616 → told_by (checked_on (Ok (checked q m)) bs) ≡ from_reader q m (split newline bs))
    → (t : Bool) → eqb b 10 ≡ t → told_by (checked_on (Ok (checked r n)) (b ∷ bs)) ≡ from_reader r n (split newline (b ∷ bs))
told_step b bs r n h ih true e =
    at_newline b bs r n (omega arith) (is_malformed (meaning_of r.line)) e refl (ih line_start (n + 1) (omega arith))
told_step b bs r n h ih false e = within_line b bs r n (omega arith) e (ih (next r b) n (omega arith))

told_on : (bs : List ℕ) (r : Reader) (n : ℕ) → n + length bs < 18446744073709551616
    → told_by (checked_on (Ok (checked r n)) bs) ≡ from_reader r n (split newline bs)
unfolding checked_on split read_on first rest malformed_at
told_on [] r n h = told_end r n (is_malformed (meaning_of r.line)) refl
told_on (b ∷ bs) r n h = told_step b bs r n h (told_on bs) (eqb b 10) refl

-- a text of fewer than 2^64 - 1 bytes: nothing is told where every line is well formed, else the number of the first that is not
pub place_told : (text : List ℕ) → 1 + length text < 18446744073709551616 → told_by (checked_on (Ok opened) text) ≡ malformed_line text
place_told text h = told_on text line_start 1 h ∙ from_start 1 text
