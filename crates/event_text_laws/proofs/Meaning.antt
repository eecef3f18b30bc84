-- What tokens come to, without their places; reading what was written.
-- Assumes nothing.
use mathlib.Core.Path.{◌≡◌, refl, sym, ap, ◌∙◌}
use mathlib.Core.Bool.{Bool, true, false, not, ◌&&◌, ◌||◌}
use mathlib.Core.List.{List, [], ◌∷◌, ◌++◌}
use mathlib.Core.Logic.{◌⊎◌, inl, inr, ⊎_elim}
use Prim.Native.Nat.{ℕ, zero, suc, ◌+◌, ◌-◌, ◌*◌, ◌/◌, ◌%◌, ◌<◌, ◌≤◌}
use native.Mathlib.Omega.{arith}
use lib.Dec.{T, eqb, ltb, eqb→eq}
use lib.ListN.{length}
use borrow.Author.Tests.{eqb-true, eqb-false, ltb-true, ltb-false, not-true, ne_eqb, eq-eqb, lt-ltb, le-ltb}
use Rattle.bits.specs.Byte.{pick}
use Rattle.bits.proofs.Finite.{T_true, both}
use Rattle.bits.proofs.Level.{pick_by}
use Rattle.line_tokens.specs.declared.Token.{Token}
use Rattle.line_tokens.specs.Scan.{tokens, values}
use Rattle.event_text_read.specs.declared.Event.{Event}
use Rattle.event_text_read.specs.declared.Event.TheVariants.{Start, Kind as OfKind, Place, Other, Word, Bad, Number, Numbered}
use Rattle.std.specs.Prelude.{Option, Some, None, Ok, Err}
use Rattle.event_names.specs.declared.Kind.{Kind}
use Rattle.event_names.specs.declared.Kind.TheVariants as kinds
use Rattle.event_names.specs.declared.Keyword.{Keyword}
use Rattle.event_names.specs.declared.Keyword.TheVariants as keyword
use Rattle.event_text_read.specs.Event.{takes_b, digits_b, limit_b, is_line, word_or, bare, on_keyword, at_start, on_field, at_kind, at_place, other_or, at_other, on_register, at_number, at_numbered, next, take, take_all, line_end, parse}
use Rattle.event_names.specs.Digits.{below, unhex}
use Rattle.event_names.specs.Names.{kind_of, field_of}
use Rattle.event_text_laws.specs.Shown.{meaning}
use Rattle.event_text_laws.proofs.Tokens.{by}

-- an event in reading, without the place of a bad token
unfoldable pub unplaced : Event → Event
unplaced Start = Start
unplaced (OfKind k) = OfKind k
unplaced (Place k a) = Place k a
unplaced Other = Other
unplaced (Word w) = Word w
unplaced (Bad p) = Bad 0
unplaced (Number n) = Number n
unplaced (Numbered n a) = Numbered n a

module _ (at v : ℕ) where
  bare_unplaced : unplaced (bare at v) ≡ bare 0 v
  unfolding unplaced bare word_or
  bare_unplaced = by (ltb (unhex 8 v) 4294967296) (λ t. rw t refl) (λ t. rw t refl)

  keyword_unplaced : (k : Option Keyword) → unplaced (on_keyword at v k) ≡ on_keyword 0 v k
  unfolding on_keyword unplaced
  keyword_unplaced None = bare_unplaced
  keyword_unplaced (Some (keyword.Event k)) = refl
  keyword_unplaced (Some keyword.Word) = refl

  start_unplaced : unplaced (at_start at v) ≡ at_start 0 v
  unfolding at_start
  start_unplaced = keyword_unplaced (kind_of v)

  kind_unplaced : (k : Kind) → unplaced (at_kind at k v) ≡ at_kind 0 k v
  unfolding at_kind on_field unplaced
  kind_unplaced k =
      by (ltb (field_of k v) 256) (λ t. rw t (by (takes_b k) (λ u. rw u refl) (λ u. rw u refl))) (λ t. rw t refl)

  place_unplaced : (k : Kind) (a : ℕ) → unplaced (at_place at k a v) ≡ at_place 0 k a v
  unfolding at_place unplaced
  place_unplaced k a = by (ltb (unhex (digits_b k) v) (limit_b k)) (λ t. rw t refl) (λ t. rw t refl)

  other_unplaced : unplaced (at_other at v) ≡ at_other 0 v
  unfolding at_other other_or unplaced
  other_unplaced =
      by (ltb (unhex 8 v) 4294967296) (λ t. rw t (by (is_line (unhex 8 v)) (λ u. rw u refl) (λ u. rw u refl))) (λ t. rw t refl)

  number_unplaced : (n : ℕ) → unplaced (at_number at n v) ≡ at_number 0 n v
  unfolding at_number on_register unplaced
  number_unplaced n = by (ltb (field_of kinds.Read v) 256) (λ t. rw t refl) (λ t. rw t refl)

  numbered_unplaced : (n a : ℕ) → unplaced (at_numbered at n a v) ≡ at_numbered 0 n a v
  unfolding at_numbered unplaced
  numbered_unplaced n a = by (ltb (unhex 1 v) 2) (λ t. rw t refl) (λ t. rw t refl)

  next_unplaced : (e : Event) → unplaced (next at e v) ≡ next 0 (unplaced e) v
  unfolding next unplaced
  next_unplaced Start = start_unplaced
  next_unplaced (OfKind k) = kind_unplaced k
  next_unplaced (Place k a) = place_unplaced k a
  next_unplaced Other = other_unplaced
  next_unplaced (Word w) = refl
  next_unplaced (Bad p) = refl
  next_unplaced (Number n) = number_unplaced n
  next_unplaced (Numbered n a) = numbered_unplaced n a

-- the tokens of a line come to what their numbers come to
pub all_unplaced : (e : Event) (ts : List Token) → unplaced (take_all e ts) ≡ meaning (unplaced e) (values ts)
unfolding take_all meaning values
all_unplaced e [] = refl
all_unplaced e (t ∷ rest) = all_unplaced (take e t) rest ∙ ap (λ (x : Event). meaning x (values rest)) (next_unplaced t.at t.value e)

word_placed : (e : Event) (w : ℕ) → unplaced e ≡ Word w → e ≡ Word w
unfolding unplaced
word_placed Start w h = h
word_placed (OfKind k) w h = h
word_placed (Place k a) w h = h
word_placed Other w h = h
word_placed (Word v) w h = h
word_placed (Number n) w h = h
word_placed (Numbered n a) w h = h
word_placed (Bad p) w h = absurd (let z : ◌≡◌ {A = ℕ} 0 1 = cc in omega arith)

word_unplaced : (e : Event) (w : ℕ) → e ≡ Word w → unplaced e ≡ Word w
unfolding unplaced
word_unplaced e w h = rw h refl

-- a line is read as a word exactly when the numbers of its tokens come to it
pub parsed : (line : List ℕ) (w : ℕ) → meaning Start (values (tokens line)) ≡ Word w → parse line ≡ Ok w
unfolding parse line_end unplaced
parsed line w h =
    let e : take_all Start (tokens line) ≡ Word w = word_placed (take_all Start (tokens line)) w (all_unplaced Start (tokens line) ∙ h) in
    rw e refl

end_word_lem : (e : Event) (end w : ℕ) → line_end e end ≡ Ok w → e ≡ Word w
unfolding line_end
end_word_lem Start end w h = absurd (let z : ◌≡◌ {A = ℕ} 0 1 = cc in omega arith)
end_word_lem (OfKind k) end w h = absurd (let z : ◌≡◌ {A = ℕ} 0 1 = cc in omega arith)
end_word_lem (Place k a) end w h = absurd (let z : ◌≡◌ {A = ℕ} 0 1 = cc in omega arith)
end_word_lem Other end w h = absurd (let z : ◌≡◌ {A = ℕ} 0 1 = cc in omega arith)
end_word_lem (Word v) end w h = let e : v ≡ w = cc in ap Word e
end_word_lem (Number n) end w h = absurd (let z : ◌≡◌ {A = ℕ} 0 1 = cc in omega arith)
end_word_lem (Numbered n a) end w h = absurd (let z : ◌≡◌ {A = ℕ} 0 1 = cc in omega arith)
end_word_lem (Bad p) end w h = absurd (let z : ◌≡◌ {A = ℕ} 0 1 = cc in omega arith)

pub read_as : (line : List ℕ) (w : ℕ) → parse line ≡ Ok w → meaning Start (values (tokens line)) ≡ Word w
unfolding parse unplaced
read_as line w h =
    sym (all_unplaced Start (tokens line)) ∙ word_unplaced (take_all Start (tokens line)) w (end_word_lem (take_all Start (tokens line)) (length line) w h)
