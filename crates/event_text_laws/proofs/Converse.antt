-- A line that is read as a word has the tokens of that word's line, or is its eight digits.
-- Assumes nothing.
use mathlib.Core.Path.{◌≡◌, refl, sym, ap, ◌∙◌}
use mathlib.Core.Bool.{Bool, true, false, not, ◌&&◌, ◌||◌}
use mathlib.Core.List.{List, [], ◌∷◌, ◌++◌}
use mathlib.Core.Logic.{◌⊎◌, inl, inr, ⊎_elim}
use Prim.Native.Nat.{ℕ, zero, suc, ◌+◌, ◌-◌, ◌*◌, ◌/◌, ◌%◌, ◌<◌, ◌≤◌}
use native.Mathlib.Omega.{arith}
use lib.Dec.{T, eqb, ltb, eqb→eq}
use borrow.Author.Tests.{eqb-true, eqb-false, ltb-true, ltb-false, ne_eqb, eq-eqb, lt-ltb, le-ltb}
use Rattle.bits.specs.Byte.{pick}
use Rattle.bits.proofs.Level.{pick_by}
use Rattle.bits.proofs.Finite.{lt_or_le}
use Rattle.events.specs.Word.{kind, reserved, field_a, field_b, event_word}
use Rattle.event_names.specs.Digits.{hex, unhex}
use Rattle.event_names.specs.Names.{number_of, kind_with, kind_of, kind_name, field_of, token_of, kind_shown, shown_of}
use Rattle.event_names.proofs.Digits.{hex_unhex}
use Rattle.event_names.proofs.Names.{token_field, kind_token, number_back}
use Rattle.line_tokens.specs.Scan.{tokens, values}
use Rattle.event_text_read.specs.declared.Event.{Event}
use Rattle.event_text_read.specs.declared.Event.TheVariants.{Start, Kind as OfKind, Place, Other, Word, Bad}
use Rattle.std.specs.Prelude.{Option, Some, None, Ok}
use Rattle.std.specs.Option.{is_some}
use Rattle.event_names.specs.declared.Kind.{Kind}
use Rattle.event_names.specs.declared.Kind.TheVariants as kinds
use Rattle.event_names.specs.declared.Keyword.{Keyword}
use Rattle.event_names.specs.declared.Keyword.TheVariants as keyword
use Rattle.event_text_read.specs.Event.{takes_b, digits_b, limit_b, bound_b, kind_if, line_kind, is_line, word_or, bare, on_keyword, at_start, on_field, at_kind, at_place, other_or, at_other, next, parse}
use Rattle.event_text_write.specs.Event.{value_token, kind_tokens, tokens_by, event_tokens, print}
use Rattle.event_text_laws.specs.Shown.{valued, shown, meaning}
use Rattle.event_text_laws.proofs.Tokens.{by}
use Rattle.event_text_laws.proofs.Meaning.{read_as}
use Rattle.event_text_laws.proofs.Round.{Reads, shown_some, shown_zero, kind_reads, shown_reads, hex_reads, value_shown}

never : (p w : ℕ) → Bad p ≡ Word w → ⊥
never p w e = let z : ◌≡◌ {A = ℕ} 0 1 = cc in omega arith

-- a bad token is not made good
bad_stays : (p : ℕ) (vs : List ℕ) (w : ℕ) → meaning (Bad p) vs ≡ Word w → ⊥
unfolding meaning next
bad_stays p [] w e = never p w e
bad_stays p (v ∷ rest) w e = bad_stays p rest w e

-- nothing follows a whole word
word_ends : (x : ℕ) (vs : List ℕ) (w : ℕ) → meaning (Word x) vs ≡ Word w → (vs ≡ []) × (x ≡ w)
unfolding meaning next
word_ends x [] w e = (refl, cc)
word_ends x (v ∷ rest) w e = absurd (bad_stays 0 rest w e)

-- the digits of a field B
unfoldable pub digit_tokens : Kind → ℕ → List ℕ
digit_tokens k b = pick (takes_b k) (hex (digits_b k) b ∷ []) []

-- the fields of a line of a kind
pub record Fields (k : Kind) (vs : List ℕ) (w : ℕ) : Type 0 where
  pub a : ℕ
  pub b : ℕ
  pub a_byte : a < 256
  pub b_taken : b < bound_b k
  pub word : event_word (number_of k) a b ≡ w
  pub line : vs ≡ token_of k a ∷ digit_tokens k b

limit_byte : (k : Kind) (n : ℕ) → n < limit_b k → n < 256
limit_byte kinds.Read n h = omega arith
limit_byte kinds.Write n h = h
limit_byte kinds.Pin n h = omega arith
limit_byte kinds.Clock n h = omega arith
limit_byte kinds.Polarity n h = omega arith

limit_small : (k : Kind) (n : ℕ) → n < limit_b k → n < 4294967296
limit_small k n h = let b = limit_byte k n h in omega arith

module _ (k : Kind) (w : ℕ) where
  abbrev Value : ℕ → List ℕ → Event → Type 0
  Value a vs e = meaning e vs ≡ Word w → takes_b k ≡ true → Fields k (token_of k a ∷ vs) w

  at_b : (a v : ℕ) (rest : List ℕ) → a < 256 → meaning (at_place 0 k a v) rest ≡ Word w → takes_b k ≡ true → Fields k (token_of k a ∷ v ∷ rest) w
  unfolding at_place digit_tokens
  at_b a v rest ha m t =
      by (ltb (unhex (digits_b k) v) (limit_b k))
      (λ z.
      let h : unhex (digits_b k) v < limit_b k = ltb-true (unhex (digits_b k) v) (limit_b k) z in
      let q : (rest ≡ []) × (event_word (number_of k) a (unhex (digits_b k) v) ≡ w) = word_ends (event_word (number_of k) a (unhex (digits_b k) v)) rest w (rw z at m) in
      record {
        a = a;
        b = unhex (digits_b k) v;
        a_byte = ha;
        b_taken = rw t h;
        word = q.1;
        line = rw (t, q.0, hex_unhex (digits_b k) v (limit_small k (unhex (digits_b k) v) h)) refl;
      })
      (λ z. absurd (bad_stays 0 rest w (rw z at m)))

  at_place_lem : (a : ℕ) (vs : List ℕ) → a < 256 → meaning (Place k a) vs ≡ Word w → takes_b k ≡ true → Fields k (token_of k a ∷ vs) w
  unfolding meaning next
  at_place_lem a [] ha m t = absurd (let z : ◌≡◌ {A = ℕ} 0 1 = cc in omega arith)
  at_place_lem a (v ∷ rest) ha m t = at_b a v rest ha m t

  without : (a : ℕ) (vs : List ℕ) → a < 256 → meaning (Word (event_word (number_of k) a 0)) vs ≡ Word w → takes_b k ≡ false → Fields k (token_of k a ∷ vs) w
  unfolding digit_tokens
  without a vs ha m t =
      let q : (vs ≡ []) × (event_word (number_of k) a 0 ≡ w) = word_ends (event_word (number_of k) a 0) vs w m in
      record { a = a; b = 0; a_byte = ha; b_taken = rw t (omega arith); word = q.1; line = rw (t, q.0) refl }

  at_a : (v : ℕ) (rest : List ℕ) → meaning (at_kind 0 k v) rest ≡ Word w → Fields k (v ∷ rest) w
  unfolding at_kind on_field
  at_a v rest m =
      by (ltb (field_of k v) 256)
      (λ z.
      let ha : field_of k v < 256 = ltb-true (field_of k v) 256 z in
      let e : token_of k (field_of k v) ≡ v = token_field k v ha in
      let n : meaning (pick (takes_b k) (Place k (field_of k v)) (Word (event_word (number_of k) (field_of k v) 0))) rest ≡ Word w = rw z at m in
      by (takes_b k)
      (λ t. rw e at (at_place_lem (field_of k v) rest ha (rw t at n) t))
      (λ t. rw e at (without (field_of k v) rest ha (rw t at n) t)))
      (λ z. absurd (bad_stays 0 rest w (rw z at m)))

  pub at_kind_lem : (vs : List ℕ) → meaning (OfKind k) vs ≡ Word w → Fields k vs w
  unfolding meaning next
  at_kind_lem [] m = absurd (let z : ◌≡◌ {A = ℕ} 0 1 = cc in omega arith)
  at_kind_lem (v ∷ rest) m = at_a v rest m

-- ---- the word with these fields is a line of its kind

bound_byte : (k : Kind) (n : ℕ) → n < bound_b k → n < 256
bound_byte k n = pick_by (λ (l : ℕ). n < l → n < 256) (takes_b k) (λ _ h. limit_byte k n h) (λ _ h. omega arith)

module _ (k : Kind) (a b : ℕ) (ha : a < 256) (hb : b < bound_b k) where
  abbrev word : ℕ
  word = event_word (number_of k) a b

  kind_is : kind (event_word (number_of k) a b) ≡ number_of k
  kind_is = omega (arith, bound_byte k b hb)

  reserved_is : reserved (event_word (number_of k) a b) ≡ 0
  reserved_is = omega (arith, bound_byte k b hb)

  a_is : field_a (event_word (number_of k) a b) ≡ a
  a_is = omega (arith, bound_byte k b hb)

  b_is : field_b (event_word (number_of k) a b) ≡ b
  b_is = omega (arith, bound_byte k b hb)

  is_line_lem : line_kind (event_word (number_of k) a b) ≡ Some k
  unfolding line_kind
  is_line_lem = rw (kind_is, number_back k, reserved_is, b_is, lt-ltb b (bound_b k) hb) refl

  kind_tokens_lem : event_tokens (event_word (number_of k) a b) ≡ kind_tokens k a b
  unfolding event_tokens tokens_by
  kind_tokens_lem = rw (is_line_lem, a_is, b_is) refl

  shown_kind : shown (kind_tokens k a b) ≡ kind_name (keyword.Event k) ∷ token_of k a ∷ digit_tokens k b
  unfolding kind_tokens value_token digit_tokens
  shown_kind =
      by (takes_b k)
      (λ t. rw t (shown_some (shown_of k a ∷ hex (digits_b k) b ∷ []) (kind_reads (keyword.Event k)) ∙ ap (λ (l : List ℕ). kind_name (keyword.Event k) ∷ l) (shown_some (hex (digits_b k) b ∷ []) (shown_reads k a ha) ∙ ap (λ (l : List ℕ). token_of k a ∷ l) (value_shown k b))))
      (λ t. rw t (shown_some (shown_of k a ∷ 0 ∷ []) (kind_reads (keyword.Event k)) ∙ ap (λ (l : List ℕ). kind_name (keyword.Event k) ∷ l) (shown_some (0 ∷ []) (shown_reads k a ha) ∙ ap (λ (l : List ℕ). token_of k a ∷ l) shown_zero)))

  pub shown_word : shown (event_tokens (event_word (number_of k) a b)) ≡ kind_name (keyword.Event k) ∷ token_of k a ∷ digit_tokens k b
  shown_word = ap shown kind_tokens_lem ∙ shown_kind

-- ---- numbers of tokens

-- they are those of the word's line, or its eight digits alone
abbrev pub Of : List ℕ → ℕ → Type 0
Of vs w = (vs ≡ shown (event_tokens w)) ⊎ (vs ≡ hex 8 w ∷ [])

of_kind : (v w : ℕ) (rest : List ℕ) (k : Kind) → kind_of v ≡ Some (keyword.Event k) → Fields k rest w → Of (v ∷ rest) w
of_kind v w rest k f p =
    let e : shown (event_tokens w) ≡ kind_name (keyword.Event k) ∷ token_of k p.a ∷ digit_tokens k p.b =
    ap (λ (x : ℕ). shown (event_tokens x)) (sym p.word) ∙ shown_word k p.a p.b p.a_byte p.b_taken in
    inl (ap (λ (x : ℕ). x ∷ rest) (kind_token v (keyword.Event k) f) ∙ ap (λ (l : List ℕ). kind_name (keyword.Event k) ∷ l) p.line ∙ sym e)

of_bare : (v w : ℕ) (rest : List ℕ) → meaning (bare 0 v) rest ≡ Word w → Of (v ∷ rest) w
unfolding bare word_or
of_bare v w rest m =
    by (ltb (unhex 8 v) 4294967296)
    (λ z.
    let q : (rest ≡ []) × (unhex 8 v ≡ w) = word_ends (unhex 8 v) rest w (rw z at m) in
    inr (rw (← q.1, q.0, hex_unhex 8 v (ltb-true (unhex 8 v) 4294967296 z)) refl))
    (λ z. absurd (bad_stays 0 rest w (rw z at m)))

no_kind : (o : Option Kind) → is_some o ≡ false → o ≡ None
no_kind None e = refl
no_kind (Some k) e = cc

other_shown : (w : ℕ) → is_line w ≡ false → shown (event_tokens w) ≡ kind_name keyword.Word ∷ hex 8 w ∷ []
unfolding event_tokens tokens_by
other_shown w f =
    rw (no_kind (line_kind w) f)
    (shown_some (hex 8 w ∷ 0 ∷ []) (kind_reads keyword.Word) ∙ ap (λ (l : List ℕ). kind_name keyword.Word ∷ l) (shown_some (0 ∷ []) (hex_reads 7 w (omega arith)) ∙ ap (λ (l : List ℕ). hex 8 w ∷ l) shown_zero))

of_digits : (v u w : ℕ) (rest : List ℕ) → v ≡ kind_name keyword.Word → meaning (at_other 0 u) rest ≡ Word w → Of (v ∷ u ∷ rest) w
unfolding at_other other_or
of_digits v u w rest e m =
    by (ltb (unhex 8 u) 4294967296)
    (λ z.
    let n : meaning (pick (is_line (unhex 8 u)) (Bad 0) (Word (unhex 8 u))) rest ≡ Word w = rw z at m in
    by (is_line (unhex 8 u))
    (λ t. absurd (bad_stays 0 rest w (rw t at n)))
    (λ f.
    let q : (rest ≡ []) × (unhex 8 u ≡ w) = word_ends (unhex 8 u) rest w (rw f at n) in
    let d : hex 8 (unhex 8 u) ≡ u = hex_unhex 8 u (ltb-true (unhex 8 u) 4294967296 z) in
    let s : shown (event_tokens w) ≡ kind_name keyword.Word ∷ u ∷ [] = rw (← q.1) (other_shown (unhex 8 u) f ∙ ap (λ (x : ℕ). kind_name keyword.Word ∷ x ∷ []) d) in
    inl (ap (λ (l : List ℕ). v ∷ u ∷ l) q.0 ∙ ap (λ (x : ℕ). x ∷ u ∷ []) e ∙ sym s)))
    (λ z. absurd (bad_stays 0 rest w (rw z at m)))

of_other : (v w : ℕ) (rest : List ℕ) → v ≡ kind_name keyword.Word → meaning Other rest ≡ Word w → Of (v ∷ rest) w
unfolding meaning next
of_other v w [] e m = absurd (let z : ◌≡◌ {A = ℕ} 0 1 = cc in omega arith)
of_other v w (u ∷ rest) e m = of_digits v u w rest e m

of_keyword : (o : Option Keyword) (v w : ℕ) (rest : List ℕ) → kind_of v ≡ o → meaning (on_keyword 0 v o) rest ≡ Word w → Of (v ∷ rest) w
unfolding on_keyword
of_keyword None v w rest e m = of_bare v w rest m
of_keyword (Some (keyword.Event k)) v w rest e m = of_kind v w rest k e (at_kind_lem k w rest m)
of_keyword (Some keyword.Word) v w rest e m = of_other v w rest (kind_token v keyword.Word e) m

of_start : (v w : ℕ) (rest : List ℕ) → meaning (at_start 0 v) rest ≡ Word w → Of (v ∷ rest) w
unfolding at_start
of_start v w rest m = of_keyword (kind_of v) v w rest refl m

pub of_meaning : (vs : List ℕ) (w : ℕ) → meaning Start vs ≡ Word w → Of vs w
unfolding meaning next
of_meaning [] w m = absurd (let z : ◌≡◌ {A = ℕ} 0 1 = cc in omega arith)
of_meaning (v ∷ rest) w m = of_start v w rest m

-- a line that is read as a word has the tokens of that word's line, up to letter case, white space and a comment; or is its eight digits
pub print_parse : (line : List ℕ) (w : ℕ) → parse line ≡ Ok w → Of (values (tokens line)) w
print_parse line w h = of_meaning (values (tokens line)) w (read_as line w h)
