-- Reading the line of a word gives the word, for every word.
-- Assumes nothing.
use mathlib.Core.Path.{◌≡◌, refl, sym, ap, ◌∙◌}
use mathlib.Core.Bool.{Bool, true, false, not, ◌&&◌, ◌||◌}
use mathlib.Core.List.{List, [], ◌∷◌, ◌++◌}
use Prim.Native.Nat.{ℕ, zero, suc, ◌+◌, ◌-◌, ◌*◌, ◌/◌, ◌%◌, ◌<◌, ◌≤◌}
use native.Mathlib.Omega.{arith}
use lib.Dec.{T, eqb, ltb, eqb→eq}
use lib.ListN.{get_or}
use borrow.Author.Tests.{not-true, eqb-true, eqb-false, ltb-true, ltb-false, ne_eqb, eq-eqb, lt-ltb, le-ltb}
use Rattle.bits.specs.Byte.{pick}
use Rattle.bits.proofs.Finite.{at_each, T_true, both, and_left, and_right}
use Rattle.bits.proofs.Level.{pick_by}
use Rattle.events.specs.Word.{kind, reserved, field_a, field_b, event_word}
use Rattle.hex_digits.specs.Hex.{hex_digit}
use Rattle.event_names.specs.Digits.{digit_of, hex, joined, unhex}
use Rattle.event_names.specs.Names.{registers, pins, clocks, polarities, names, number_of, kind_with, kind_of, kind_name, find, named, name_in, unnamed, field_in, field_of, token_in, token_of, lowered, lower, kind_shown, shown_of}
use Rattle.event_names.proofs.Digits.{hex_high, hex_low, hex_some, hex_positive, hex_fits, unhex_hex}
use Rattle.event_names.proofs.Names.{each_table, field_token, kind_back, number_back, kind_number}
use Rattle.line_tokens.specs.Scan.{blank, fold, tokens, values}
use Rattle.line_tokens.specs.Written.{line_of}
use Rattle.event_text_read.specs.declared.Event.{Event}
use Rattle.event_text_read.specs.declared.Event.TheVariants.{Start, Kind as OfKind, Place, Other, Word, Bad}
use Rattle.std.specs.Prelude.{Option, Some, None, Ok}
use Rattle.event_names.specs.declared.Kind.{Kind}
use Rattle.event_names.specs.declared.Kind.TheVariants as kinds
use Rattle.event_names.specs.declared.Keyword.{Keyword}
use Rattle.event_names.specs.declared.Keyword.TheVariants as keyword
use Rattle.event_text_read.specs.Event.{takes_b, digits_b, limit_b, bound_b, kind_if, line_kind, is_line, bare, on_keyword, at_start, on_field, at_kind, at_place, other_or, at_other, next, parse}
use Rattle.event_text_write.specs.Event.{value_token, kind_tokens, tokens_by, event_tokens, print}
use Rattle.event_text_laws.specs.Shown.{upper, valued, shown, meaning}
use Rattle.event_text_laws.proofs.Tokens.{by, solid, plain, Plain, nil, cons, read_line}
use Rattle.event_text_laws.proofs.Meaning.{parsed}

-- ---- hex digits as tokens: in upper case, and plain

digits_solid : ℕ → Bool
digits_solid d = solid (hex_digit d) && eqb (fold (hex_digit d)) (hex_digit d)

digit_tests : (d : ℕ) → d < 16 → (solid (hex_digit d) ≡ true) × (eqb (fold (hex_digit d)) (hex_digit d) ≡ true)
unfolding digits_solid solid fold blank
digit_tests d h = both (solid (hex_digit d)) (eqb (fold (hex_digit d)) (hex_digit d)) (T_true (digits_solid d) (at_each digits_solid 16 tt d h))

digit_fold : (d : ℕ) → d < 16 → fold (hex_digit d) ≡ hex_digit d
digit_fold d h = eqb-true (fold (hex_digit d)) (hex_digit d) (digit_tests d h).1

hex_some_zero : (n w : ℕ) → eqb (hex (suc n) w) 0 ≡ false
hex_some_zero n w = ne_eqb (hex (suc n) w) 0 (λ e. omega (arith, hex_positive n w))

hex_parts : (n w : ℕ) → hex n (w / 16) * 256 + hex_digit (w % 16) ≡ hex (suc n) w
unfolding hex
hex_parts n w = refl

upper_zero : (n : ℕ) → upper n 0 ≡ 0
unfolding upper
upper_zero zero = refl
upper_zero (suc n) = refl

hex_zero : (w : ℕ) → hex 0 w ≡ 0
unfolding hex
hex_zero w = refl

pub upper_hex : (m n w : ℕ) → n ≤ m → upper m (hex n w) ≡ hex n w
unfolding upper
upper_hex m zero w h = rw (hex_zero w) (upper_zero m)
upper_hex zero (suc n) w h = absurd (omega arith)
upper_hex (suc m) (suc n) w h =
    rw (hex_some_zero n w, hex_high n w, hex_low n w, upper_hex m n (w / 16) (omega arith), digit_fold (w % 16) (omega arith)) (hex_parts n w)

hex_no_star : (n w : ℕ) → eqb (hex n w) 42 ≡ false
unfolding hex
hex_no_star zero w = refl
hex_no_star (suc n) w = ne_eqb (hex n (w / 16) * 256 + hex_digit (w % 16)) 42 (λ e. omega (arith, hex_some (w % 16)))

plain_zero : (n : ℕ) → T (plain n 0)
unfolding plain
plain_zero zero = tt
plain_zero (suc n) = tt

or_T : (a b : Bool) → T b → T (a || b)
or_T true b t = tt
or_T false b t = t

pub plain_hex : (m n w : ℕ) → n ≤ m → n ≤ 8 → T (plain m (hex n w))
unfolding plain
plain_hex m zero w h k = rw (hex_zero w) (plain_zero m)
plain_hex zero (suc n) w h k = absurd (omega arith)
plain_hex (suc m) (suc n) w h k =
    let t : T (plain m (hex n (w / 16))) = plain_hex m n (w / 16) (omega arith) (omega arith) in
    let u : upper m (hex n (w / 16)) ≡ hex n (w / 16) = upper_hex m n (w / 16) (omega arith) in
    or_T (eqb (hex (suc n) w) 0) _
    (rw (hex_high n w, hex_low n w, u, lt-ltb (hex n (w / 16)) 72057594037927936 (hex_fits n (w / 16) (omega arith)), (digit_tests (w % 16) (omega arith)).0, hex_no_star n (w / 16)) t)

-- ---- names as tokens: plain, and read in upper case

-- a token that is written for another is read as it
pub record Reads (v u : ℕ) : Type 0 where
  pub plainly : T (plain 8 v)
  pub number : upper 8 v ≡ u
  pub some : eqb u 0 ≡ false

reads : ℕ → ℕ → Bool
reads v u = plain 8 v && (eqb (upper 8 v) u && not (eqb u 0))

reads_told : (v u : ℕ) → T (reads v u) → Reads v u
unfolding reads
reads_told v u t = record {
  plainly = and_left (plain 8 v) (eqb (upper 8 v) u && not (eqb u 0)) t;
  number = eqb→eq (upper 8 v) u (and_left (eqb (upper 8 v) u) (not (eqb u 0)) (and_right (plain 8 v) (eqb (upper 8 v) u && not (eqb u 0)) t));
  some = not-true (eqb u 0) (T_true (not (eqb u 0)) (and_right (eqb (upper 8 v) u) (not (eqb u 0)) (and_right (plain 8 v) (eqb (upper 8 v) u && not (eqb u 0)) t)));
}

own : List ℕ → ℕ → Bool
own table a = reads (token_in table a) (token_in table a)

register_own : (a : ℕ) → a < 256 → T (own registers a)
unfolding own reads plain solid blank upper fold registers token_in hex
register_own a h = at_each (own registers) 256 tt a h

pin_own : (a : ℕ) → a < 256 → T (own pins a)
unfolding own reads plain solid blank upper fold pins token_in hex
pin_own a h = at_each (own pins) 256 tt a h

clock_own : (a : ℕ) → a < 256 → T (own clocks a)
unfolding own reads plain solid blank upper fold clocks token_in hex
clock_own a h = at_each (own clocks) 256 tt a h

polarity_own : (a : ℕ) → a < 256 → T (own polarities a)
unfolding own reads plain solid blank upper fold polarities token_in hex
polarity_own a h = at_each (own polarities) 256 tt a h

token_own : (k : Kind) (a : ℕ) → a < 256 → Reads (token_of k a) (token_of k a)
unfolding own
token_own k a h =
    each_table (λ (l : List ℕ). Reads (token_in l a) (token_in l a))
    (reads_told _ _ (register_own a h)) (reads_told _ _ (pin_own a h)) (reads_told _ _ (clock_own a h)) (reads_told _ _ (polarity_own a h)) k

clock_low : ℕ → Bool
clock_low a = reads (lower 8 (name_in clocks a)) (token_in clocks a)

clock_lower : (a : ℕ) → a < 4 → T (clock_low a)
unfolding clock_low reads plain solid blank upper fold clocks token_in hex lower lowered
clock_lower a h = at_each clock_low 4 tt a h

clock_shown : (a : ℕ) → a < 4 → Reads (lower 8 (name_in clocks a)) (token_of kinds.Clock a)
unfolding clock_low names
clock_shown a h = reads_told _ _ (clock_lower a h)

pub shown_reads : (k : Kind) (a : ℕ) → a < 256 → Reads (shown_of k a) (token_of k a)
unfolding shown_of
shown_reads kinds.Read a h = token_own kinds.Read a h
shown_reads kinds.Write a h = token_own kinds.Write a h
shown_reads kinds.Pin a h = token_own kinds.Pin a h
shown_reads kinds.Clock a h =
    pick_by (λ (x : ℕ). Reads x (token_of kinds.Clock a)) (ltb a 4) (λ t. clock_shown a (ltb-true a 4 t)) (λ _. token_own kinds.Clock a h)
shown_reads kinds.Polarity a h = token_own kinds.Polarity a h

kinds_read : (k : Keyword) → T (reads (kind_shown k) (kind_name k))
unfolding reads plain solid blank upper fold kind_name lower lowered
kinds_read (keyword.Event kinds.Read) = tt
kinds_read (keyword.Event kinds.Write) = tt
kinds_read (keyword.Event kinds.Pin) = tt
kinds_read (keyword.Event kinds.Clock) = tt
kinds_read (keyword.Event kinds.Polarity) = tt
kinds_read keyword.Word = tt

pub kind_reads : (k : Keyword) → Reads (kind_shown k) (kind_name k)
kind_reads k = reads_told (kind_shown k) (kind_name k) (kinds_read k)

pub hex_reads : (n w : ℕ) → n < 8 → Reads (hex (suc n) w) (hex (suc n) w)
hex_reads n w h = record { plainly = plain_hex 8 (suc n) w (omega arith) (omega arith); number = upper_hex 8 (suc n) w (omega arith); some = hex_some_zero n w }

-- ---- tokens of a line of a kind

valued_some : (v : ℕ) (l : List ℕ) → eqb v 0 ≡ false → valued v l ≡ v ∷ l
unfolding valued
valued_some v l z = rw z refl

pub shown_some : {v u : ℕ} (l : List ℕ) → Reads v u → shown (v ∷ l) ≡ u ∷ shown l
unfolding shown
shown_some {v} {u} l r = rw r.number (valued_some u (shown l) r.some)

pub shown_zero : shown (0 ∷ []) ≡ []
unfolding shown valued upper
shown_zero = refl

limit_room : (k : Kind) (b : ℕ) → b < limit_b k → unhex (digits_b k) (hex (digits_b k) b) ≡ b
limit_room kinds.Read b h = unhex_hex 1 b (omega arith) (omega arith)
limit_room kinds.Write b h = unhex_hex 2 b (omega arith) (omega arith)
limit_room kinds.Pin b h = unhex_hex 1 b (omega arith) (omega arith)
limit_room kinds.Clock b h = unhex_hex 1 b (omega arith) (omega arith)
limit_room kinds.Polarity b h = unhex_hex 1 b (omega arith) (omega arith)

pub value_shown : (k : Kind) (b : ℕ) → shown (hex (digits_b k) b ∷ []) ≡ hex (digits_b k) b ∷ []
unfolding shown
value_shown kinds.Read b = shown_some [] (hex_reads 0 b (omega arith))
value_shown kinds.Write b = shown_some [] (hex_reads 1 b (omega arith))
value_shown kinds.Pin b = shown_some [] (hex_reads 0 b (omega arith))
value_shown kinds.Clock b = shown_some [] (hex_reads 0 b (omega arith))
value_shown kinds.Polarity b = shown_some [] (hex_reads 0 b (omega arith))

module _ (k : Kind) (a b : ℕ) (ha : a < 256) where
  abbrev name : ℕ
  name = kind_name (keyword.Event k)

  at_kind_lem : (rest : List ℕ) → meaning Start (kind_name (keyword.Event k) ∷ rest) ≡ meaning (OfKind k) rest
  unfolding meaning next at_start on_keyword
  at_kind_lem rest = rw (kind_back (keyword.Event k)) refl

  at_field : (rest : List ℕ) → meaning (OfKind k) (token_of k a ∷ rest) ≡ meaning (pick (takes_b k) (Place k a) (Word (event_word (number_of k) a 0))) rest
  unfolding meaning next at_kind on_field
  at_field rest = rw (field_token k a ha, lt-ltb a 256 ha) refl

  at_value : b < limit_b k → meaning (Place k a) (hex (digits_b k) b ∷ []) ≡ Word (event_word (number_of k) a b)
  unfolding meaning next at_place
  at_value h = rw (limit_room k b h, lt-ltb b (limit_b k) h) refl

  place_taken : takes_b k ≡ true → pick (takes_b k) (Place k a) (Word (event_word (number_of k) a 0)) ≡ Place k a
  place_taken t = rw t refl

  word_taken : takes_b k ≡ false → meaning (pick (takes_b k) (Place k a) (Word (event_word (number_of k) a 0))) [] ≡ Word (event_word (number_of k) a 0)
  unfolding meaning
  word_taken t = rw t refl

  -- with a field B
  with_b : takes_b k ≡ true → b < bound_b k → meaning Start (shown (kind_tokens k a b)) ≡ Word (event_word (number_of k) a b)
  unfolding kind_tokens value_token
  with_b t h =
      let lim : b < limit_b k = rw t at h in
      rw t
      (ap (meaning Start) (shown_some (shown_of k a ∷ hex (digits_b k) b ∷ []) (kind_reads (keyword.Event k)) ∙ ap (λ (l : List ℕ). kind_name (keyword.Event k) ∷ l) (shown_some (hex (digits_b k) b ∷ []) (shown_reads k a ha) ∙ ap (λ (l : List ℕ). token_of k a ∷ l) (value_shown k b)))
      ∙ at_kind_lem (token_of k a ∷ hex (digits_b k) b ∷ [])
      ∙ at_field (hex (digits_b k) b ∷ [])
      ∙ ap (λ (e : Event). meaning e (hex (digits_b k) b ∷ [])) (place_taken t)
      ∙ at_value lim)

  -- without one
  without_b : takes_b k ≡ false → b < bound_b k → meaning Start (shown (kind_tokens k a b)) ≡ Word (event_word (number_of k) a b)
  unfolding kind_tokens value_token
  without_b t h =
      let one : b < 1 = rw t at h in
      let z : b ≡ 0 = omega arith in
      rw t
      (ap (meaning Start) (shown_some (shown_of k a ∷ 0 ∷ []) (kind_reads (keyword.Event k)) ∙ ap (λ (l : List ℕ). kind_name (keyword.Event k) ∷ l) (shown_some (0 ∷ []) (shown_reads k a ha) ∙ ap (λ (l : List ℕ). token_of k a ∷ l) shown_zero))
      ∙ at_kind_lem (token_of k a ∷ [])
      ∙ at_field []
      ∙ word_taken t
      ∙ ap (λ (x : ℕ). Word (event_word (number_of k) a x)) (sym z))

  pub line_means_lem : b < bound_b k → meaning Start (shown (kind_tokens k a b)) ≡ Word (event_word (number_of k) a b)
  line_means_lem h = by (takes_b k) (λ t. with_b t h) (λ t. without_b t h)

-- ---- words

-- the fields of a word that has a line of a kind
pub record Line (k : Kind) (w : ℕ) : Type 0 where
  pub number : kind w ≡ number_of k
  pub reserved_zero : reserved w ≡ 0
  pub bound : field_b w < bound_b k

line_if : (o : Option Kind) (k : Kind) (w : ℕ) → (o ≡ Some k → kind w ≡ number_of k) → kind_if o w ≡ Some k → Line k w
line_if None k w n = λ e. absurd (let z : ◌≡◌ {A = ℕ} 0 1 = cc in omega arith)
line_if (Some j) k w n =
    pick_by (λ (o : Option Kind). o ≡ Some k → Line k w) (eqb (reserved w) 0 && ltb (field_b w) (bound_b j))
    (λ t e.
    let same : j ≡ k = cc in
    let p = both (eqb (reserved w) 0) (ltb (field_b w) (bound_b j)) t in
    record {
      number = n (ap Some same);
      reserved_zero = eqb-true (reserved w) 0 p.0;
      bound = rw same at (ltb-true (field_b w) (bound_b j) p.1);
    })
    (λ _ e. absurd (let z : ◌≡◌ {A = ℕ} 0 1 = cc in omega arith))

pub line_told : (k : Kind) (w : ℕ) → line_kind w ≡ Some k → Line k w
unfolding line_kind
line_told k w e = line_if (kind_with (kind w)) k w (kind_number (kind w) k) e

module _ (k : Kind) (w : ℕ) (t : line_kind w ≡ Some k) where
  line_word : event_word (number_of k) (field_a w) (field_b w) ≡ w
  line_word =
      let l : Line k w = line_told k w t in
      let n : kind w ≡ number_of k = l.number in
      let r : w / 65536 % 256 ≡ 0 = l.reserved_zero in
      let low : w / 256 / 256 ≡ w / 65536 = omega arith in
      let high : w / 65536 / 256 ≡ w / 16777216 = omega arith in
      omega arith

  means_line : meaning Start (shown (kind_tokens k (field_a w) (field_b w))) ≡ Word w
  means_line = line_means_lem k (field_a w) (field_b w) (omega arith) (line_told k w t).bound ∙ ap Word line_word

other_word : (w : ℕ) → w < 4294967296 → line_kind w ≡ None → meaning Start (kind_name keyword.Word ∷ hex 8 w ∷ []) ≡ Word w
unfolding meaning next at_start on_keyword at_other other_or
other_word w h f = rw (kind_back keyword.Word, unhex_hex 8 w (omega arith) h, lt-ltb w 4294967296 h, f) refl

means_other : (w : ℕ) → w < 4294967296 → line_kind w ≡ None → meaning Start (shown (kind_shown keyword.Word ∷ hex 8 w ∷ 0 ∷ [])) ≡ Word w
means_other w h f =
    ap (meaning Start) (shown_some (hex 8 w ∷ 0 ∷ []) (kind_reads keyword.Word) ∙ ap (λ (l : List ℕ). kind_name keyword.Word ∷ l) (shown_some (0 ∷ []) (hex_reads 7 w (omega arith)) ∙ ap (λ (l : List ℕ). hex 8 w ∷ l) shown_zero))
    ∙ other_word w h f

means_by : (o : Option Kind) (w : ℕ) → w < 4294967296 → line_kind w ≡ o → meaning Start (shown (tokens_by o w)) ≡ Word w
unfolding tokens_by
means_by None w h e = means_other w h e
means_by (Some k) w h e = means_line k w e

pub means_word : (w : ℕ) → w < 4294967296 → meaning Start (shown (event_tokens w)) ≡ Word w
unfolding event_tokens
means_word w h = means_by (line_kind w) w h refl

-- ---- lines

plain_digits : (k : Kind) (b : ℕ) → T (plain 8 (hex (digits_b k) b))
plain_digits kinds.Read b = plain_hex 8 1 b (omega arith) (omega arith)
plain_digits kinds.Write b = plain_hex 8 2 b (omega arith) (omega arith)
plain_digits kinds.Pin b = plain_hex 8 1 b (omega arith) (omega arith)
plain_digits kinds.Clock b = plain_hex 8 1 b (omega arith) (omega arith)
plain_digits kinds.Polarity b = plain_hex 8 1 b (omega arith) (omega arith)

plain_value : (k : Kind) (b : ℕ) → T (plain 8 (value_token k b))
unfolding value_token
plain_value k b = pick_by (λ (x : ℕ). T (plain 8 x)) (takes_b k) (λ _. plain_digits k b) (λ _. plain_zero 8)

upper_some : (v u : ℕ) → v ≡ 0 → Reads v u → ⊥
upper_some v u e r =
    let z : upper 8 v ≡ 0 = ap (upper 8) e ∙ upper_zero 8 in
    eqb-false u 0 r.some (sym r.number ∙ z)

shown_positive : {v u : ℕ} → Reads v u → eqb v 0 ≡ false
shown_positive {v} {u} r = by (eqb v 0) (λ z. absurd (upper_some v u (eqb-true v 0 z) r)) (λ z. z)

round_line : (v x y : ℕ) → Plain (v ∷ x ∷ y ∷ []) → eqb v 0 ≡ false → (w : ℕ) → meaning Start (shown (v ∷ x ∷ y ∷ [])) ≡ Word w → parse (line_of (v ∷ x ∷ y ∷ [])) ≡ Ok w
round_line v x y p z w h = parsed (line_of (v ∷ x ∷ y ∷ [])) w (ap (meaning Start) (read_line v (x ∷ y ∷ []) p z) ∙ h)

round_by : (o : Option Kind) (w : ℕ) → w < 4294967296 → line_kind w ≡ o → parse (line_of (tokens_by o w)) ≡ Ok w
unfolding tokens_by kind_tokens
round_by None w h f =
    let k : Reads (kind_shown keyword.Word) (kind_name keyword.Word) = kind_reads keyword.Word in
    round_line (kind_shown keyword.Word) (hex 8 w) 0 (cons k.plainly (cons (plain_hex 8 8 w (omega arith) (omega arith)) (cons (plain_zero 8) nil))) (shown_positive k) w (means_other w h f)
round_by (Some j) w h t =
    let k : Reads (kind_shown (keyword.Event j)) (kind_name (keyword.Event j)) = kind_reads (keyword.Event j) in
    let a : Reads (shown_of j (field_a w)) (token_of j (field_a w)) = shown_reads j (field_a w) (omega arith) in
    round_line (kind_shown (keyword.Event j)) (shown_of j (field_a w)) (value_token j (field_b w)) (cons k.plainly (cons a.plainly (cons (plain_value j (field_b w)) nil))) (shown_positive k) w (means_line j w t)

-- the line of a word is read as that word
pub parse_print : (w : ℕ) → w < 4294967296 → parse (print w) ≡ Ok w
unfolding event_tokens
parse_print w h = round_by (line_kind w) w h refl
