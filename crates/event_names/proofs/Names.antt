-- The tables of names, both ways: a field is found by its token, and what a token finds is written so.
-- Assumes nothing.
use mathlib.Core.Path.{◌≡◌, refl, sym, ◌∙◌}
use mathlib.Core.Bool.{Bool, true, false, cond}
use mathlib.Core.List.{List, [], ◌∷◌}
use Prim.Native.Nat.{ℕ, zero, suc, ◌+◌, ◌-◌, ◌<◌, ◌≤◌}
use native.Mathlib.Omega.{arith}
use native.Mathlib.Numerals.{add-one}
use lib.Dec.{eqb, ltb, eqb→eq}
use lib.ListN.{length, get_or}
use borrow.Author.Tests.{eqb-true, eqb-false, ltb-true, ne_eqb, lt-ltb, le-ltb}
use Rattle.bits.specs.Byte.{pick}
use Rattle.bits.proofs.Level.{pick_by}
use Rattle.bits.proofs.Finite.{at_each}
use Rattle.event_names.specs.Digits.{below, digit_of, hex, joined, unhex}
use Rattle.std.specs.Prelude.{◌==◌, Option, Some, None, position}
use Rattle.std.specs.Bool.{⊤}
use Rattle.std.specs.List.{position_from}
use Rattle.std.proofs.lemmas.Iterator.Adapters.{position_from-zero}
use Rattle.event_names.specs.declared.Kind.{Kind}
use Rattle.event_names.specs.declared.Kind.TheVariants.{Read, Write, Pin, Clock, Polarity}
use Rattle.event_names.specs.declared.Keyword.{Keyword}
use Rattle.event_names.specs.declared.Keyword.TheVariants as keyword
use Rattle.event_names.specs.Names.{registers, pins, clocks, polarities, names, number_of, kind_with, kind_of, kind_name, none, find, named, name_in, unnamed, field_in, field_of, token_in, token_of}
use Rattle.event_names.proofs.Digits.{hex_unhex, some_below, none_below}

-- past a table there is no name
pub beyond : (l : List ℕ) (i : ℕ) → length l ≤ i → get_or l i 0 ≡ 0
beyond [] i h = refl
beyond (n ∷ rest) zero h = absurd (omega arith)
beyond (n ∷ rest) (suc i) h = beyond rest i (omega arith)

-- ---- from a field to its token and back: computed, so that no name stands twice

back : List ℕ → ℕ → Bool
back table a = eqb (field_in table (token_in table a)) a

register_back : (a : ℕ) → a < 256 → field_in registers (token_in registers a) ≡ a
unfolding back registers find named unnamed field_in token_in hex unhex joined digit_of
register_back a h = eqb→eq (field_in registers (token_in registers a)) a (at_each (back registers) 256 tt a h)

pin_back : (a : ℕ) → a < 256 → field_in pins (token_in pins a) ≡ a
unfolding back pins find named unnamed field_in token_in hex unhex joined digit_of
pin_back a h = eqb→eq (field_in pins (token_in pins a)) a (at_each (back pins) 256 tt a h)

clock_back : (a : ℕ) → a < 256 → field_in clocks (token_in clocks a) ≡ a
unfolding back clocks find named unnamed field_in token_in hex unhex joined digit_of
clock_back a h = eqb→eq (field_in clocks (token_in clocks a)) a (at_each (back clocks) 256 tt a h)

polarity_back : (a : ℕ) → a < 256 → field_in polarities (token_in polarities a) ≡ a
unfolding back polarities find named unnamed field_in token_in hex unhex joined digit_of
polarity_back a h = eqb→eq (field_in polarities (token_in polarities a)) a (at_each (back polarities) 256 tt a h)

-- what holds of the four tables holds of each kind's
pub each_table : (P : List ℕ → Type 0) → P registers → P pins → P clocks → P polarities → (kind : Kind) → P (names kind)
unfolding names
each_table P r p c v Read = r
each_table P r p c v Write = r
each_table P r p c v Pin = p
each_table P r p c v Clock = c
each_table P r p c v Polarity = v

pub field_token : (kind : Kind) (a : ℕ) → a < 256 → field_of kind (token_of kind a) ≡ a
field_token kind a h =
    each_table (λ (l : List ℕ). field_in l (token_in l a) ≡ a) (register_back a h) (pin_back a h) (clock_back a h) (polarity_back a h) kind

-- ---- from a token to its field and back

pub record Stands (i : ℕ) (l : List ℕ) (v r : ℕ) : Type 0 where
  pub after : i ≤ r
  pub there : get_or l (r - i) 0 ≡ v

find_first : (i n v : ℕ) (rest : List ℕ) → v ≡ n → Stands i (n ∷ rest) v i
find_first i n v rest e = record { after = omega arith; there = let z : i - i ≡ 0 = omega arith in rw z (sym e) }

find_later : (i n v r : ℕ) (rest : List ℕ) → Stands (suc i) rest v r → Stands i (n ∷ rest) v r
find_later i n v r rest s =
    let h : suc i ≤ r = s.after in
    let z : r - i ≡ suc (r - suc i) = omega arith in
    record { after = omega arith; there = rw z s.there }

find_stands : (i : ℕ) (l : List ℕ) (v : ℕ) → find i l v < 256 → Stands i l v (find i l v)
unfolding find
find_stands i [] v h = absurd (omega arith)
find_stands i (n ∷ rest) v h =
    pick_by (λ (r : ℕ). r < 256 → Stands i (n ∷ rest) v r) (eqb v n)
    (λ e _. find_first i n v rest (eqb-true v n e))
    (λ _ k. find_later i n v (find (suc i) rest v) rest (find_stands (suc i) rest v k)) h

positive : (n : ℕ) → (n ≡ 0 → ⊥) → 0 < n
positive zero f = absurd (f refl)
positive (suc n) f = omega arith

-- a token that is a name is not 0
named_there : (l : List ℕ) (v : ℕ) → named l v < 256 → (get_or l (named l v) 0 ≡ v) × (0 < v)
unfolding named
named_there l v =
    pick_by (λ (r : ℕ). r < 256 → (get_or l r 0 ≡ v) × (0 < v)) (eqb v 0)
    (λ _ h. absurd (omega arith))
    (λ e h.
    let s : Stands 0 l v (find 0 l v) = find_stands 0 l v h in
    let z : find 0 l v - 0 ≡ find 0 l v = omega arith in
    (rw z at s.there, positive v (eqb-false v 0 e)))

token_named : (l : List ℕ) (v : ℕ) → named l v < 256 → token_in l (named l v) ≡ v
unfolding token_in
token_named l v h =
    let s : (get_or l (named l v) 0 ≡ v) × (0 < v) = named_there l v h in
    rw (s.0, ne_eqb v 0 (λ e. omega (arith, s.1))) refl

token_unnamed : (l : List ℕ) (v : ℕ) → unnamed l (unhex 2 v) < 256 → token_in l (unnamed l (unhex 2 v)) ≡ v
unfolding token_in unnamed
token_unnamed l v =
    let P : ℕ → Type 0 = λ (a : ℕ). a < 256 → pick (eqb (name_in l a) 0) (hex 2 a) (name_in l a) ≡ v in
    pick_by P (ltb (unhex 2 v) 256)
    (λ t. pick_by P (eqb (name_in l (unhex 2 v)) 0)
    (λ e h. rw e (hex_unhex 2 v (omega (arith, ltb-true (unhex 2 v) 256 t))))
    (λ _ h. absurd (omega arith)))
    (λ _ h. absurd (omega arith))

pub token_field_in : (l : List ℕ) (v : ℕ) → field_in l v < 256 → token_in l (field_in l v) ≡ v
unfolding field_in
token_field_in l v =
    pick_by (λ (a : ℕ). a < 256 → token_in l a ≡ v) (ltb (named l v) 256)
    (λ _ h. token_named l v h) (λ _ h. token_unnamed l v h)

-- a token that is taken for a field is the field's token
pub token_field : (kind : Kind) (v : ℕ) → field_of kind v < 256 → token_of kind (field_of kind v) ≡ v
token_field kind v h = token_field_in (names kind) v h

-- ---- kinds

pub kind_back : (k : Keyword) → kind_of (kind_name k) ≡ Some k
unfolding kind_of kind_name
kind_back (keyword.Event Read) = refl
kind_back (keyword.Event Write) = refl
kind_back (keyword.Event Pin) = refl
kind_back (keyword.Event Clock) = refl
kind_back (keyword.Event Polarity) = refl
kind_back keyword.Word = refl

-- the token of a keyword
IsName : ℕ → Option Keyword → Type 0
IsName v None = ⊤
IsName v (Some k) = v ≡ kind_name k

-- a token that is taken for a keyword is its name
name_taken : (v : ℕ) → IsName v (kind_of v)
unfolding IsName kind_of kind_name
name_taken v =
    pick_by (IsName v) (eqb v 0x52454144) (λ e. eqb-true v 0x52454144 e)
    (λ _. pick_by (IsName v) (eqb v 0x5752495445) (λ e. eqb-true v 0x5752495445 e)
    (λ _. pick_by (IsName v) (eqb v 0x50494E) (λ e. eqb-true v 0x50494E e)
    (λ _. pick_by (IsName v) (eqb v 0x434C4F434B) (λ e. eqb-true v 0x434C4F434B e)
    (λ _. pick_by (IsName v) (eqb v 0x504F4C4152495459) (λ e. eqb-true v 0x504F4C4152495459 e)
    (λ _. pick_by (IsName v) (eqb v 0x574F5244) (λ e. eqb-true v 0x574F5244 e) (λ _. tt))))))

pub kind_token : (v : ℕ) (k : Keyword) → kind_of v ≡ Some k → v ≡ kind_name k
unfolding IsName
kind_token v k e = rw e at (name_taken v)

-- the number of a kind is its own
pub number_back : (k : Kind) → kind_with (number_of k) ≡ Some k
unfolding kind_with number_of
number_back Read = refl
number_back Write = refl
number_back Pin = refl
number_back Clock = refl
number_back Polarity = refl

HasNumber : ℕ → Option Kind → Type 0
HasNumber n None = ⊤
HasNumber n (Some k) = n ≡ number_of k

number_taken : (n : ℕ) → HasNumber n (kind_with n)
unfolding HasNumber kind_with number_of
number_taken n =
    pick_by (HasNumber n) (eqb n 1) (λ e. eqb-true n 1 e)
    (λ _. pick_by (HasNumber n) (eqb n 2) (λ e. eqb-true n 2 e)
    (λ _. pick_by (HasNumber n) (eqb n 3) (λ e. eqb-true n 3 e)
    (λ _. pick_by (HasNumber n) (eqb n 4) (λ e. eqb-true n 4 e)
    (λ _. pick_by (HasNumber n) (eqb n 5) (λ e. eqb-true n 5 e) (λ _. tt)))))

pub kind_number : (n : ℕ) (k : Kind) → kind_with n ≡ Some k → n ≡ number_of k
unfolding HasNumber
kind_number n k e = rw e at (number_taken n)

-- ---- tokens as they are written

-- of four clocks, the one that is none of the first three
pub last_clock : (a : ℕ) → a < 4 → (a ≡ 0 → ⊥) → (a ≡ 1 → ⊥) → (a ≡ 2 → ⊥) → a ≡ 3
last_clock zero h f g k = absurd (f refl)
last_clock (suc zero) h f g k = absurd (g refl)
last_clock (suc (suc zero)) h f g k = absurd (k refl)
last_clock (suc (suc (suc zero))) h f g k = refl
last_clock (suc (suc (suc (suc a)))) h f g k = absurd (omega arith)

-- ---- a name's place in its table, as the library looks for it

or_none : Option ℕ → ℕ
or_none None = none
or_none (Some i) = i

found_step : (b : Bool) (i x : ℕ) (o : Option ℕ) → x ≡ or_none o → pick b i x ≡ or_none (cond b (Some i) o)
unfolding or_none
found_step true i x o e = refl
found_step false i x o e = e

found_from : (l : List ℕ) (v i : ℕ) → find i l v ≡ or_none (position_from (λ (n : ℕ). v == n) i l)
unfolding find or_none
found_from [] v i = refl
found_from (n ∷ rest) v i =
    found_step (v == n) i (find (suc i) rest v) (position_from (λ (m : ℕ). v == m) (i + 1) rest) (rw add-one (found_from rest v (suc i)))

named_from : (l : List ℕ) (v : ℕ) (o : Option ℕ) → (v ≡ 0 → ⊥) → o ≡ position (λ (n : ℕ). v == n) l → named l v ≡ or_none o
unfolding named
named_from l v o f e =
    let h = e ∙ position_from-zero (λ (n : ℕ). v == n) l in rw (h, ne_eqb v 0 f) (found_from l v 0)

pub unplaced : (l : List ℕ) (v : ℕ) → (v ≡ 0 → ⊥) → None ≡ position (λ (n : ℕ). v == n) l → None ≡ below 256 (named l v)
unfolding or_none
unplaced l v f e = rw (named_from l v None f e) refl

pub placed : (l : List ℕ) (v i : ℕ) → (v ≡ 0 → ⊥) → Some i ≡ position (λ (n : ℕ). v == n) l → below 256 i ≡ below 256 (named l v)
unfolding or_none
placed l v i f e = rw (named_from l v (Some i) f e) refl

-- ---- a field by its name, or by its digits

pub field_named : (l : List ℕ) (v a : ℕ) → Some a ≡ below 256 (named l v) → Some a ≡ below 256 (field_in l v)
unfolding field_in
field_named l v a e = rw (lt-ltb (named l v) 256 (some_below _ _ _ e).0) e

field_else : (l : List ℕ) (v : ℕ) → None ≡ below 256 (named l v) → field_in l v ≡ unnamed l (unhex 2 v)
unfolding field_in
field_else l v e = rw (le-ltb (named l v) 256 (none_below _ _ e)) refl

pub field_digits : (l : List ℕ) (v a x : ℕ) (r : Option ℕ) → None ≡ below 256 (named l v) → Some x ≡ below 4294967296 (unhex 2 v) → Some a ≡ below 256 x
    → r ≡ below 256 (unnamed l a) → r ≡ below 256 (field_in l v)
field_digits l v a x r e d b q =
    rw (field_else l v e) (rw ((some_below _ _ _ b).1, (some_below _ _ _ d).1) at q)

wide_unnamed : (l : List ℕ) (n : ℕ) → 256 ≤ n → None ≡ below 256 (unnamed l n)
unfolding unnamed
wide_unnamed l n h = rw (le-ltb n 256 h) refl

pub field_none : (l : List ℕ) (v : ℕ) → None ≡ below 256 (named l v) → None ≡ below 4294967296 (unhex 2 v) → None ≡ below 256 (field_in l v)
field_none l v e d = rw (field_else l v e) (wide_unnamed l (unhex 2 v) (omega (arith, none_below _ _ d)))

pub field_wide : (l : List ℕ) (v x : ℕ) → None ≡ below 256 (named l v) → Some x ≡ below 4294967296 (unhex 2 v) → None ≡ below 256 x → None ≡ below 256 (field_in l v)
field_wide l v x e d b = rw (field_else l v e) (wide_unnamed l (unhex 2 v) (rw (some_below _ _ _ d).1 at (none_below _ _ b)))
