-- Laws of writings one after the other, and of the lengths of lines.
-- Assumes nothing.
use mathlib.Core.Bool.{Bool, true, false}
use mathlib.Core.Path.{◌≡◌, refl, sym, ap, ◌∙◌}
use mathlib.Core.List.{List, [], ◌∷◌, ◌++◌, append_assoc}
use Prim.Native.Nat.{ℕ, zero, suc, ◌+◌, ◌-◌, ◌*◌, ◌/◌, ◌%◌, ◌<◌, ◌≤◌}
use native.Mathlib.Omega.{arith}
use native.Mathlib.Numerals.{add-one, add-two, add-three, add-four}
use lib.ListN.{length, take, drop, set, length-set, length-append}
use lib.Seq.{sets, length-sets, sets-eq, take-length}
use lib.Dec.{ltb, eqb}
use borrow.Author.Tests.{lt-ltb, le-ltb, ltb-true, ltb-false, eq-eqb, ne_eqb}
use Rattle.bits.specs.Byte.{pick, num}
use Rattle.wave_write.specs.declared.Watch.{Watch}
use Rattle.wave_write.specs.declared.Writer.{Writer}
use Rattle.wave_write.specs.Decimal.{decimal_to, decimal, binary}
use Rattle.wave_write.specs.Watch.{width_of, aligned}
use Rattle.wave_write.specs.Lines.{Line, time, pin, level, vector, first, first_lines, line_bytes, text, is_pin, pin_lines, level_lines, vector_lines, watch_lines, same_watch, time_of, moved, change_lines, event_lines, opposite, begin_lines, end_lines}
use Rattle.wave_write.specs.Header.{header_text}
use Rattle.wave_write.specs.Wrote.{Wrote, fits, event_bytes, moved_by, begin_bytes, end_bytes}

-- ---- writings

sets_append : (xs ys l : List ℕ) (i : ℕ) → sets l i (xs ++ ys) ≡ sets (sets l i xs) (i + length xs) ys
sets_append [] ys l i = let z : i + 0 ≡ i = omega arith in rw z refl
sets_append (x ∷ xs) ys l i =
    let z : i + suc (length xs) ≡ suc i + length xs = omega arith in
    rw z (sets_append xs ys (set l i x) (suc i))

pub wrote_none : (room : List ℕ) (i : ℕ) → Wrote room i [] room i
wrote_none room i = record { same = refl; to = omega arith }

pub wrote_one : (room : List ℕ) (i b : ℕ) → Wrote room i (b ∷ []) (set room i b) (i + 1)
wrote_one room i b = record { same = refl; to = refl }

pub wrote_then : {room : List ℕ} {i : ℕ} {xs ys mid left : List ℕ} {m r : ℕ} → Wrote room i xs mid m → Wrote mid m ys left r → Wrote room i (xs ++ ys) left r
wrote_then {room} {i} {xs} {ys} {mid} {left} {m} {r} a b = record {
  same = b.same ∙ rw (a.same, a.to) (sym (sets_append xs ys room i));
  to = omega (arith, a.to, b.to, length-append xs ys);
}

pub wrote_size : {room : List ℕ} {i : ℕ} {xs left : List ℕ} {r : ℕ} → Wrote room i xs left r → length left ≡ length room
wrote_size {room} {i} {xs} {left} {r} w = rw w.same (length-sets room i xs)

-- ---- numbers

length_by : (b : Bool) (k d : ℕ) (ds : List ℕ) → length ds ≤ suc k → length (pick b (d ∷ []) (ds ++ (d ∷ []))) ≤ suc (suc k)
length_by true k d ds h = omega arith
length_by false k d ds h = omega (arith, length-append ds (d ∷ []))

pub digits_length : (k n : ℕ) → length (decimal_to k n) ≤ suc k
unfolding decimal_to
digits_length zero n = omega arith
digits_length (suc k) n = length_by (ltb n 10) k (48 + n % 10) (decimal_to k (n / 10)) (digits_length k (n / 10))

pub one_digit : (k n : ℕ) → n < 10 → decimal_to k n ≡ (48 + n % 10) ∷ []
unfolding decimal_to
one_digit zero n h = refl
one_digit (suc k) n h = simp (lt-ltb n 10 h)

pub more_digits : (k j n : ℕ) → k ≡ suc j → 10 ≤ n → decimal_to k n ≡ decimal_to j (n / 10) ++ ((48 + n % 10) ∷ [])
unfolding decimal_to
more_digits k j n e h = rw e (simp (le-ltb n 10 h))

pub no_digit : (k n : ℕ) → k ≡ 0 → decimal_to k n ≡ (48 + n % 10) ∷ []
unfolding decimal_to
no_digit k n e = rw e refl

pub binary_length : (n v : ℕ) → length (binary n v) ≡ n
unfolding binary
binary_length zero v = refl
binary_length (suc n) v = ap suc (binary_length n (v % 2048 * 2))

-- some of the bits are written
pub record Bits (room₀ : List ℕ) (from n v : ℕ) (room : List ℕ) (i left x : ℕ) : Type 0 where
  pub size : length room ≡ length room₀
  pub place : i + left ≡ from + n
  pub rest : (to : List ℕ) (r : ℕ) → Wrote room i (binary left x) to r → Wrote room₀ from (binary n v) to r

pub bits_begin : (room : List ℕ) (from n v : ℕ) → Bits room from n v room from n v
bits_begin room from n v = record { size = refl; place = refl; rest = λ to r w. w }

bits_first : (room to : List ℕ) (i left less x r : ℕ) → left ≡ suc less → Wrote (set room i (48 + x / 2048 % 2)) (i + 1) (binary less (x % 2048 * 2)) to r → Wrote room i (binary left x) to r
unfolding binary
bits_first room to i left less x r e w = rw e (wrote_then (wrote_one room i (48 + x / 2048 % 2)) w)

pub bits_more : {room₀ : List ℕ} {from n v : ℕ} {room : List ℕ} {i left x d y : ℕ} → Bits room₀ from n v room i left x → 0 < left → d ≡ 48 + x / 2048 % 2 → y ≡ x % 2048 * 2
    → Bits room₀ from n v (set room i d) (i + 1) (left - 1) y
bits_more {room₀} {from} {n} {v} {room} {i} {left} {x} {d} {y} b h e f = record {
  size = simp length-set b.size;
  place = omega (arith, b.place);
  rest = λ to r w. b.rest to r (bits_first room to i left (left - 1) x r (omega arith) (rw (e, f) at w));
}

pub bits_end : {room₀ : List ℕ} {from n v : ℕ} {room : List ℕ} {i left x : ℕ} → Bits room₀ from n v room i left x → left ≤ 0 → Wrote room₀ from (binary n v) room i
unfolding binary
bits_end {room₀} {from} {n} {v} {room} {i} {left} {x} b h = let z : left ≡ 0 = omega arith in b.rest room i (rw z (wrote_none room i))

-- ---- lines

pub wrote_three : (room : List ℕ) (i a b d : ℕ) → Wrote room i (a ∷ b ∷ d ∷ []) (set (set (set room i a) (i + 1) b) (i + 2) d) (i + 3)
wrote_three room i a b d = record { same = rw (add-one, add-two) refl; to = refl }

pub time_text : (t : ℕ) → text (time t ∷ []) ≡ (35 ∷ []) ++ (decimal t ++ (10 ∷ []))
unfolding text line_bytes
time_text t = refl

pub pin_text : (word : ℕ) → is_pin word ≡ true → text (pin_lines word) ≡ (48 + num (eqb (word % 256) 1)) ∷ (73 + (word / 256 - 196608)) ∷ 10 ∷ []
unfolding text line_bytes pin_lines
pin_text word e = rw e refl

pub no_pin_text : (word : ℕ) → is_pin word ≡ false → text (pin_lines word) ≡ []
unfolding text pin_lines
no_pin_text word e = rw e refl

pub record PinRange (word : ℕ) : Type 0 where
  pub low : 196632 ≤ word / 256
  pub high : word / 256 < 196636
  pub small : word % 256 < 2

range_by : (a b d : Bool) (word : ℕ) → ltb (word / 256) 196632 ≡ a → ltb (word / 256) 196636 ≡ b → ltb (word % 256) 2 ≡ d → pick a false (pick b d false) ≡ true → PinRange word
range_by true b d word x y z e = absurd (let o : ◌≡◌ {A = ℕ} 0 1 = cc in omega arith)
range_by false false d word x y z e = absurd (let o : ◌≡◌ {A = ℕ} 0 1 = cc in omega arith)
range_by false true false word x y z e = absurd (let o : ◌≡◌ {A = ℕ} 0 1 = cc in omega arith)
range_by false true true word x y z e = record { low = ltb-false (word / 256) 196632 x; high = ltb-true (word / 256) 196636 y; small = ltb-true (word % 256) 2 z }

pub pin_range : (word : ℕ) → is_pin word ≡ true → PinRange word
unfolding is_pin
pin_range word e = range_by _ _ _ word refl refl refl e

pub level_text : (k old new : ℕ) → (old % 2 ≡ new % 2 → ⊥) → text (level_lines 1 k old new) ≡ (48 + num (eqb (new % 2) 1)) ∷ (65 + k) ∷ 10 ∷ []
unfolding text line_bytes level_lines
level_text k old new h = simp (ne_eqb _ _ h)

pub no_level_text : (k old new : ℕ) → old % 2 ≡ new % 2 → text (level_lines 1 k old new) ≡ []
unfolding text level_lines
no_level_text k old new h = simp (eq-eqb _ _ h)

append_one : (bits : List ℕ) (a b : ℕ) → (bits ++ (a ∷ b ∷ [])) ++ (10 ∷ []) ≡ bits ++ (a ∷ b ∷ 10 ∷ [])
append_one bits a b = append_assoc bits (a ∷ b ∷ []) (10 ∷ [])

pub vector_text : (n v k : ℕ) → text (vector n v k ∷ []) ≡ (98 ∷ []) ++ (binary n v ++ (32 ∷ (75 + k) ∷ 10 ∷ []))
unfolding text line_bytes
vector_text n v k = ap (λ (l : List ℕ). 98 ∷ l) (append_one (binary n v) 32 (75 + k))

pub vector_one : (k old new : ℕ) → (old % 4096 ≡ new % 4096 → ⊥) → vector_lines 1 k old new ≡ vector (width_of k) (aligned k (new % 4096)) k ∷ []
unfolding vector_lines
vector_one k old new h = simp (ne_eqb _ _ h)

pub no_vector_text : (k old new : ℕ) → old % 4096 ≡ new % 4096 → text (vector_lines 1 k old new) ≡ []
unfolding text vector_lines
no_vector_text k old new h = simp (eq-eqb _ _ h)

-- ---- texts one after the other

pub text_append : (xs ys : List Line) → text (xs ++ ys) ≡ text xs ++ text ys
unfolding text
text_append [] ys = refl
text_append (x ∷ xs) ys = ap (λ (l : List ℕ). line_bytes x ++ (10 ∷ l)) (text_append xs ys) ∙ sym (append_assoc (line_bytes x) (10 ∷ text xs) (text ys))

pub wrote_lines : {room : List ℕ} {i : ℕ} (xs ys : List Line) {mid left : List ℕ} {m r : ℕ} → Wrote room i (text xs) mid m → Wrote mid m (text ys) left r → Wrote room i (text (xs ++ ys)) left r
wrote_lines {room} {i} xs ys {mid} {left} {m} {r} a b = rw (text_append xs ys) (wrote_then a b)

pub wrote_same : {room : List ℕ} {i : ℕ} {xs ys left : List ℕ} {r : ℕ} → xs ≡ ys → Wrote room i xs left r → Wrote room i ys left r
wrote_same e w = rw (sym e) w

-- ---- levels

pick_append : {A : Type 0} (b : Bool) (xs ys zs : List A) → pick b (xs ++ zs) (ys ++ zs) ≡ pick b xs ys ++ zs
pick_append true xs ys zs = refl
pick_append false xs ys zs = refl

level_first : (n k old new : ℕ) → level_lines (suc n) k old new ≡ level_lines 1 k old new ++ level_lines n (k + 1) (old / 2) (new / 2)
unfolding level_lines
level_first n k old new = pick_append (eqb (old % 2) (new % 2)) [] (level (eqb (new % 2) 1) k ∷ []) (level_lines n (k + 1) (old / 2) (new / 2))

change_length : (b high : Bool) (k : ℕ) → length (text (pick b [] (level high k ∷ []))) ≤ 3
unfolding text line_bytes
change_length true high k = omega arith
change_length false high k = omega arith

pub level_length : (k old new : ℕ) → length (text (level_lines 1 k old new)) ≤ 3
unfolding level_lines
level_length k old new = change_length (eqb (old % 2) (new % 2)) (eqb (new % 2) 1) k

-- k levels are written
pub record Levels (room₀ : List ℕ) (from old new : ℕ) (room : List ℕ) (i o n k : ℕ) : Type 0 where
  pub size : length room ≡ length room₀
  pub most : k ≤ 10
  pub place : i ≤ from + 3 * k
  pub rest : (left : List ℕ) (r : ℕ) → Wrote room i (text (level_lines (10 - k) k o n)) left r → Wrote room₀ from (text (level_lines 10 0 old new)) left r

pub levels_begin : (room : List ℕ) (from old new : ℕ) → Levels room from old new room from old new 0
levels_begin room from old new = record { size = refl; most = omega arith; place = omega arith; rest = λ left r w. w }

pub levels_more : {room₀ : List ℕ} {from old new : ℕ} {room : List ℕ} {i o n k : ℕ} {next : List ℕ} {j : ℕ} → Levels room₀ from old new room i o n k → k < 10 → Wrote room i (text (level_lines 1 k o n)) next j
    → Levels room₀ from old new next j (o / 2) (n / 2) (k + 1)
levels_more {room₀} {from} {old} {new} {room} {i} {o} {n} {k} {next} {j} l h w =
    let z : 10 - k ≡ suc (10 - (k + 1)) = omega arith in
    let most = level_length k o n in
    record {
      size = wrote_size w ∙ l.size;
      most = omega arith;
      place = omega (arith, l.place, w.to);
      rest = λ left r v. l.rest left r (rw (z, level_first (10 - (k + 1)) k o n) (wrote_lines (level_lines 1 k o n) (level_lines (10 - (k + 1)) (k + 1) (o / 2) (n / 2)) w v));
    }

pub levels_end : {room₀ : List ℕ} {from old new : ℕ} {room : List ℕ} {i o n k : ℕ} → Levels room₀ from old new room i o n k → 10 ≤ k → Wrote room₀ from (text (level_lines 10 0 old new)) room i
unfolding text level_lines
levels_end {room₀} {from} {old} {new} {room} {i} {o} {n} {k} l h = let z : 10 - k ≡ 0 = omega arith in l.rest room i (rw z (wrote_none room i))

-- ---- vectors

width_by : (a b : Bool) → pick a 8 (pick b 12 3) ≤ 12
width_by true b = omega arith
width_by false true = omega arith
width_by false false = omega arith

pub width_most : (k : ℕ) → width_of k ≤ 12
unfolding width_of
width_most k = width_by (ltb k 3) (ltb k 5)

vector_size : (n v k : ℕ) → n ≤ 12 → length (text (vector n v k ∷ [])) ≤ 16
vector_size n v k h = rw (vector_text n v k) (simp length-append (omega (arith, binary_length n v)))

vector_first : (n k old new : ℕ) → vector_lines (suc n) k old new ≡ vector_lines 1 k old new ++ vector_lines n (k + 1) (old / 4096) (new / 4096)
unfolding vector_lines
vector_first n k old new = pick_append (eqb (old % 4096) (new % 4096)) [] (vector (width_of k) (aligned k (new % 4096)) k ∷ []) (vector_lines n (k + 1) (old / 4096) (new / 4096))

vector_by : (b : Bool) (n v k : ℕ) → n ≤ 12 → length (text (pick b [] (vector n v k ∷ []))) ≤ 16
vector_by true n v k h = unfold text in omega arith
vector_by false n v k h = vector_size n v k h

pub vector_length : (k old new : ℕ) → length (text (vector_lines 1 k old new)) ≤ 16
unfolding vector_lines
vector_length k old new = vector_by (eqb (old % 4096) (new % 4096)) (width_of k) _ k (width_most k)

-- k vectors are written
pub record Vectors (room₀ : List ℕ) (from old new : ℕ) (room : List ℕ) (i o n k : ℕ) : Type 0 where
  pub size : length room ≡ length room₀
  pub most : k ≤ 6
  pub place : i ≤ from + 16 * k
  pub rest : (left : List ℕ) (r : ℕ) → Wrote room i (text (vector_lines (6 - k) k o n)) left r → Wrote room₀ from (text (vector_lines 6 0 old new)) left r

pub vectors_begin : (room : List ℕ) (from old new : ℕ) → Vectors room from old new room from old new 0
vectors_begin room from old new = record { size = refl; most = omega arith; place = omega arith; rest = λ left r w. w }

pub vectors_more : {room₀ : List ℕ} {from old new : ℕ} {room : List ℕ} {i o n k : ℕ} {next : List ℕ} {j : ℕ} → Vectors room₀ from old new room i o n k → k < 6 → Wrote room i (text (vector_lines 1 k o n)) next j
    → Vectors room₀ from old new next j (o / 4096) (n / 4096) (k + 1)
vectors_more {room₀} {from} {old} {new} {room} {i} {o} {n} {k} {next} {j} l h w =
    let z : 6 - k ≡ suc (6 - (k + 1)) = omega arith in
    let most = vector_length k o n in
    record {
      size = wrote_size w ∙ l.size;
      most = omega arith;
      place = omega (arith, l.place, w.to);
      rest = λ left r v. l.rest left r (rw (z, vector_first (6 - (k + 1)) k o n) (wrote_lines (vector_lines 1 k o n) (vector_lines (6 - (k + 1)) (k + 1) (o / 4096) (n / 4096)) w v));
    }

pub vectors_end : {room₀ : List ℕ} {from old new : ℕ} {room : List ℕ} {i o n k : ℕ} → Vectors room₀ from old new room i o n k → 6 ≤ k → Wrote room₀ from (text (vector_lines 6 0 old new)) room i
unfolding text vector_lines
vectors_end {room₀} {from} {old} {new} {room} {i} {o} {n} {k} l h = let z : 6 - k ≡ 0 = omega arith in l.rest room i (rw z (wrote_none room i))

-- ---- lengths

pub time_length : (t : ℕ) → length (text (time t ∷ [])) ≤ 22
time_length t = rw (time_text t) (simp length-append (omega (arith, digits_length 19 t)))

pin_by : (b high : Bool) (p : ℕ) → length (text (pick b (pin high p ∷ []) [])) ≤ 3
unfolding text line_bytes
pin_by true high p = omega arith
pin_by false high p = omega arith

pub pin_length : (word : ℕ) → length (text (pin_lines word)) ≤ 3
unfolding pin_lines
pin_length word = pin_by (is_pin word) (eqb (word % 256) 1) (word / 256 - 196608)

levels_by : (n k old new : ℕ) → length (text (level_lines n k old new)) ≤ 3 * n
unfolding text level_lines
levels_by zero k old new = omega arith
levels_by (suc n) k old new =
    rw (level_first n k old new, text_append (level_lines 1 k old new))
    (simp length-append (omega (arith, level_length k old new, levels_by n (k + 1) (old / 2) (new / 2))))

pub levels_length : (old new : ℕ) → length (text (level_lines 10 0 old new)) ≤ 30
levels_length old new = omega (arith, levels_by 10 0 old new)

vectors_by : (n k old new : ℕ) → length (text (vector_lines n k old new)) ≤ 16 * n
unfolding text vector_lines
vectors_by zero k old new = omega arith
vectors_by (suc n) k old new =
    rw (vector_first n k old new, text_append (vector_lines 1 k old new))
    (simp length-append (omega (arith, vector_length k old new, vectors_by n (k + 1) (old / 4096) (new / 4096))))

change_size : (t word : ℕ) (old new : Watch) → length (text (change_lines t word old new)) ≤ 151
change_size t word old new =
    rw (text_append (time t ∷ []) (pin_lines word ++ watch_lines old new), text_append (pin_lines word), text_append (level_lines 10 0 old.levels new.levels))
    (simp length-append (omega (arith, time_length t, pin_length word, levels_by 10 0 old.levels new.levels, vectors_by 6 0 old.vectors new.vectors)))

either_length : (p q : Bool) (t word : ℕ) (old new : Watch) → length (text (pick p (change_lines t word old new) (pick q [] (change_lines t word old new)))) ≤ 151
unfolding text
either_length true q t word old new = change_size t word old new
either_length false true t word old new = omega arith
either_length false false t word old new = change_size t word old new

pub event_length : (w : Writer) (word : ℕ) (watch : Watch) → length (text (event_lines w word watch)) ≤ 151
unfolding event_lines
event_length w word watch = either_length (is_pin word) (same_watch w.watch watch) (time_of (moved w word watch)) word w.watch watch

-- ---- a word

module _ (w : Writer) (word : ℕ) (watch : Watch) where
  pub event_pin : is_pin word ≡ true → event_lines w word watch ≡ change_lines (time_of (moved w word watch)) word w.watch watch
  unfolding event_lines
  event_pin e = simp e

  pub event_quiet : is_pin word ≡ false → same_watch w.watch watch ≡ true → text (event_lines w word watch) ≡ []
  unfolding event_lines text
  event_quiet e h = simp (e, h)

  pub event_watch : is_pin word ≡ false → same_watch w.watch watch ≡ false → event_lines w word watch ≡ change_lines (time_of (moved w word watch)) word w.watch watch
  unfolding event_lines
  event_watch e h = simp (e, h)

-- ---- room

fits_by : (a b : Bool) (places from size : ℕ) → ltb places size ≡ a → ltb (places - size) from ≡ b → pick a false (pick b false true) ≡ true → from + size ≤ places
fits_by true b places from size x y e = absurd (let o : ◌≡◌ {A = ℕ} 0 1 = cc in omega arith)
fits_by false true places from size x y e = absurd (let o : ◌≡◌ {A = ℕ} 0 1 = cc in omega arith)
fits_by false false places from size x y e =
    let enough = ltb-false places size x in
    let after = ltb-false (places - size) from y in
    omega arith

pub fits_room : (places from size : ℕ) → fits places from size ≡ true → from + size ≤ places
unfolding fits
fits_room places from size e = fits_by (ltb places size) (ltb (places - size) from) places from size refl refl e

module _ (room : List ℕ) (from : ℕ) (w : Writer) where
  pub end_room_lem : fits (length room) from 22 ≡ true → end_bytes room from w ≡ text (end_lines w)
  unfolding end_bytes
  end_room_lem e = simp e

  pub end_none : fits (length room) from 22 ≡ false → end_bytes room from w ≡ []
  unfolding end_bytes
  end_none e = simp e

  module _ (word : ℕ) (watch : Watch) where
    pub event_room_lem : fits (length room) from 151 ≡ true → event_bytes room from w word watch ≡ text (event_lines w word watch)
    unfolding event_bytes
    event_room_lem e = simp e

    pub event_none : fits (length room) from 151 ≡ false → event_bytes room from w word watch ≡ []
    unfolding event_bytes
    event_none e = simp e

    pub moved_room : fits (length room) from 151 ≡ true → moved_by room from w word watch ≡ moved w word watch
    unfolding moved_by
    moved_room e = simp e

    pub moved_none : fits (length room) from 151 ≡ false → moved_by room from w word watch ≡ w
    unfolding moved_by
    moved_none e = simp e

module _ (room : List ℕ) (pins : ℕ) (watch : Watch) where
  pub begin_room_lem : fits (length room) 0 753 ≡ true → begin_bytes room pins watch ≡ header_text ++ (10 ∷ text (begin_lines pins watch))
  unfolding begin_bytes
  begin_room_lem e = simp e

  pub begin_none : fits (length room) 0 753 ≡ false → begin_bytes room pins watch ≡ []
  unfolding begin_bytes
  begin_none e = simp e

-- ---- the beginning

header_size : length (header_text ++ (10 ∷ [])) ≡ 585
unfolding header_text
header_size = refl

copied : (src room left : List ℕ) → length src ≤ length room → left ≡ take (length src) src ++ drop (length src) room → Wrote room 0 src left (length src)
copied src room left h e =
    let z : 0 + length src ≡ length src = omega arith in
    record { same = e ∙ rw (take-length src) (sym (sets-eq src room 0 (omega arith) ∙ rw z refl)); to = sym z }

begin_text_lem : (ls : List Line) → header_text ++ (10 ∷ text ls) ≡ (header_text ++ (10 ∷ [])) ++ text ls
begin_text_lem ls = sym (append_assoc header_text (10 ∷ []) (text ls))

pub begin_wrote : (ls : List Line) (room src mid : List ℕ) {left : List ℕ} {r : ℕ} → 585 ≤ length room → src ≡ header_text ++ (10 ∷ []) → mid ≡ take (length src) src ++ drop (length src) room
    → Wrote mid 585 (text ls) left r → Wrote room 0 (header_text ++ (10 ∷ text ls)) left r
begin_wrote ls room src mid {left} {r} h e f a =
    let size : length src ≡ 585 = rw e header_size in
    rw (begin_text_lem ls, ← e) (wrote_then (rw size at (copied src room mid (omega arith) f)) a)

pub begin_joined : (pins : ℕ) (watch : Watch) {room a b c left : List ℕ} {i j k l m : ℕ} → Wrote room i (text (time 0 ∷ [])) a j → Wrote a j (text (first_lines pins)) b k
    → Wrote b k (text (level_lines 10 0 (opposite watch).levels watch.levels)) c l → Wrote c l (text (vector_lines 6 0 (opposite watch).vectors watch.vectors)) left m
    → Wrote room i (text (begin_lines pins watch)) left m
unfolding begin_lines
begin_joined pins watch t f l v =
    wrote_lines (time 0 ∷ []) (first_lines pins ++ watch_lines (opposite watch) watch) t
    (wrote_lines (first_lines pins) (watch_lines (opposite watch) watch) f
    (wrote_lines (level_lines 10 0 (opposite watch).levels watch.levels) (vector_lines 6 0 (opposite watch).vectors watch.vectors) l v))

-- ---- the first levels of pins

pub wrote_five : (room : List ℕ) (i a b d e f : ℕ) → Wrote room i (a ∷ b ∷ d ∷ e ∷ f ∷ []) (set (set (set (set (set room i a) (i + 1) b) (i + 2) d) (i + 3) e) (i + 4) f) (i + 5)
wrote_five room i a b d e f = record { same = rw (add-one, add-two, add-three, add-four) refl; to = refl }

pub first_text : (high : Bool) (p : ℕ) → text (first high p ∷ []) ≡ 98 ∷ (48 + num high) ∷ 32 ∷ (73 + p) ∷ 10 ∷ []
unfolding text line_bytes
first_text high p = refl

pub first_length : (high : Bool) (p : ℕ) → length (text (first high p ∷ [])) ≡ 5
unfolding text line_bytes
first_length high p = refl

pub first_wrote : (pins : ℕ) {room a b d left : List ℕ} {i j k l m : ℕ} → Wrote room i (text (first (eqb (pins % 2) 1) 24 ∷ [])) a j → Wrote a j (text (first (eqb (pins / 2 % 2) 1) 25 ∷ [])) b k
    → Wrote b k (text (first (eqb (pins / 4 % 2) 1) 26 ∷ [])) d l → Wrote d l (text (first (eqb (pins / 8 % 2) 1) 27 ∷ [])) left m → Wrote room i (text (first_lines pins)) left m
unfolding first_lines
first_wrote pins w x y z = wrote_lines (first (eqb (pins % 2) 1) 24 ∷ []) _ w (wrote_lines (first (eqb (pins / 2 % 2) 1) 25 ∷ []) _ x (wrote_lines (first (eqb (pins / 4 % 2) 1) 26 ∷ []) (first (eqb (pins / 8 % 2) 1) 27 ∷ []) y z))

pub first_size : (pins : ℕ) → length (text (first_lines pins)) ≡ 20
unfolding first_lines text line_bytes
first_size pins = refl

-- ---- what is written is within its places

begin_length : (pins : ℕ) (watch : Watch) → length (header_text ++ (10 ∷ text (begin_lines pins watch))) ≤ 753
unfolding begin_lines
begin_length pins watch =
    rw (begin_text_lem (time 0 ∷ (first_lines pins ++ watch_lines (opposite watch) watch)), text_append (time 0 ∷ []) (first_lines pins ++ watch_lines (opposite watch) watch), text_append (first_lines pins), text_append (level_lines 10 0 (opposite watch).levels watch.levels))
    (simp length-append (omega (arith, header_size, length-append header_text (10 ∷ []), time_length 0, first_size pins, levels_by 10 0 (opposite watch).levels watch.levels, vectors_by 6 0 (opposite watch).vectors watch.vectors)))

begin_by : (b : Bool) (places : ℕ) (bytes : List ℕ) → fits places 0 753 ≡ b → length bytes ≤ 753 → length (pick b bytes []) ≤ places
begin_by true places bytes e h = omega (arith, fits_room places 0 753 e)
begin_by false places bytes e h = omega arith

pub begin_within : (room : List ℕ) (pins : ℕ) (watch : Watch) → length (begin_bytes room pins watch) ≤ length room
unfolding begin_bytes
begin_within room pins watch = begin_by (fits (length room) 0 753) (length room) _ refl (begin_length pins watch)

end_by : (b : Bool) (places : ℕ) (bytes : List ℕ) → fits places 0 22 ≡ b → length bytes ≤ 22 → length (pick b bytes []) ≤ places
end_by true places bytes e h = omega (arith, fits_room places 0 22 e)
end_by false places bytes e h = omega arith

pub end_within : (room : List ℕ) (w : Writer) → length (end_bytes room 0 w) ≤ length room
unfolding end_bytes
end_within room w = end_by (fits (length room) 0 22) (length room) _ refl (time_length (time_of w))
