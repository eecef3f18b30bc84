-- The line that is put together holds its text.
-- Assumes nothing.
use Prim.Native.Nat.{ℕ, zero, suc, ◌+◌, ◌*◌, ◌/◌, ◌%◌, ◌≤◌, ◌<◌}
use mathlib.Core.Path.{◌≡◌, refl, ap, ◌∙◌}
use mathlib.Core.Bool.{Bool, true, false}
use mathlib.Core.List.{List, [], ◌∷◌, ◌++◌, append_assoc, append-nil}
use native.Mathlib.Omega.{arith}
use native.Mathlib.Numerals.{add-one}
use lib.Dec.{ltb}
use lib.ListN.{length, set, length-set, length-replicate}
use lib.Seq.{take-suc-set}
use borrow.Author.Tests.{lt-ltb, ltb-true}
use Rattle.bits.specs.Byte.{pick}
use Rattle.counters6862_lines.specs.declared.Text.{Text}
use Rattle.counters6862_lines.specs.Text.{decimal_to, decimal, spaced, line_text, held, empty, pushed, digits_to, number_to, line_to}

-- a text holds these bytes, at most m of them, with room for 96
pub record Holds (t : Text) (xs : List ℕ) (m : ℕ) : Type 0 where
  pub same : held t ≡ xs
  pub room : length t.bytes ≡ 96
  pub most : t.count ≤ m

empty_holds : Holds empty [] 0
unfolding empty
empty_holds = record { same = refl; room = length-replicate {A = ℕ} 96 0; most = omega arith }

-- a byte more
pushed_record : (t : Text) (b : ℕ) → t.count < 96 → pushed t b ≡ record { bytes = set t.bytes t.count b; count = t.count + 1 }
unfolding pushed
pushed_record t b h = rw (lt-ltb t.count 96 h)

push_holds : (t : Text) (xs : List ℕ) (m b : ℕ) → m < 96 → Holds t xs m → Holds (pushed t b) (xs ++ (b ∷ [])) (m + 1)
push_holds t xs m b h k =
    let below : t.count < 96 = omega (arith, k.most) in
    rw (pushed_record t b below)
    (record {
      same = rw (add-one t.count) (take-suc-set t.bytes t.count b (omega (arith, k.room)) ∙ ap (λ (l : List ℕ). l ++ (b ∷ [])) k.same);
      room = simp length-set k.room;
      most = omega (arith, k.most);
    })

weaker : (t : Text) (xs : List ℕ) (m n : ℕ) → m ≤ n → Holds t xs m → Holds t xs n
weaker t xs m n h k = record { same = k.same; room = k.room; most = omega (arith, k.most) }

-- the digits of a number
digits_by : (below : Bool) (t u : Text) (xs ys : List ℕ) (m k d : ℕ) → m + suc k < 96 → Holds t xs m → Holds u (xs ++ ys) (m + suc k)
    → Holds (pick below (pushed t d) (pushed u d)) (xs ++ pick below (d ∷ []) (ys ++ (d ∷ []))) (m + suc (suc k))
digits_by true t u xs ys m k d h p q = weaker (pushed t d) (xs ++ (d ∷ [])) (m + 1) (m + suc (suc k)) (omega arith) (push_holds t xs m d (omega arith) p)
digits_by false t u xs ys m k d h p q =
    rw (← (append_assoc xs ys (d ∷ [])))
    (weaker (pushed u d) ((xs ++ ys) ++ (d ∷ [])) (m + suc k + 1) (m + suc (suc k)) (omega arith) (push_holds u (xs ++ ys) (m + suc k) d h q))

digits_hold : (k : ℕ) (t : Text) (xs : List ℕ) (m n : ℕ) → m + k < 96 → Holds t xs m → Holds (digits_to k t n) (xs ++ decimal_to k n) (m + suc k)
unfolding digits_to decimal_to
digits_hold zero t xs m n h p = weaker (pushed t (48 + n % 10)) (xs ++ ((48 + n % 10) ∷ [])) (m + 1) (m + suc zero) (omega arith) (push_holds t xs m (48 + n % 10) (omega arith) p)
digits_hold (suc k) t xs m n h p =
    digits_by (ltb n 10) t (digits_to k t (n / 10)) xs (decimal_to k (n / 10)) m k (48 + n % 10) (omega arith) p (digits_hold k t xs m (n / 10) (omega arith) p)

-- a blank and a number
number_holds : (t : Text) (xs : List ℕ) (m n : ℕ) → m + 6 ≤ 96 → Holds t xs m → Holds (number_to t n) (xs ++ (32 ∷ decimal n)) (m + 6)
number_holds t xs m n h p =
    rw (← (append_assoc xs (32 ∷ []) (decimal n)))
    (weaker (digits_to 4 (pushed t 32) n) ((xs ++ (32 ∷ [])) ++ decimal_to 4 n) (m + 1 + suc 4) (m + 6) (omega arith)
    (digits_hold 4 (pushed t 32) (xs ++ (32 ∷ [])) (m + 1) n (omega arith) (push_holds t xs m 32 (omega arith) p)))

-- number after number
numbers_to : Text → List ℕ → Text
numbers_to t [] = t
numbers_to t (x ∷ xs) = numbers_to (number_to t x) xs

numbers_hold : (ys : List ℕ) (t : Text) (xs : List ℕ) (m : ℕ) → m + 6 * length ys ≤ 96 → Holds t xs m → Holds (numbers_to t ys) (xs ++ spaced ys) (m + 6 * length ys)
unfolding numbers_to spaced
numbers_hold [] t xs m h p = rw (append-nil xs) (weaker t xs m (m + 6 * zero) (omega arith) p)
numbers_hold (y ∷ ys) t xs m h p =
    rw (← (append_assoc xs (32 ∷ decimal y) (spaced ys)))
    (weaker (numbers_to (number_to t y) ys) ((xs ++ (32 ∷ decimal y)) ++ spaced ys) (m + 6 + 6 * length ys) (m + 6 * suc (length ys)) (omega arith)
    (numbers_hold ys (number_to t y) (xs ++ (32 ∷ decimal y)) (m + 6) (omega arith) (number_holds t xs m y (omega arith) p)))

-- the whole line, whatever the numbers, holds its text, of 77 bytes at most
line_holds : (number a b c d e f g h i j k l : ℕ) → Holds (line_to number (a ∷ b ∷ c ∷ d ∷ e ∷ f ∷ g ∷ h ∷ i ∷ j ∷ k ∷ l ∷ [])) (line_text number (a ∷ b ∷ c ∷ d ∷ e ∷ f ∷ g ∷ h ∷ i ∷ j ∷ k ∷ l ∷ [])) 77
unfolding line_to line_text numbers_to
line_holds number a b c d e f g h i j k l =
    numbers_hold (a ∷ b ∷ c ∷ d ∷ e ∷ f ∷ g ∷ h ∷ i ∷ j ∷ k ∷ l ∷ []) (digits_to 4 empty number) (decimal number) 5 (omega arith) (digits_hold 4 empty [] 0 number (omega arith) empty_holds)

pub line_held : (number a b c d e f g h i j k l : ℕ) → held (line_to number (a ∷ b ∷ c ∷ d ∷ e ∷ f ∷ g ∷ h ∷ i ∷ j ∷ k ∷ l ∷ [])) ≡ line_text number (a ∷ b ∷ c ∷ d ∷ e ∷ f ∷ g ∷ h ∷ i ∷ j ∷ k ∷ l ∷ [])
line_held number a b c d e f g h i j k l = (line_holds number a b c d e f g h i j k l).same

pub line_fits : (number a b c d e f g h i j k l : ℕ) → (line_to number (a ∷ b ∷ c ∷ d ∷ e ∷ f ∷ g ∷ h ∷ i ∷ j ∷ k ∷ l ∷ [])).count ≤ 77
line_fits number a b c d e f g h i j k l = (line_holds number a b c d e f g h i j k l).most

-- ---- no text is longer than its room

record Room (t : Text) : Type 0 where
  count : t.count ≤ 96
  size : length t.bytes ≡ 96

pushed_by : (below : Bool) (t : Text) (b : ℕ) → ltb t.count 96 ≡ below → Room t → Room (pick below (record { bytes = set t.bytes t.count b; count = t.count + 1 }) t)
pushed_by true t b e h = let less = ltb-true t.count 96 e in record { count = omega arith; size = simp length-set h.size }
pushed_by false t b e h = h

pushed_room : (t : Text) (b : ℕ) → Room t → Room (pushed t b)
unfolding pushed
pushed_room t b h = pushed_by (ltb t.count 96) t b refl h

either_room : (below : Bool) (t u : Text) → Room t → Room u → Room (pick below t u)
either_room true t u h k = h
either_room false t u h k = k

digits_room : (k : ℕ) (t : Text) (n : ℕ) → Room t → Room (digits_to k t n)
unfolding digits_to
digits_room zero t n h = pushed_room t _ h
digits_room (suc k) t n h = either_room (ltb n 10) _ _ (pushed_room t _ h) (pushed_room (digits_to k t (n / 10)) _ (digits_room k t (n / 10) h))

number_room : (t : Text) (n : ℕ) → Room t → Room (number_to t n)
number_room t n h = digits_room 4 (pushed t 32) n (pushed_room t 32 h)

start_room : (number : ℕ) → Room (digits_to 4 empty number)
unfolding empty
start_room number = digits_room 4 empty number (record { count = omega arith; size = length-replicate {A = ℕ} 96 0 })

line_room : (number : ℕ) (n : List ℕ) → Room (line_to number n)
unfolding line_to
line_room number n =
    number_room _ _ (number_room _ _ (number_room _ _ (number_room _ _ (number_room _ _ (number_room _ _
    (number_room _ _ (number_room _ _ (number_room _ _ (number_room _ _ (number_room _ _ (number_room _ _ (start_room number))))))))))))

room_fits : (t : Text) → Room t → t.count ≤ length t.bytes
room_fits t h = omega (arith, h.count, h.size)

-- a text that is the line, with room
pub line_says : (number : ℕ) (n : List ℕ) (t : Text) → t ≡ line_to number n → (t ≡ line_to number n) × (t.count ≤ length t.bytes)
line_says number n t e = (e, rw e (room_fits (line_to number n) (line_room number n)))
