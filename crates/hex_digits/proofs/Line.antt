-- The length of a line and of lines, and lines put one behind another.
-- Assumes nothing.
use mathlib.Core.Path.{◌≡◌, refl, sym, ap, ap₂, ◌∙◌}
use mathlib.Core.List.{List, [], ◌∷◌, ◌++◌, append-nil, append_assoc}
use Prim.Native.Nat.{ℕ, ◌+◌, ◌-◌, ◌*◌, ◌/◌, ◌<◌, ◌≤◌, min}
use native.Mathlib.Omega.{arith}
use native.Mathlib.Numerals.{add-one}
use lib.ListN.{length, take, drop, get_or, length-append}
use lib.Seq.{length-take-le, take-suc, take_at, drop_at, drop-drop, take_all}
use Rattle.std.proofs.Common.{⊎_elim}
use Rattle.std.proofs.lemmas.Bool.{cases_lt}
use borrow.Rule.Slice.PartMut.{put_mid}
use Rattle.list_laws.proofs.Place.{put_tail, tail_all}
use Rattle.hex_digits.specs.Hex.{hex_line, hex_lines}

pub length_line : (a : ℕ) → length (hex_line a) ≡ 9
unfolding hex_line
length_line a = refl

pub length_lines : (xs : List ℕ) → length (hex_lines xs) ≡ 9 * length xs
unfolding hex_lines
length_lines [] = refl
length_lines (a ∷ rest) = length-append (hex_line a) (hex_lines rest) ∙ omega (arith, length_line a, length_lines rest)

pub lines_append : (xs ys : List ℕ) → hex_lines (xs ++ ys) ≡ hex_lines xs ++ hex_lines ys
unfolding hex_lines
lines_append [] ys = refl
lines_append (a ∷ rest) ys = ap (λ (t : List ℕ). hex_line a ++ t) (lines_append rest ys) ∙ sym (append_assoc (hex_line a) (hex_lines rest) (hex_lines ys))

-- ---- the lines of the first words over the start of a text

first_length : (xs : List ℕ) (i : ℕ) → i ≤ length xs → length (hex_lines (take i xs)) ≡ 9 * i
first_length xs i h = length_lines (take i xs) ∙ ap (λ (n : ℕ). 9 * n) (length-take-le i xs h)

-- one more
pub line_more : (xs old now : List ℕ) (i : ℕ) → i < length xs → now ≡ hex_lines (take i xs) ++ drop (9 * i) old
    → (new : List ℕ) → new ≡ take (9 * i) now ++ (hex_line (get_or xs i 0) ++ drop (9 * i + 9) now)
    → new ≡ hex_lines (take (i + 1) xs) ++ drop (9 * (i + 1)) old
unfolding hex_lines
line_more xs old now i h e new z =
    let a = get_or xs i 0 in
    let size : length (hex_lines (take i xs)) ≡ 9 * i = first_length xs i (omega arith) in
    let front : take (9 * i) now ≡ hex_lines (take i xs) = ap (take (9 * i)) e ∙ take_at (hex_lines (take i xs)) (drop (9 * i) old) (9 * i) size in
    let next : 9 + 9 * i ≡ 9 * (i + 1) = omega arith in
    let rest : drop (9 * i + 9) now ≡ drop (9 * (i + 1)) old =
    sym (drop-drop 9 (9 * i) now)
    ∙ ap (λ (t : List ℕ). drop 9 t) (ap (drop (9 * i)) e ∙ drop_at (hex_lines (take i xs)) (drop (9 * i) old) (9 * i) size)
    ∙ drop-drop 9 (9 * i) old
    ∙ ap (λ (n : ℕ). drop n old) (omega arith) in
    let lines : hex_lines (take i xs) ++ hex_line a ≡ hex_lines (take (i + 1) xs) =
    ap (λ (t : List ℕ). hex_lines (take i xs) ++ t) (sym (append-nil (hex_line a)))
    ∙ sym (lines_append (take i xs) (a ∷ []))
    ∙ ap hex_lines (rw (add-one, take-suc xs i 0 h)) in
    z
    ∙ ap₂ (λ (l r : List ℕ). l ++ (hex_line a ++ r)) front rest
    ∙ sym (append_assoc (hex_lines (take i xs)) (hex_line a) (drop (9 * (i + 1)) old))
    ∙ ap (λ (t : List ℕ). t ++ drop (9 * (i + 1)) old) lines

-- as many as fit
pub lines_fit : (xs old : List ℕ) (n i : ℕ) → n ≡ min (length xs) (length old / 9) → i ≡ n
    → hex_lines (take i (take n xs)) ++ drop (9 * i) old
    ≡ hex_lines (take (length old / 9) xs) ++ drop (length (hex_lines (take (length old / 9) xs))) old
lines_fit xs old n i e k =
    let within : n ≤ length xs = omega arith in
    let same : take n xs ≡ take (length old / 9) xs =
    ⊎_elim (λ (h : length xs < length old / 9). take_all n xs (omega arith) ∙ sym (take_all (length old / 9) xs (omega arith)))
    (λ (h : length old / 9 ≤ length xs). ap (λ (m : ℕ). take m xs) (omega arith))
    (cases_lt (length xs) (length old / 9)) in
    let twice : take i (take n xs) ≡ take n xs = take_all i (take n xs) (omega (arith, length-take-le n xs within)) in
    let size : 9 * i ≡ length (hex_lines (take n xs)) = omega (arith, first_length xs n within) in
    ap₂ (λ (t : List ℕ) (m : ℕ). hex_lines t ++ drop m old) twice size
    ∙ ap (λ (t : List ℕ). hex_lines t ++ drop (length (hex_lines t)) old) same

-- all fit
pub all_fit : (xs old : List ℕ) → 9 * length xs ≤ length old
    → hex_lines (take (length old / 9) xs) ++ drop (length (hex_lines (take (length old / 9) xs))) old ≡ hex_lines xs ++ drop (9 * length xs) old
all_fit xs old h =
    ap (λ (t : List ℕ). hex_lines t ++ drop (length (hex_lines t)) old) (take_all (length old / 9) xs (omega arith))
    ∙ ap (λ (m : ℕ). hex_lines xs ++ drop m old) (length_lines xs)

-- a line put behind what stands before an index
pub line_put : (now l : List ℕ) (at a : ℕ) → l ≡ hex_lines (a ∷ []) ++ drop 9 (take (length now - at) (drop at now))
    → put_mid at (length now - at) now l ≡ take at now ++ (hex_line a ++ drop (at + 9) now)
unfolding hex_lines
line_put now l at a e =
    put_tail now l at
    ∙ ap (λ (t : List ℕ). take at now ++ t)
    (e ∙ ap₂ (λ (x y : List ℕ). x ++ drop 9 y) (append-nil (hex_line a)) (tail_all now at) ∙ ap (λ (t : List ℕ). hex_line a ++ t) (drop-drop 9 at now))
