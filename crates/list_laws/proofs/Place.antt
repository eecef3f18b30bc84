-- A list with a part of it replaced.
-- Assumes nothing.
use mathlib.Core.Path.{◌≡◌, sym, ap, ◌∙◌}
use mathlib.Core.List.{List, [], ◌++◌, append-nil, append_assoc}
use Prim.Native.Nat.{ℕ, ◌+◌, ◌-◌, ◌<◌, ◌≤◌, min}
use Rattle.std.proofs.Common.{⊎_elim}
use Rattle.std.proofs.lemmas.Bool.{cases_lt}
use Rattle.std.proofs.lemmas.List.{nil_from_length}
use native.Mathlib.Omega.{arith}
use lib.ListN.{length, take, drop, length-append, length-drop, drop_of_length-le}
use lib.Seq.{take_all, drop-drop, take_at, drop_at, length-take-le}
use borrow.Rule.Slice.PartMut.{put_mid, mid_of, post_of}

-- the part l put at an index
abbrev pub put : List ℕ → ℕ → List ℕ → List ℕ
put old at l = take at old ++ (l ++ drop (at + length l) old)

-- a copy over the start of the tail from an index on puts l there
pub placed : (old l : List ℕ) (at : ℕ) → at + length l ≤ length old
    → put_mid at (length old - at) old (take (length l) l ++ drop (length l) (mid_of at (length old - at) old)) ≡ put old at l
placed old l at h =
    let mid : mid_of at (length old - at) old ≡ drop at old = take_all (length old - at) (drop at old) (omega (arith, length-drop at old)) in
    let post : post_of at (length old - at) old ≡ [] = drop_of_length-le (drop at old) {i = length old - at} (omega (arith, length-drop at old)) in
    ap (λ (r : List ℕ). take at old ++ (take (length l) l ++ drop (length l) r ++ post_of at (length old - at) old)) mid
    ∙ ap (λ (r : List ℕ). take at old ++ (take (length l) l ++ drop (length l) (drop at old) ++ r)) post
    ∙ ap (λ (r : List ℕ). take at old ++ r) (append-nil (take (length l) l ++ drop (length l) (drop at old)))
    ∙ ap (λ (r : List ℕ). take at old ++ (r ++ drop (length l) (drop at old))) (take_all (length l) l (omega arith))
    ∙ ap (λ (r : List ℕ). take at old ++ (l ++ r)) (drop-drop (length l) at old)

-- and where l is a list of a known length, that list
pub placed_as : (old l m : List ℕ) (at n : ℕ) → l ≡ m → length m ≡ n → at + n ≤ length old
    → put_mid at (length old - at) old (take (length l) l ++ drop (length l) (mid_of at (length old - at) old)) ≡ take at old ++ (m ++ drop (at + n) old)
placed_as old l m at n e s h =
    placed old l at (omega (arith, ap length e, s))
    ∙ ap (put old at) e
    ∙ ap (λ (k : ℕ). take at old ++ (m ++ drop (at + k) old)) s

-- a part up to the end put anew
pub put_tail : (old l : List ℕ) (at : ℕ) → put_mid at (length old - at) old l ≡ take at old ++ l
put_tail old l at =
    ap (λ (r : List ℕ). take at old ++ (l ++ r)) (drop_of_length-le (drop at old) {i = length old - at} (omega (arith, length-drop at old)))
    ∙ ap (λ (r : List ℕ). take at old ++ r) (append-nil l)

-- and read
pub tail_all : (old : List ℕ) (at : ℕ) → take (length old - at) (drop at old) ≡ drop at old
tail_all old at = take_all (length old - at) (drop at old) (omega (arith, length-drop at old))

module _ (old l : List ℕ) (at : ℕ) (h : at + length l ≤ length old) where
  front : length (take at old ++ l) ≡ at + length l
  front = length-append (take at old) l ∙ ap (λ (k : ℕ). k + length l) (length-take-le at old (omega arith))

  apart : put old at l ≡ (take at old ++ l) ++ drop (at + length l) old
  apart = sym (append_assoc (take at old) l (drop (at + length l) old))

  pub put_take : take (at + length l) (put old at l) ≡ take at old ++ l
  put_take = ap (take (at + length l)) apart ∙ take_at (take at old ++ l) (drop (at + length l) old) (at + length l) front

  pub put_drop : drop (at + length l) (put old at l) ≡ drop (at + length l) old
  put_drop = ap (drop (at + length l)) apart ∙ drop_at (take at old ++ l) (drop (at + length l) old) (at + length l) front

  pub put_length : length (put old at l) ≡ length old
  put_length = ap length apart ∙ length-append (take at old ++ l) (drop (at + length l) old) ∙ omega (arith, front, length-drop (at + length l) old)

-- a chunk of n elements, or the last, is the first of what is left
pub chunk_first : (n : ℕ) (rest part more : List ℕ) → rest ≡ part ++ more → length part ≡ min n (length rest) → (part ≡ take n rest) × (more ≡ drop n rest)
chunk_first n rest part more e size =
    ⊎_elim (λ (h : length rest < n).
    let none : more ≡ [] = nil_from_length more (omega (arith, ap length e ∙ length-append part more)) in
    let all : rest ≡ part = e ∙ ap (λ (l : List ℕ). part ++ l) none ∙ append-nil part in
    (sym all ∙ sym (take_all n rest (omega arith)), none ∙ sym (drop_of_length-le rest {i = n} (omega arith))))
    (λ (h : n ≤ length rest).
    let full : length part ≡ n = omega arith in
    (sym (ap (take n) e ∙ take_at part more n full), sym (ap (drop n) e ∙ drop_at part more n full)))
    (cases_lt (length rest) n)

-- what is equal from an index on is equal from a later one on
pub drop_later : (a b : List ℕ) (at n : ℕ) → drop at a ≡ drop at b → drop (at + n) a ≡ drop (at + n) b
drop_later a b at n e = sym (drop-drop n at a) ∙ ap (drop n) e ∙ drop-drop n at b
