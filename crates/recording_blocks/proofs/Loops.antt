-- What the loops of the reader and the writer have done after some turns.
-- Assumes nothing.
use mathlib.Core.Path.{◌≡◌, refl, sym, ap, ap₂, ◌∙◌}
use mathlib.Core.Bool.{true, false}
use mathlib.Core.List.{List, [], ◌∷◌, ◌++◌, append_assoc}
use Prim.Native.Nat.{ℕ, zero, suc, ◌+◌, ◌*◌, ◌-◌, ◌<◌, ◌≤◌, min}
use Rattle.std.proofs.Common.{⊎_elim}
use Rattle.std.proofs.lemmas.Bool.{cases_lt}
use native.Mathlib.Omega.{arith}
use native.Mathlib.Numerals.{add-one}
use borrow.Author.Tests.{eq-eqb, ne_eqb}
use lib.ListN.{length, take, drop, get_or, set, replicate, length-append, length-set, length-replicate, take-append-drop, drop_of_length-le}
use lib.Seq.{drop-cons, take-suc, take-suc-set, drop-set-lt, drop-drop, take_all}
use Rattle.recording_blocks.specs.Bytes.{four_bytes, words_bytes, all_zero}
use Rattle.recording_blocks.specs.Block.{padded}
use Rattle.list_laws.proofs.Place.{put_take, put_drop, put_length, drop_later}

-- ---- words that are zero, from one on

pub zero_more : (ws : List ℕ) (i : ℕ) → i < length ws → get_or ws i 0 ≡ 0 → all_zero (drop (i + 1) ws) ≡ all_zero (drop i ws)
unfolding all_zero
zero_more ws i h e = rw (add-one, drop-cons ws i 0 h, eq-eqb (get_or ws i 0) 0 e)

pub zero_ends : (ws : List ℕ) (i : ℕ) → i < length ws → (get_or ws i 0 ≡ 0 → ⊥) → false ≡ all_zero (drop i ws)
unfolding all_zero
zero_ends ws i h e = rw (drop-cons ws i 0 h, ne_eqb (get_or ws i 0) 0 e)

pub zero_all : (ws : List ℕ) (i : ℕ) → length ws ≤ i → true ≡ all_zero (drop i ws)
unfolding all_zero
zero_all ws i h = rw (drop_of_length-le ws {i = i} h)

-- ---- words taken: of the words ws, i stand at the start of the places, which held old

pub record Taken (ws old now : List ℕ) (i : ℕ) : Type 0 where
  pub same : length now ≡ length old
  pub taken : take i now ≡ take i ws
  pub rest : drop i now ≡ drop i old

pub take_more : (ws old now : List ℕ) (i w : ℕ) → Taken ws old now i → i < length ws → i < length old → w ≡ get_or ws i 0 → Taken ws old (set now i w) (i + 1)
take_more ws old now i w d h k e =
    let hn : i < length now = omega (arith, d.same) in
    record {
      same = simp length-set d.same;
      taken = rw (add-one, take-suc-set now i w hn, take-suc ws i 0 h, d.taken, e);
      rest = drop-set-lt (i + 1) now i w (omega arith) ∙ sym (drop-drop 1 i now) ∙ ap (drop 1) d.rest ∙ drop-drop 1 i old;
    }

pub take_all_words : (ws old now : List ℕ) (i n : ℕ) → Taken ws old now i → i ≡ n → now ≡ take n ws ++ drop n old
take_all_words ws old now i n d e =
    sym (take-append-drop n now) ∙ ap₂ (λ (l r : List ℕ). l ++ r) (rw e at d.taken) (rw e at d.rest)

-- as many as fit are all, or as many as there are places
pub as_many : (ws old : List ℕ) (n : ℕ) → n ≡ min (length old) (length ws) → take n ws ++ drop n old ≡ take (length old) ws ++ drop (length ws) old
as_many ws old n e =
    ⊎_elim (λ (h : length ws < length old).
    let k : n ≡ length ws = omega arith in
    ap₂ (λ (l r : List ℕ). l ++ r) (ap (λ (m : ℕ). take m ws) k ∙ take_all (length ws) ws (omega arith) ∙ sym (take_all (length old) ws (omega arith))) (ap (λ (m : ℕ). drop m old) k))
    (λ (h : length old ≤ length ws).
    let k : n ≡ length old = omega arith in
    ap₂ (λ (l r : List ℕ). l ++ r) (ap (λ (m : ℕ). take m ws) k)
    (ap (λ (m : ℕ). drop m old) k ∙ drop_of_length-le old {i = length old} (omega arith) ∙ sym (drop_of_length-le old {i = length ws} h)))
    (cases_lt (length ws) (length old))

-- ---- words put: the bytes of the first i words of ws stand from byte 4 on in the area, which held old

pub bytes_append : (xs ys : List ℕ) → words_bytes (xs ++ ys) ≡ words_bytes xs ++ words_bytes ys
unfolding words_bytes
bytes_append [] ys = refl
bytes_append (x ∷ xs) ys = ap (λ (t : List ℕ). four_bytes x ++ t) (bytes_append xs ys)

pub record Put (ws old now : List ℕ) (i : ℕ) : Type 0 where
  pub within : i ≤ 126
  pub same : length now ≡ length old
  pub written : take (4 + 4 * i) now ≡ take 4 old ++ words_bytes (take i ws)
  pub rest : drop (4 + 4 * i) now ≡ drop (4 + 4 * i) old

pub put_more : (ws old now : List ℕ) (i w : ℕ) → Put ws old now i → i < 126 → length ws ≡ 126 → length old ≡ 512 → w ≡ get_or ws i 0
    → (new : List ℕ) → new ≡ take (4 + 4 * i) now ++ (four_bytes w ++ drop (4 + 4 * i + 4) now) → Put ws old new (i + 1)
unfolding words_bytes
put_more ws old now i w d h n m e new z =
    let at = 4 + 4 * i in
    let l = four_bytes w in
    let next : 4 + 4 * (i + 1) ≡ at + 4 = omega arith in
    let fits : at + 4 ≤ length now = omega (arith, d.same) in
    let front : take (4 + 4 * (i + 1)) new ≡ take at now ++ l = ap₂ take next z ∙ put_take now l at fits in
    let more : words_bytes (take (i + 1) ws) ≡ words_bytes (take i ws) ++ l =
    rw (add-one, take-suc ws i 0 (omega (arith, n)), ← e) (bytes_append (take i ws) (w ∷ [])) in
    record {
      within = omega arith;
      same = ap length z ∙ put_length now l at fits ∙ d.same;
      written =
          front
          ∙ ap (λ (t : List ℕ). t ++ l) d.written
          ∙ append_assoc (take 4 old) (words_bytes (take i ws)) l
          ∙ ap (λ (t : List ℕ). take 4 old ++ t) (sym more);
      rest = ap₂ drop next z ∙ put_drop now l at fits ∙ drop_later now old at 4 d.rest ∙ ap (λ (m : ℕ). drop m old) (sym next);
    }

pub put_all : (ws old now : List ℕ) (i : ℕ) → Put ws old now i → 126 ≤ i → length ws ≡ 126 → now ≡ take 4 old ++ (words_bytes ws ++ drop 508 old)
put_all ws old now i d h n =
    let e : i ≡ 126 = omega (arith, d.within) in
    let x : take 508 now ≡ take 4 old ++ words_bytes ws = (rw e at d.written) ∙ ap (λ (t : List ℕ). take 4 old ++ words_bytes t) (take_all 126 ws (omega (arith, n))) in
    let y : drop 508 now ≡ drop 508 old = rw e at d.rest in
    sym (take-append-drop 508 now) ∙ ap₂ (λ (l r : List ℕ). l ++ r) x y ∙ append_assoc (take 4 old) (words_bytes ws) (drop 508 old)

-- past the words given, the words of a block are zero
zero_past : (n i : ℕ) → ◌≡◌ {A = ℕ} 0 (get_or (replicate n 0) i 0)
zero_past zero i = refl
zero_past (suc n) zero = refl
zero_past (suc n) (suc i) = zero_past n i

filled_at : (ws : List ℕ) (n i : ℕ) → get_or ws i 0 ≡ get_or (ws ++ replicate n 0) i 0
filled_at [] n i = zero_past n i
filled_at (w ∷ ws) n zero = refl
filled_at (w ∷ ws) n (suc i) = filled_at ws n i

pub padded_at : (ws : List ℕ) (i : ℕ) → get_or ws i 0 ≡ get_or (padded ws) i 0
padded_at ws i = filled_at ws (126 - length ws) i

pub length_padded : (ws : List ℕ) → length ws ≤ 126 → length (padded ws) ≡ 126
length_padded ws h = length-append ws (replicate (126 - length ws) 0) ∙ omega (arith, length-replicate {A = ℕ} (126 - length ws) 0)
