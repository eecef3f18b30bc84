-- Parts put into a buffer one after the other.
-- Assumes nothing.
use mathlib.Core.Path.{◌≡◌, refl, sym, ap, ◌∙◌}
use mathlib.Core.Bool.{Bool, true, false}
use mathlib.Core.List.{List, [], ◌∷◌, ◌++◌, append_assoc, append-nil}
use Prim.Native.Nat.{ℕ, zero, suc, ◌+◌, ◌-◌, ◌*◌, ◌/◌, ◌%◌, ◌<◌, ◌≤◌}
use native.Mathlib.Omega.{arith}
use native.Mathlib.Numerals.{add-one}
use lib.Dec.{eqb, ltb}
use lib.ListN.{length, take, drop, set, get_or, length-append, length-set, take-append-drop, drop_of_length-le}
use lib.Seq.{drop-cons, set_at, length-take-le}
use borrow.Author.Tests.{eq-eqb, ne_eqb, lt-ltb, le-ltb}
use Rattle.bits.specs.Byte.{pick}
use Rattle.bits.proofs.Level.{pick_by}
use Rattle.list_laws.proofs.Place.{put_take, put_drop, put_length, drop_later}
use Rattle.line_tokens.specs.Written.{written, piece, pieces, line_of}
use Rattle.line_text.specs.Line.{Put, size, content, line_size, line_content}

pub put_none : (old : List ℕ) (at : ℕ) → Put old at [] at old
put_none old at = record {
  ends = omega arith;
  stands = let z : at + 0 ≡ at = omega arith in rw z (sym (take-append-drop at old));
}

module _ (old : List ℕ) (at : ℕ) (part : List ℕ) (e : ℕ) (new : List ℕ) (p : Put old at part e new) (x : ℕ) (h : e < length old) where
  front_length : length (take at old ++ part) ≡ e
  front_length =
      length-append (take at old) part
      ∙ ap (λ (k : ℕ). k + length part) (length-take-le at old (omega (arith, p.ends)))
      ∙ sym p.ends

  cut : new ≡ (take at old ++ part) ++ (get_or old e 0 ∷ drop (suc e) old)
  cut =
      p.stands
      ∙ sym (append_assoc (take at old) part (drop (at + length part) old))
      ∙ ap (λ (k : ℕ). (take at old ++ part) ++ drop k old) (sym p.ends)
      ∙ ap (λ (l : List ℕ). (take at old ++ part) ++ l) (drop-cons old e 0 h)

  -- one byte more
  pub put_byte : Put old at (part ++ (x ∷ [])) (e + 1) (set new e x)
  put_byte =
      let n : length (part ++ (x ∷ [])) ≡ length part + 1 = length-append part (x ∷ []) in
      let k : at + length (part ++ (x ∷ [])) ≡ suc e = omega (arith, n, p.ends) in
      record {
        ends = omega arith;
        stands =
            ap (λ (l : List ℕ). set l e x) cut
            ∙ set_at (take at old ++ part) (get_or old e 0) (drop (suc e) old) x e front_length
            ∙ rw (k, append_assoc, append_assoc) refl;
      }

module _ {old : List ℕ} {at : ℕ} {p : List ℕ} {e : ℕ} {mid : List ℕ} {q : List ℕ} {f : ℕ} {new : List ℕ} (a : Put old at p e mid) (b : Put mid e q f new) (h : at + length p ≤ length old) where
  taken : take e mid ≡ take at old ++ p
  taken = rw (a.ends, a.stands) (put_take old p at h)

  kept : drop e mid ≡ drop e old
  kept = rw (a.ends, a.stands) (put_drop old p at h)

  -- a part after a part is one part
  pub put_join : Put old at (p ++ q) f new
  put_join =
      let n : length (p ++ q) ≡ length p + length q = length-append p q in
      let k : e + length q ≡ at + length (p ++ q) = omega (arith, a.ends) in
      record {
        ends = b.ends ∙ k;
        stands =
            b.stands
            ∙ ap (λ (l : List ℕ). l ++ (q ++ drop (e + length q) mid)) taken
            ∙ ap (λ (l : List ℕ). (take at old ++ p) ++ (q ++ l)) (drop_later mid old e (length q) kept)
            ∙ append_assoc (take at old) p (q ++ drop (e + length q) old)
            ∙ ap (λ (l : List ℕ). take at old ++ l) (sym (append_assoc p q (drop (e + length q) old)))
            ∙ ap (λ (m : ℕ). take at old ++ ((p ++ q) ++ drop m old)) k;
      }

pub put_size : {old : List ℕ} {at : ℕ} {p : List ℕ} {e : ℕ} {new : List ℕ} → Put old at p e new → at + length p ≤ length old → length new ≡ length old
put_size {old} {at} {p} {e} {new} u h = rw u.stands (put_length old p at h)

-- ---- a token as it is written

pub written_length : (n v : ℕ) → length (written n v) ≤ n
unfolding written
written_length zero v = omega arith
written_length (suc n) v =
    pick_by (λ (l : List ℕ). length l ≤ suc n) (eqb v 0) (λ _. omega arith)
    (λ _. omega (arith, length-append (written n (v / 256)) (v % 256 ∷ []), written_length n (v / 256)))

written_none : (n v : ℕ) → (n ≡ 0) → written n v ≡ []
unfolding written
written_none n v e = rw e refl

written_zero : (n v : ℕ) → v ≡ 0 → written n v ≡ []
unfolding written
written_zero zero v e = refl
written_zero (suc n) v e = rw e refl

written_one : (n v : ℕ) → (n ≡ 0 → ⊥) → (v ≡ 0 → ⊥) → written n v ≡ written (n - 1) (v / 256) ++ (v % 256 ∷ [])
unfolding written
written_one zero v f g = absurd (f refl)
written_one (suc n) v f g = let e : suc n - 1 ≡ n = omega arith in rw (e, ne_eqb v 0 g) refl

pub put_no_digits : (old : List ℕ) (at n v : ℕ) → n ≡ 0 → Put old at (written n v) at old
put_no_digits old at n v e = rw (written_none n v e) (put_none old at)

pub put_zero : (old : List ℕ) (at n v : ℕ) → v ≡ 0 → Put old at (written n v) at old
put_zero old at n v e = rw (written_zero n v e) (put_none old at)

pub put_one : (old : List ℕ) (at n v e : ℕ) (new : List ℕ) → (n ≡ 0 → ⊥) → (v ≡ 0 → ⊥) → Put old at (written (n - 1) (v / 256)) e new
    → at + n ≤ length old → Put old at (written n v) (e + 1) (set new e (v % 256))
put_one old at n v e new f g p h =
    rw (written_one n v f g)
    (put_byte old at (written (n - 1) (v / 256)) e new p (v % 256) (omega (arith, p.ends, written_length (n - 1) (v / 256))))

-- ---- a token behind a blank

pub piece_none : (old : List ℕ) (at v : ℕ) → v ≡ 0 → Put old at (piece v) at old
unfolding piece
piece_none old at v e = rw e (put_none old at)

pub piece_some : (old : List ℕ) (at v f : ℕ) (new : List ℕ) → (v ≡ 0 → ⊥) → at + 9 ≤ length old → Put (set old at 32) (at + 1) (written 8 v) f new → Put old at (piece v) f new
unfolding piece
piece_some old at v f new g h p =
    rw (ne_eqb v 0 g) (put_join (put_byte old at [] at old (put_none old at) 32 (omega arith)) p (omega arith))

pub piece_length : (v : ℕ) → length (piece v) ≤ 9
unfolding piece
piece_length v = pick_by (λ (l : List ℕ). length l ≤ 9) (eqb v 0) (λ _. omega arith) (λ _. omega (arith, written_length 8 v))

-- ---- one token more

pieces_append : (l m : List ℕ) → pieces (l ++ m) ≡ pieces l ++ pieces m
unfolding pieces
pieces_append [] m = refl
pieces_append (v ∷ rest) m = ap (λ (x : List ℕ). piece v ++ x) (pieces_append rest m) ∙ sym (append_assoc (piece v) (pieces rest) (pieces m))

take_more : (l : List ℕ) (i : ℕ) → i < length l → take (i + 1) l ≡ take i l ++ (get_or l i 0 ∷ [])
take_more [] i h = absurd (omega arith)
take_more (v ∷ rest) zero h = refl
take_more (v ∷ rest) (suc i) h = let z : suc i + 1 ≡ suc (i + 1) = omega arith in rw z (ap (λ (x : List ℕ). v ∷ x) (take_more rest i (omega arith)))

pieces_more : (l : List ℕ) (i : ℕ) → i < length l → pieces (take (i + 1) l) ≡ pieces (take i l) ++ piece (get_or l i 0)
unfolding pieces
pieces_more l i h = ap pieces (take_more l i h) ∙ pieces_append (take i l) (get_or l i 0 ∷ []) ∙ ap (λ (x : List ℕ). pieces (take i l) ++ x) (append-nil (piece (get_or l i 0)))

pub pieces_length : (l : List ℕ) → length (pieces l) ≤ 9 * length l
unfolding pieces
pieces_length [] = omega arith
pieces_length (v ∷ rest) = omega (arith, length-append (piece v) (pieces rest), piece_length v, pieces_length rest)

-- the tokens so far stand in the buffer
pub record Standing (old tokens : List ℕ) (i at : ℕ) (new : List ℕ) : Type 0 where
  pub so_far : i ≤ length tokens
  pub room : at ≤ 9 * i
  pub put : Put old 0 (pieces (take i tokens)) at new

pub standing_first : (old tokens : List ℕ) → Standing old tokens 0 0 old
unfolding pieces
standing_first old tokens = record { so_far = omega arith; room = omega arith; put = put_none old 0 }

pub standing_size : {old tokens : List ℕ} {i at : ℕ} {new : List ℕ} → Standing old tokens i at new → 9 * length tokens ≤ length old → length new ≡ length old
standing_size {old} {tokens} {i} {at} {new} s h = put_size s.put (omega (arith, s.put.ends, s.room, s.so_far))

pub standing_next : {old tokens : List ℕ} {i at : ℕ} {mid : List ℕ} {end : ℕ} {new : List ℕ} → i < length tokens → 9 * length tokens ≤ length old
    → Standing old tokens i at mid → Put mid at (piece (get_or tokens i 0)) end new → Standing old tokens (i + 1) end new
standing_next {old} {tokens} {i} {at} {mid} {end} {new} h k s p = record {
  so_far = omega arith;
  room = omega (arith, p.ends, s.room, piece_length (get_or tokens i 0));
  put = rw (pieces_more tokens i h) (put_join s.put p (omega (arith, s.put.ends, s.room)));
}

take_all : (l : List ℕ) (n : ℕ) → length l ≤ n → take n l ≡ l
take_all [] zero h = refl
take_all [] (suc n) h = refl
take_all (v ∷ rest) zero h = absurd (omega arith)
take_all (v ∷ rest) (suc n) h = ap (λ (x : List ℕ). v ∷ x) (take_all rest n (omega arith))

pub standing_last : {old tokens : List ℕ} {i at : ℕ} {new : List ℕ} → length tokens ≤ i → Standing old tokens i at new → Put old 0 (pieces tokens) at new
standing_last {old} {tokens} {i} {at} {new} h s =
    let e : take i tokens ≡ tokens = take_all tokens i h in
    rw e at s.put

-- ---- the line in the lent buffer

take_nil : (l : List ℕ) → take 0 l ≡ []
take_nil [] = refl
take_nil (v ∷ l) = refl

take_front : (l rest : List ℕ) → take (length l) (l ++ rest) ≡ l
take_front [] rest = take_nil rest
take_front (v ∷ l) rest = ap (λ (x : List ℕ). v ∷ x) (take_front l rest)

drop_size : (l : List ℕ) → length (drop 1 l) ≡ length l - 1
drop_size [] = refl
drop_size (v ∷ l) = omega arith

empty : (l : List ℕ) → length l ≡ 0 → drop 1 l ≡ []
empty [] e = refl
empty (v ∷ l) e = absurd (omega arith)

behind : (l rest : List ℕ) → take (length (drop 1 l)) (drop 1 (l ++ rest)) ≡ drop 1 l
behind [] rest = take_nil (drop 1 rest)
behind (v ∷ l) rest = take_front l rest

-- what was written to the lent buffer
abbrev pub Given : List ℕ → List ℕ → ℕ → List ℕ → Type 0
Given tokens out r new = (r ≡ line_size tokens out) × (new ≡ line_content tokens out)

pub too_many : (tokens out : List ℕ) → 16 < length tokens → Given tokens out 0 out
unfolding line_size line_content
too_many tokens out h = rw (lt-ltb 16 (length tokens) h) (refl, refl)

module _ (tokens out : List ℕ) (few : length tokens ≤ 16) where
  few_given : (r : ℕ) (new : List ℕ) → (r ≡ size (line_of tokens) out) × (new ≡ content (line_of tokens) out) → Given tokens out r new
  unfolding line_size line_content
  few_given r new g = rw (le-ltb 16 (length tokens) few) g

  pub nothing : (old : List ℕ) {end : ℕ} {new : List ℕ} → Put old 0 (pieces tokens) end new → end ≡ 0 → Given tokens out 0 out
  unfolding size content
  nothing old p z =
      let e : line_of tokens ≡ [] = empty (pieces tokens) (omega (arith, p.ends)) in
      few_given 0 out (rw (e, le-ltb (length out) 0 (omega arith)) (refl, refl))

  pub no_room : (old : List ℕ) {end : ℕ} {new : List ℕ} → Put old 0 (pieces tokens) end new → length out < end - 1 → Given tokens out 0 out
  unfolding size content
  no_room old {end} {new} p h =
      let n : length (line_of tokens) ≡ end - 1 = drop_size (pieces tokens) ∙ omega (arith, p.ends) in
      few_given 0 out (rw (lt-ltb (length out) (length (line_of tokens)) (omega arith)) (refl, refl))

  part : (old : List ℕ) {end : ℕ} {new : List ℕ} → Put old 0 (pieces tokens) end new → take (end - 1) (drop 1 new) ≡ line_of tokens
  part old {end} {new} p =
      let n : length (line_of tokens) ≡ end - 1 = drop_size (pieces tokens) ∙ omega (arith, p.ends) in
      rw (p.stands, ← n) (behind (pieces tokens) (drop (0 + length (pieces tokens)) old))

  pub fits : (old : List ℕ) {end : ℕ} {new : List ℕ} (src : List ℕ) → Put old 0 (pieces tokens) end new → end - 1 ≤ length out → src ≡ take (end - 1) (drop 1 new)
      → Given tokens out (length src) (take (length src) src ++ drop (length src) out)
  unfolding size content
  fits old {end} {new} src p h e =
      let n : length (line_of tokens) ≡ end - 1 = drop_size (pieces tokens) ∙ omega (arith, p.ends) in
      let f : src ≡ line_of tokens = e ∙ part old p in
      few_given (length src) (take (length src) src ++ drop (length src) out)
      (rw (f, take_all (line_of tokens) (length (line_of tokens)) (omega arith), le-ltb (length out) (length (line_of tokens)) (omega arith)) (refl, refl))
