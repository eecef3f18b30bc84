-- Tokens of a line that was written: each is read back, and nothing else.
-- Assumes nothing.
use mathlib.Core.Path.{◌≡◌, refl, sym, ap, ◌∙◌}
use mathlib.Core.Bool.{Bool, true, false, not, ◌&&◌, ◌||◌}
use mathlib.Core.List.{List, [], ◌∷◌, ◌++◌, append_assoc}
use Prim.Native.Nat.{ℕ, zero, suc, ◌+◌, ◌-◌, ◌*◌, ◌/◌, ◌%◌, ◌<◌, ◌≤◌}
use native.Mathlib.Omega.{arith}
use lib.Dec.{T, eqb, ltb, eqb→eq}
use lib.ListN.{drop}
use borrow.Author.Tests.{eqb-true, eqb-false, ltb-true, ltb-false, not-true, ne_eqb, eq-eqb, lt-ltb}
use Rattle.std.specs.Prelude.{Option, Some, None}
use Rattle.std.specs.Bool.{⊤}
use Rattle.bits.specs.Byte.{pick}
use Rattle.bits.proofs.Finite.{T_true, and_left, and_right}
use Rattle.bits.proofs.Level.{pick_by}
use Rattle.line_tokens.specs.declared.Token.{Token}
use Rattle.line_tokens.specs.declared.Scanner.{Scanner}
use Rattle.line_tokens.specs.Scan.{blank, fold, grown, longer, start, moved, ended, within, is_star, scanned, scan, before, tokens_from, tokens, values}
use Rattle.line_tokens.specs.Written.{written, piece, pieces, line_of}
use Rattle.event_text_laws.specs.Shown.{upper, valued, shown}

-- a Bool is one or the other
pub by : {A : Type 0} (b : Bool) → (b ≡ true → A) → (b ≡ false → A) → A
by true p q = p refl
by false p q = q refl

-- a byte that goes on with a token
unfoldable pub solid : ℕ → Bool
solid b = not (blank b) && (not (eqb b 35) && not (eqb b 42))

-- a token of at most n such bytes
unfoldable pub plain : ℕ → ℕ → Bool
plain zero v = eqb v 0
plain (suc n) v =
    eqb v 0 || (ltb (upper n (v / 256)) 72057594037927936 && (solid (v % 256) && (not (eqb (upper n (v / 256)) 42) && plain n (v / 256))))

-- the parts of a plain token that is not 0
module _ (n v : ℕ) (z : eqb v 0 ≡ false) (t : T (plain (suc n) v)) where
  abbrev first : Bool
  first = ltb (upper n (v / 256)) 72057594037927936

  abbrev second : Bool
  second = solid (v % 256)

  abbrev third : Bool
  third = not (eqb (upper n (v / 256)) 42)

  parts : T (first && (second && (third && plain n (v / 256))))
  unfolding plain
  parts = rw z at t

  short : upper n (v / 256) < 72057594037927936
  short = ltb-true (upper n (v / 256)) 72057594037927936 (T_true first (and_left first (second && (third && plain n (v / 256))) parts))

  rest_parts : T (second && (third && plain n (v / 256)))
  rest_parts = and_right first (second && (third && plain n (v / 256))) parts

  plain_low : T (solid (v % 256))
  plain_low = and_left second (third && plain n (v / 256)) rest_parts

  last_parts : T (third && plain n (v / 256))
  last_parts = and_right second (third && plain n (v / 256)) rest_parts

  no_star : eqb (upper n (v / 256)) 42 ≡ false
  no_star = not-true (eqb (upper n (v / 256)) 42) (T_true third (and_left third (plain n (v / 256)) last_parts))

  plain_high : T (plain n (v / 256))
  plain_high = and_right third (plain n (v / 256)) last_parts

-- the tests of a solid byte
module _ (b : ℕ) (t : T (solid b)) where
  tests : T (not (blank b) && (not (eqb b 35) && not (eqb b 42)))
  unfolding solid
  tests = t

  no_blank : blank b ≡ false
  no_blank = not-true (blank b) (T_true (not (blank b)) (and_left (not (blank b)) (not (eqb b 35) && not (eqb b 42)) tests))

  signs : T (not (eqb b 35) && not (eqb b 42))
  signs = and_right (not (blank b)) (not (eqb b 35) && not (eqb b 42)) tests

  no_hash : eqb b 35 ≡ false
  no_hash = not-true (eqb b 35) (T_true (not (eqb b 35)) (and_left (not (eqb b 35)) (not (eqb b 42)) signs))

  not_star : eqb b 42 ≡ false
  not_star = not-true (eqb b 42) (T_true (not (eqb b 42)) (and_right (not (eqb b 35)) (not (eqb b 42)) signs))

  -- it goes on with the token that is pending
  pub goes_on : (s : Scanner) → s.remark ≡ false → is_star s.pending ≡ false → scan s b ≡ within s b
  unfolding scan scanned
  goes_on s r p = simp (r, no_blank, no_hash, not_star, p)

-- the number of a token, 0 where there is none
unfoldable pub held : Option Token → ℕ
held None = 0
held (Some t) = t.value

none_held : (o : Option Token) → o ≡ None → held o ≡ 0
unfolding held
none_held o e = rw e refl

-- no token has the number 0
unfoldable pub Real : Option Token → Type 0
Real None = ⊤
Real (Some t) = eqb t.value 0 ≡ false

no_star_held : (o : Option Token) → eqb (held o) 42 ≡ false → is_star o ≡ false
unfolding held is_star
no_star_held None e = refl
no_star_held (Some t) e = e

-- bytes that leave one token pending, and no other: its number, and what is read from there
pub record Scanned (s : Scanner) (bytes : List ℕ) (v : ℕ) : Type 0 where
  pub state : Scanner
  pub value : held state.pending ≡ v
  pub real : Real s.pending → Real state.pending
  pub clear : state.remark ≡ false
  pub rest : (tail : List ℕ) → tokens_from s (bytes ++ tail) ≡ tokens_from state tail

longer_value : (o : Option Token) (at u b : ℕ) → held o ≡ u → u < 72057594037927936 → (longer o at b).value ≡ u * 256 + fold b
unfolding held longer grown
longer_value None at u b e h = rw (← e) refl
longer_value (Some t) at u b e h = rw (e, lt-ltb u 72057594037927936 h) refl

fold_some : (b : ℕ) → 0 < fold b
unfolding fold
fold_some b =
    pick_by (λ (x : ℕ). 0 < x) (ltb b 33) (λ _. omega arith)
    (λ e. let h = ltb-false b 33 e in pick_by (λ (x : ℕ). 0 < x) (ltb b 97) (λ _. omega arith)
    (λ f. let k = ltb-false b 97 f in pick_by (λ (x : ℕ). 0 < x) (ltb b 123) (λ _. omega arith) (λ _. omega arith)))

within_value : (s : Scanner) (u b : ℕ) → held s.pending ≡ u → u < 72057594037927936 → held (within s b).pending ≡ u * 256 + fold b
unfolding held within moved
within_value s u b e h = longer_value s.pending s.at u b e h

within_real : (s : Scanner) (u b : ℕ) → held s.pending ≡ u → u < 72057594037927936 → Real (within s b).pending
unfolding Real within moved
within_real s u b e h = rw (longer_value s.pending s.at u b e h) (ne_eqb (u * 256 + fold b) 0 (λ z. omega (arith, fold_some b)))

within_open : (s : Scanner) (b : ℕ) → (within s b).remark ≡ false
unfolding within moved
within_open s b = refl

within_rest : (s : Scanner) (b : ℕ) (tail : List ℕ) → scan s b ≡ within s b → tokens_from s (b ∷ tail) ≡ tokens_from (within s b) tail
unfolding tokens_from before within moved
within_rest s b tail e = rw e refl

scanned_more : (s : Scanner) (bytes : List ℕ) (u b : ℕ) → Scanned s bytes u → u < 72057594037927936 → eqb u 42 ≡ false → T (solid b) → Scanned s (bytes ++ (b ∷ [])) (u * 256 + fold b)
scanned_more s bytes u b p h f t =
    let q = p.state in
    let e : scan q b ≡ within q b = goes_on b t q p.clear (no_star_held q.pending (ap (λ (x : ℕ). eqb x 42) p.value ∙ f)) in
    record {
      state = within q b;
      value = within_value q u b p.value h;
      real = λ _. within_real q u b p.value h;
      clear = within_open q b;
      rest = λ tail. ap (tokens_from s) (append_assoc bytes (b ∷ []) tail) ∙ p.rest (b ∷ tail) ∙ within_rest q b tail e;
    }

scanned_none : (s : Scanner) → s.remark ≡ false → held s.pending ≡ 0 → Scanned s [] 0
scanned_none s r e = record { state = s; value = e; real = λ p. p; clear = r; rest = λ tail. refl }

-- a token that is written, from a scanner that has none pending
pub scanned_written : (n v : ℕ) (s : Scanner) → s.remark ≡ false → held s.pending ≡ 0 → T (plain n v) → Scanned s (written n v) (upper n v)
unfolding written upper
scanned_written zero v s r e t = scanned_none s r e
scanned_written (suc n) v s r e t =
    by (eqb v 0) (λ z. rw z (scanned_none s r e))
    (λ z. rw z (scanned_more s (written n (v / 256)) (upper n (v / 256)) (v % 256) (scanned_written n (v / 256) s r e (plain_high n v z t)) (short n v z t) (no_star n v z t) (plain_low n v z t)))

-- ---- lines

-- a line of plain tokens
pub data Plain : List ℕ → Type 0 where
  nil : Plain []
  cons : {v : ℕ} {rest : List ℕ} → T (plain 8 v) → Plain rest → Plain (v ∷ rest)

blank_ends : (s : Scanner) → s.remark ≡ false → scan s 32 ≡ ended s false
unfolding scan scanned blank
blank_ends s r = rw r refl

values_before : (t : Option Token) (rest : List Token) → values (before t rest) ≡ valued (held t) (values rest)
unfolding before held valued values
values_before None rest = refl
values_before (Some t) rest = by (eqb t.value 0) (λ z. rw z refl) (λ z. rw z refl)

values_end : (t : Option Token) → values (before t []) ≡ valued (held t) []
unfolding values
values_end t = values_before t []

after_blank : (s : Scanner) (tail : List ℕ) → s.remark ≡ false → values (tokens_from s (32 ∷ tail)) ≡ valued (held s.pending) (values (tokens_from (ended s false) tail))
unfolding tokens_from ended moved
after_blank s tail r = rw (blank_ends s r) (values_before s.pending (tokens_from (ended s false) tail))

ended_open : (s : Scanner) → (ended s false).remark ≡ false
unfolding ended moved
ended_open s = refl

ended_none : (s : Scanner) → (ended s false).pending ≡ None
unfolding ended moved
ended_none s = refl

read_zero : (v : ℕ) (rest : List ℕ) (s : Scanner) → eqb v 0 ≡ true → values (tokens_from s (pieces rest)) ≡ valued (held s.pending) (shown rest)
    → values (tokens_from s (piece v ++ pieces rest)) ≡ valued (held s.pending) (valued (upper 8 v) (shown rest))
unfolding piece upper valued
read_zero v rest s z e = rw z e

read_some : (v : ℕ) (rest : List ℕ) (s : Scanner) → eqb v 0 ≡ false → s.remark ≡ false → (q : Scanned (ended s false) (written 8 v) (upper 8 v))
    → values (tokens_from q.state (pieces rest)) ≡ valued (held q.state.pending) (shown rest)
    → values (tokens_from s (piece v ++ pieces rest)) ≡ valued (held s.pending) (valued (upper 8 v) (shown rest))
unfolding piece
read_some v rest s z r q e =
    rw z
    (after_blank s (written 8 v ++ pieces rest) r
    ∙ ap (λ (l : List ℕ). valued (held s.pending) l) (ap values (q.rest (pieces rest)) ∙ e ∙ ap (λ (x : ℕ). valued x (shown rest)) q.value))

-- what follows a token that is pending
pub read_pieces : (l : List ℕ) → Plain l → (s : Scanner) → s.remark ≡ false → values (tokens_from s (pieces l)) ≡ valued (held s.pending) (shown l)
unfolding pieces shown tokens_from
read_pieces [] nil s r = values_end s.pending
read_pieces (v ∷ rest) (cons t p) s r =
    by (eqb v 0)
    (λ z. read_zero v rest s z (read_pieces rest p s r))
    (λ z.
    let q : Scanned (ended s false) (written 8 v) (upper 8 v) = scanned_written 8 v (ended s false) (ended_open s) (none_held (ended s false).pending (ended_none s)) t in
    read_some v rest s z r q (read_pieces rest p q.state q.clear))

start_open : start.remark ≡ false
unfolding start
start_open = refl

start_none : start.pending ≡ None
unfolding start
start_none = refl

-- a line that is written is read as its tokens; the first of them is not 0
pub read_line : (v : ℕ) (rest : List ℕ) → Plain (v ∷ rest) → eqb v 0 ≡ false → values (tokens (line_of (v ∷ rest))) ≡ shown (v ∷ rest)
unfolding pieces piece shown
read_line v rest (cons t p) z =
    let q : Scanned start (written 8 v) (upper 8 v) = scanned_written 8 v start start_open (none_held start.pending start_none) t in
    rw z (ap values (q.rest (pieces rest)) ∙ read_pieces rest p q.state q.clear ∙ ap (λ (x : ℕ). valued x (shown rest)) q.value)
