-- Two lists that a host says bit by bit, with other bytes: foreign to each other where no address in the second is the chip's.
use Prim.Native.Nat.{ℕ, ◌+◌, ◌*◌, ◌<◌}
use mathlib.Core.Path.{◌≡◌, refl, ap, sym, ◌∙◌}
use mathlib.Core.Bool.{Bool, true, false, true≢false, ◌&&◌}
use mathlib.Core.List.{List, [], ◌∷◌, ◌++◌}
use native.Mathlib.Omega.{arith}
use lib.Dec.{eqb, ltb, T}
use borrow.Author.Tests.{ltb-true, eq-eqb, eqb-true}
use Rattle.bits.specs.Byte.{pick, bit}
use Rattle.bits.specs.Finite.{all_below}
use Rattle.bits.proofs.Finite.{both as both_true, at_each, T_true}
use Rattle.events.specs.Word as word
use Rattle.events.specs.Word.{decode}
use Rattle.isolation_laws.specs.Foreign.{Trace, since, byte_of, Observer, observe, permitted, untouched, gather, completes_match, alike, throughout, equal_throughout, same_but_sda}
use Rattle.firmware_machine.specs.Run.{number_of, word_of}
use Rattle.firmware_isolation_laws.specs.Transfers.{alike_events}
use Rattle.firmware_isolation_laws.specs.Words.{words_in, is_foreign_list}
use Rattle.recall_laws.specs.Host.{bit_words, byte_words, event, timed}

-- ---- words before instructions

-- words of 32 bits
abbrev pub are_words : List ℕ → Bool
are_words [] = true
are_words (w ∷ ws) = ltb w 4294967296 && are_words ws

abbrev pub same_length : List ℕ → List ℕ → Bool
same_length [] [] = true
same_length [] (w ∷ ws) = false
same_length (i ∷ is) [] = false
same_length (i ∷ is) (w ∷ ws) = same_length is ws

number_of_lem : (i w : ℕ) → ltb w 4294967296 ≡ true → number_of (event i w) ≡ i
number_of_lem i w h = omega (arith, ltb-true w 4294967296 h)

word_of_lem : (i w : ℕ) → ltb w 4294967296 ≡ true → word_of (event i w) ≡ w
word_of_lem i w h = omega (arith, ltb-true w 4294967296 h)

timed_words : (is ws : List ℕ) → same_length is ws ≡ true → are_words ws ≡ true → words_in (timed is ws) ≡ ws
timed_words [] [] l h = refl
timed_words [] (w ∷ ws) l h = absurd (true≢false (sym l))
timed_words (i ∷ is) [] l h = refl
timed_words (i ∷ is) (w ∷ ws) l h =
    let z = both_true (ltb w 4294967296) _ h in
    rw (word_of_lem i w z.0, timed_words is ws l z.1)

timed_alike : (is ws vs : List ℕ) → are_words ws ≡ true → are_words vs ≡ true → alike ws vs ≡ true → alike_events (timed is ws) (timed is vs) ≡ true
timed_alike [] ws vs g h q = refl
timed_alike (i ∷ is) [] [] g h q = refl
timed_alike (i ∷ is) [] (v ∷ vs) g h q = q
timed_alike (i ∷ is) (w ∷ ws) [] g h q = q
timed_alike (i ∷ is) (w ∷ ws) (v ∷ vs) g h q =
    let x = both_true (ltb w 4294967296) _ g in
    let y = both_true (ltb v 4294967296) _ h in
    let z = both_true (same_but_sda w v) _ q in
    rw (number_of_lem i w x.0, number_of_lem i v y.0, word_of_lem i w x.0, word_of_lem i v y.0, eq-eqb i i refl, z.0) (timed_alike is ws vs x.1 y.1 z.1)

-- ---- two lists of words

pub record Foreign (o p : Observer) (ws vs : List ℕ) : Type 0 where
  pub left_words : are_words ws ≡ true
  pub right_words : are_words vs ≡ true
  pub same : alike ws vs ≡ true
  pub right : throughout permitted p vs ≡ true
  pub sda : equal_throughout o p ws vs ≡ true

-- the same words before the same instructions
pub foreign_timed : (is : List ℕ) (o : Observer) (ws vs : List ℕ) → same_length is ws ≡ true → same_length is vs ≡ true → Foreign o o ws vs → is_foreign_list (timed is ws) o (timed is vs) ≡ true
foreign_timed is o ws vs l k q =
    rw (timed_alike is ws vs q.left_words q.right_words q.same, timed_words is ws l q.left_words, timed_words is vs k q.right_words, q.right, q.sda)

-- ---- bits and bytes

-- SCL and RESET high
abbrev pub observer : ℕ → ℕ → Bool → Trace → Observer
observer own dog sda x = record { sda = sda; scl = true; reset = true; own = own; watchdog = dog; trace = x }

-- the levels of a byte, the last one first
abbrev pub levels : ℕ → List Bool
levels n = bit 0 n ∷ bit 1 n ∷ bit 2 n ∷ bit 3 n ∷ bit 4 n ∷ bit 5 n ∷ bit 6 n ∷ bit 7 n ∷ []

module _ (own dog : ℕ) where
  -- a bit in both lists
  pub one : (s t b c : Bool) (x y : Trace) (ws vs : List ℕ) → completes_match own c y ≡ false
      → Foreign (observer own dog b (gather b x)) (observer own dog c (gather c y)) ws vs → Foreign (observer own dog s x) (observer own dog t y) (bit_words b ++ ws) (bit_words c ++ vs)
  unfolding decode word.event word.no_event word.no_place word.bad_byte observe permitted untouched
  one s t true true x y ws vs h q = record { left_words = q.left_words; right_words = q.right_words; same = q.same; right = rw h q.right; sda = q.sda }
  one s t true false x y ws vs h q = record { left_words = q.left_words; right_words = q.right_words; same = q.same; right = rw h q.right; sda = q.sda }
  one s t false true x y ws vs h q = record { left_words = q.left_words; right_words = q.right_words; same = q.same; right = rw h q.right; sda = q.sda }
  one s t false false x y ws vs h q = record { left_words = q.left_words; right_words = q.right_words; same = q.same; right = rw h q.right; sda = q.sda }

  -- a byte in both, with x and y gathered before; no bit of it completes the chip's address
  pub byte : (s t : Bool) (a c : ℕ) (x y : List Bool) (ws vs : List ℕ)
      → completes_match own (bit 7 c) (since y) ≡ false
      → completes_match own (bit 6 c) (since (bit 7 c ∷ y)) ≡ false
      → completes_match own (bit 5 c) (since (bit 6 c ∷ bit 7 c ∷ y)) ≡ false
      → completes_match own (bit 4 c) (since (bit 5 c ∷ bit 6 c ∷ bit 7 c ∷ y)) ≡ false
      → completes_match own (bit 3 c) (since (bit 4 c ∷ bit 5 c ∷ bit 6 c ∷ bit 7 c ∷ y)) ≡ false
      → completes_match own (bit 2 c) (since (bit 3 c ∷ bit 4 c ∷ bit 5 c ∷ bit 6 c ∷ bit 7 c ∷ y)) ≡ false
      → completes_match own (bit 1 c) (since (bit 2 c ∷ bit 3 c ∷ bit 4 c ∷ bit 5 c ∷ bit 6 c ∷ bit 7 c ∷ y)) ≡ false
      → completes_match own (bit 0 c) (since (bit 1 c ∷ bit 2 c ∷ bit 3 c ∷ bit 4 c ∷ bit 5 c ∷ bit 6 c ∷ bit 7 c ∷ y)) ≡ false
      → completes_match own true (since (levels c ++ y)) ≡ false
      → Foreign (observer own dog true (since (true ∷ (levels a ++ x)))) (observer own dog true (since (true ∷ (levels c ++ y)))) ws vs
      → Foreign (observer own dog s (since x)) (observer own dog t (since y)) (byte_words a ++ ws) (byte_words c ++ vs)
  byte s t a c x y ws vs h₇ h₆ h₅ h₄ h₃ h₂ h₁ h₀ h q =
      one s t (bit 7 a) (bit 7 c) (since x) (since y) _ _ h₇
      (one _ _ (bit 6 a) (bit 6 c) _ _ _ _ h₆
      (one _ _ (bit 5 a) (bit 5 c) _ _ _ _ h₅
      (one _ _ (bit 4 a) (bit 4 c) _ _ _ _ h₄
      (one _ _ (bit 3 a) (bit 3 c) _ _ _ _ h₃
      (one _ _ (bit 2 a) (bit 2 c) _ _ _ _ h₂
      (one _ _ (bit 1 a) (bit 1 c) _ _ _ _ h₁
      (one _ _ (bit 0 a) (bit 0 c) _ _ _ _ h₀
      (one _ _ true true _ _ _ _ h q))))))))

-- the levels of a byte make it
level_test : T (all_below (λ (n : ℕ). eqb (byte_of (levels n)) n) 256)
unfolding bit
level_test = tt

pub level_byte : (n : ℕ) → n < 256 → byte_of (levels n) ≡ n
level_byte n h = eqb-true (byte_of (levels n)) n (T_true _ (at_each (λ (n : ℕ). eqb (byte_of (levels n)) n) 256 level_test n h))

-- ---- a list that is not foreign

and_false : (a b : Bool) → a && (false && b) ≡ false
and_false true b = refl
and_false false b = refl

-- its words have an address of the chip
pub refused : (es fs : List ℕ) (o : Observer) → throughout permitted o (words_in fs) ≡ false → is_foreign_list es o fs ≡ false
refused es fs o h = rw h (and_false (alike_events es fs) (equal_throughout o o (words_in es) (words_in fs)))
