-- What is known of the registers: nothing, and one more; and how many of them nothing is known of.
use Prim.Native.Nat.{ℕ, zero, suc, ◌+◌, ◌<◌, ◌≤◌}
use mathlib.Core.Path.{◌≡◌, refl, ap, sym, ◌∙◌}
use mathlib.Core.Bool.{Bool, true, false}
use mathlib.Core.List.{List, [], ◌∷◌}
use native.Mathlib.Omega.{arith}
use lib.Dec.{eqb}
use lib.ListN.{length, get_or, set, length-set}
use lib.Seq.{get_or-set_same, get_or-set_other}
use borrow.Author.Tests.{eq-eqb, ne_eqb, eqb-true, eqb-false}
use Rattle.bits.specs.Byte.{pick}
use Rattle.registers.specs.Names.{PT0, PT1, PT2, PT3}
use Rattle.chip.specs.declared.Core.{Core}
use Rattle.chip.specs.declared.Chip.{Chip}
use Rattle.chip.specs.State.{chip_of}
use Rattle.chip_reads.specs.declared.Reading.{Reading}
use Rattle.chip_reads.specs.Reads.{shown, reading}
use Rattle.chip_reads.proofs.Bytes.{reading_byte_lt}
use Rattle.cpu_memory.specs.Memory.{not_seen}
use Rattle.firmware_machine.specs.Seen.{known_reading, Known, unseen, read, Knows}
use Rattle.firmware_machine.proofs.Loads.{reading_number_lt}
use Rattle.cpu_register_cache.specs.Cache.{counting, none_seen, forgotten, ports_forgotten}

counting_at : (n v r : ℕ) → r < n → get_or (counting n v) r 0 ≡ v + r
counting_at zero v r h = absurd (omega arith)
counting_at (suc n) v zero h = omega arith
counting_at (suc n) v (suc r) h = counting_at n (v + 1) r (omega arith) ∙ (omega arith)

pub knows_none : (k : Chip) → Knows none_seen k
knows_none k r h = unseen (counting_at 38 320 r h)

knows_set_by : (b : Bool) (seen : List ℕ) (k : Chip) (r : ℕ) → length seen ≡ 38 → Knows seen k → (q : ℕ) → q < 38 → eqb q r ≡ b
    → Known k q (get_or (set seen r (known_reading (reading k r))) q 0)
knows_set_by true seen k r l h q g e =
    let z : q ≡ r = eqb-true q r e in
    rw z (read (get_or-set_same seen r (known_reading (reading k r)) 0 (omega arith)))
knows_set_by false seen k r l h q g e = rw (get_or-set_other seen r q (known_reading (reading k r)) 0 (eqb-false q r e)) (h q g)

pub knows_set : (seen : List ℕ) (k : Chip) (r : ℕ) → length seen ≡ 38 → Knows seen k → Knows (set seen r (known_reading (reading k r))) k
knows_set seen k r l h q g = knows_set_by (eqb q r) seen k r l h q g refl

pub known_as : (k l : Chip) (r v : ℕ) → reading l r ≡ reading k r → Known k r v → Known l r v
known_as k l r v e (unseen u) = unseen u
known_as k l r v e (read u) = read (u ∙ ap known_reading (sym e))

-- where all that is read is as before, what was known is known
pub knows_as : (seen : List ℕ) (k l : Chip) → ((r : ℕ) → reading l r ≡ reading k r) → Knows seen k → Knows seen l
knows_as seen k l e h r g = known_as k l r (get_or seen r 0) (e r) (h r g)

-- ---- one more forgotten

module _ (k : Chip) where
  forgets_by : (b : Bool) (p : ℕ) (seen : List ℕ) → length seen ≡ 38 → (q : ℕ) → q < 38 → eqb q p ≡ b
      → (b ≡ false → Known k q (get_or seen q 0)) → Known k q (get_or (set seen p (not_seen p)) q 0)
  forgets_by true p seen l q g e h =
      let z : q ≡ p = eqb-true q p e in
      rw z (unseen (get_or-set_same seen p (not_seen p) 0 (omega arith)))
  forgets_by false p seen l q g e h = rw (get_or-set_other seen p q (not_seen p) 0 (eqb-false q p e)) (h refl)

  pub forgets : (p : ℕ) (seen : List ℕ) → length seen ≡ 38 → (q : ℕ) → q < 38 → (eqb q p ≡ false → Known k q (get_or seen q 0)) → Known k q (get_or (set seen p (not_seen p)) q 0)
  forgets p seen l q g h = forgets_by (eqb q p) p seen l q g refl h

pub forgotten_length : (p : ℕ) (seen : List ℕ) → length seen ≡ 38 → length (forgotten p seen) ≡ 38
forgotten_length p seen l = length-set seen p (not_seen p) ∙ l

-- ---- after a store in the array

-- the reads of all registers but the ports look at no other register of the array
abbrev Plain : ℕ → Type 0
Plain r = (eqb r PT0 ≡ false) × (eqb r PT1 ≡ false) × (eqb r PT2 ≡ false) × (eqb r PT3 ≡ false)

stored_other : (registers : List ℕ) (core : Core) (a v r : ℕ) → Plain r → eqb r a ≡ false → reading (chip_of (set registers a v) core) r ≡ reading (chip_of registers core) r
unfolding reading shown
stored_other registers core a v r p n = rw (p.0, p.1, p.2, p.3, get_or-set_other registers a r v 0 (eqb-false r a n))

module _ (registers : List ℕ) (core : Core) (a v : ℕ) where
  abbrev stored : Chip
  stored = chip_of (set registers a v) core

  ports_known : (seen : List ℕ) → length seen ≡ 38 → Knows seen (chip_of registers core) → (q : ℕ) → q < 38 → eqb q a ≡ false → Known stored q (get_or (ports_forgotten seen) q 0)
  ports_known seen l h q g n =
      let s₀ : List ℕ = forgotten PT0 seen in
      let s₁ : List ℕ = forgotten PT1 s₀ in
      let s₂ : List ℕ = forgotten PT2 s₁ in
      let l₀ : length s₀ ≡ 38 = forgotten_length PT0 seen l in
      let l₁ : length s₁ ≡ 38 = forgotten_length PT1 s₀ l₀ in
      let l₂ : length s₂ ≡ 38 = forgotten_length PT2 s₁ l₁ in
      forgets stored PT3 s₂ l₂ q g (λ e₃. forgets stored PT2 s₁ l₁ q g (λ e₂. forgets stored PT1 s₀ l₀ q g (λ e₁. forgets stored PT0 seen l q g
      (λ e₀. known_as (chip_of registers core) stored q (get_or seen q 0) (stored_other registers core a v q (e₀, e₁, e₂, e₃) n) (h q g)))))

  ports_length : (seen : List ℕ) → length seen ≡ 38 → length (ports_forgotten seen) ≡ 38
  ports_length seen l =
      forgotten_length PT3 (forgotten PT2 (forgotten PT1 (forgotten PT0 seen))) (forgotten_length PT2 (forgotten PT1 (forgotten PT0 seen))
      (forgotten_length PT1 (forgotten PT0 seen) (forgotten_length PT0 seen l)))

  stored_by_lem : (b : Bool) (seen : List ℕ) (x : ℕ) → length seen ≡ 38 → a < 38 → Knows seen (chip_of registers core) → Known stored a x → (q : ℕ) → q < 38 → eqb q a ≡ b
      → Known stored q (get_or (set (ports_forgotten seen) a x) q 0)
  stored_by_lem true seen x l m h y q g e =
      let z : q ≡ a = eqb-true q a e in
      let s : length (ports_forgotten seen) ≡ 38 = ports_length seen l in
      rw (z, get_or-set_same (ports_forgotten seen) a x 0 (omega (arith, s, m))) y
  stored_by_lem false seen x l m h y q g e = rw (get_or-set_other (ports_forgotten seen) a q x 0 (eqb-false q a e)) (ports_known seen l h q g e)

  -- a byte stored in the array: the ports and the register itself are known anew
  pub knows_stored : (seen : List ℕ) (x : ℕ) → length seen ≡ 38 → a < 38 → Knows seen (chip_of registers core) → Known stored a x → Knows (set (ports_forgotten seen) a x) stored
  knows_stored seen x l m h y q g = stored_by_lem (eqb q a) seen x l m h y q g refl

  pub stored_length : (seen : List ℕ) (x : ℕ) → length seen ≡ 38 → length (set (ports_forgotten seen) a x) ≡ 38
  stored_length seen x l = length-set (ports_forgotten seen) a x ∙ ports_length seen l

-- ---- how many registers nothing is known of

abbrev pub unseen_from : ℕ → List ℕ → ℕ
unseen_from r [] = 0
unseen_from r (v ∷ vs) = pick (eqb v (not_seen r)) 1 0 + unseen_from (r + 1) vs

unfoldable pub unseen_of : List ℕ → ℕ
unseen_of seen = unseen_from 0 seen

one_by : (b : Bool) → pick b 1 0 ≤ 1
one_by true = omega arith
one_by false = omega arith

unseen_le_from : (r : ℕ) (l : List ℕ) → unseen_from r l ≤ length l
unseen_le_from r [] = omega arith
unseen_le_from r (v ∷ vs) = omega (arith, unseen_le_from (r + 1) vs, one_by (eqb v (not_seen r)))

pub unseen_le : (seen : List ℕ) → unseen_of seen ≤ length seen
unfolding unseen_of
unseen_le seen = unseen_le_from 0 seen

unseen_set_from : (l : List ℕ) (r j m v : ℕ) → m ≡ r + j → j < length l → get_or l j 0 ≡ not_seen m → eqb v (not_seen m) ≡ false → unseen_from r (set l j v) + 1 ≡ unseen_from r l
unseen_set_from [] r j m v q h e g = absurd (omega arith)
unseen_set_from (x ∷ xs) r zero m v q h e g =
    let z : r ≡ m = omega arith in
    rw (z, g, eq-eqb x (not_seen m) e) (omega arith)
unseen_set_from (x ∷ xs) r (suc j) m v q h e g =
    let z : unseen_from (r + 1) (set xs j v) + 1 ≡ unseen_from (r + 1) xs = unseen_set_from xs (r + 1) j m v (omega arith) (omega arith) e g in
    omega (arith, z)

known_lt_by : (x : Reading) (b : Bool) → x.byte < 256 → x.number < 6 → pick b x.byte (256 + x.number) < 320
known_lt_by x true h g = omega arith
known_lt_by x false h g = omega arith

known_lt : (x : Reading) → x.byte < 256 → x.number < 6 → known_reading x < 320
unfolding known_reading
known_lt x h g = known_lt_by x (eqb x.number 0) h g

-- a register looked at is one less
pub unseen_set : (seen : List ℕ) (k : Chip) (r : ℕ) → r < length seen → get_or seen r 0 ≡ not_seen r → unseen_of (set seen r (known_reading (reading k r))) < unseen_of seen
unfolding unseen_of
unseen_set seen k r h e =
    let l : known_reading (reading k r) < 320 = known_lt (reading k r) (reading_byte_lt k r) (reading_number_lt k r) in
    let z : unseen_from 0 (set seen r (known_reading (reading k r))) + 1 ≡ unseen_from 0 seen
    = unseen_set_from seen 0 r r (known_reading (reading k r)) (omega arith) h e (ne_eqb (known_reading (reading k r)) (not_seen r) (λ q. omega (arith, l, q))) in
    omega (arith, z)
