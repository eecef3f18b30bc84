-- The words of a block by their indices.
-- Assumes nothing.
use mathlib.Core.Path.{◌≡◌, refl, sym, ap, ◌∙◌}
use mathlib.Core.Bool.{Bool}
use mathlib.Core.List.{List, [], ◌∷◌, ◌++◌}
use Prim.Native.Nat.{ℕ, zero, suc, ◌+◌, ◌-◌, ◌*◌, ◌/◌, ◌%◌, ◌<◌, ◌≤◌}
use native.Mathlib.Omega.{arith}
use lib.Dec.{eqb}
use lib.ListN.{length, get_or, length-append, get_or-append}
use lib.Seq.{get_or-append-add}
use Rattle.bits.specs.Byte.{pick}
use Rattle.bits.proofs.Finite.{at_each, T_true}
use borrow.Author.Tests.{eqb-true}
use Rattle.edid_feed.specs.Words.{pulses, lead, sending, sending_all, feed_words, bytes_of, bytes_of_all}

-- ---- pulses

pulse_test : ℕ → Bool
pulse_test i = eqb (get_or (pulses 9) i 0) (pick (eqb (i % 2) 0) 0x03001b00 0x03001b01)

pub pulse_at : (i : ℕ) → i < 18 → get_or (pulses 9) i 0 ≡ pick (eqb (i % 2) 0) 0x03001b00 0x03001b01
unfolding pulse_test
pulse_at i h = eqb-true _ _ (T_true (pulse_test i) (at_each pulse_test 18 tt i h))

-- ---- words before the block, and words for a byte

pub lead_at : (i : ℕ) → 3 ≤ i → get_or (pulses 9) (i - 3) 0 ≡ get_or lead i 0
unfolding lead
lead_at zero h = absurd (omega arith)
lead_at (suc zero) h = absurd (omega arith)
lead_at (suc (suc zero)) h = absurd (omega arith)
lead_at (suc (suc (suc i))) h = let e : suc (suc (suc i)) - 3 ≡ i = omega arith in ap (λ (n : ℕ). get_or (pulses 9) n 0) e

pub sending_at : (b i : ℕ) → 2 ≤ i → get_or (pulses 9) (i - 2) 0 ≡ get_or (sending b) i 0
unfolding sending
sending_at b zero h = absurd (omega arith)
sending_at b (suc zero) h = absurd (omega arith)
sending_at b (suc (suc i)) h = let e : suc (suc i) - 2 ≡ i = omega arith in ap (λ (n : ℕ). get_or (pulses 9) n 0) e

-- ---- all words

pub length_lead : length lead ≡ 21
unfolding lead
length_lead = refl

pub length_sending : (b : ℕ) → length (sending b) ≡ 20
unfolding sending
length_sending b = refl

pub length_all : (block : List ℕ) → length (sending_all block) ≡ 20 * length block
length_all [] = refl
length_all (b ∷ bs) = length-append (sending b) (sending_all bs) ∙ omega (arith, length_sending b, length_all bs)

pub length_feed : (block : List ℕ) → length (feed_words block) ≡ 21 + 20 * length block
unfolding feed_words
length_feed block = length-append lead (sending_all block) ∙ omega (arith, length_lead, length_all block)

pub feed_lead : (block : List ℕ) (i : ℕ) → i < 21 → get_or lead i 0 ≡ get_or (feed_words block) i 0
unfolding feed_words
feed_lead block i h = sym (get_or-append lead (sending_all block) 0 i (omega (arith, length_lead)))

all_at : (block : List ℕ) (k m : ℕ) → k < length block → m < 20 → get_or (sending_all block) (20 * k + m) 0 ≡ get_or (sending (get_or block k 0)) m 0
all_at [] k m h i = absurd (omega arith)
all_at (b ∷ bs) zero m h i =
    let e : 20 * 0 + m ≡ m = omega arith in
    rw e (get_or-append (sending b) (sending_all bs) 0 m (omega (arith, length_sending b)))
all_at (b ∷ bs) (suc k) m h i =
    let e : 20 * suc k + m ≡ length (sending b) + (20 * k + m) = omega (arith, length_sending b) in
    rw e (get_or-append-add (sending b) (sending_all bs) (20 * k + m) 0 ∙ all_at bs k m (omega arith) i)

-- past the first 21, by byte and place within its words
pub feed_byte : (block : List ℕ) (i : ℕ) → 21 ≤ i → i < 21 + 20 * length block
    → get_or (sending (get_or block ((i - 21) / 20) 0)) ((i - 21) % 20) 0 ≡ get_or (feed_words block) i 0
unfolding feed_words
feed_byte block i h n =
    let k = (i - 21) / 20 in
    let m = (i - 21) % 20 in
    let e : i ≡ length lead + (20 * k + m) = omega (arith, length_lead) in
    sym (ap (λ (j : ℕ). get_or (lead ++ sending_all block) j 0) e
    ∙ get_or-append-add lead (sending_all block) (20 * k + m) 0
    ∙ all_at block k m (omega arith) (omega arith))

-- ---- words as bytes

pub length_bytes : (ws : List ℕ) → length (bytes_of_all ws) ≡ 4 * length ws
unfolding bytes_of_all
length_bytes [] = refl
length_bytes (w ∷ ws) = omega (arith, length_bytes ws)

bytes_at : (ws : List ℕ) (k m : ℕ) → k < length ws → m < 4 → get_or (bytes_of_all ws) (4 * k + m) 0 ≡ get_or (bytes_of (get_or ws k 0)) m 0
unfolding bytes_of_all
bytes_at [] k m h i = absurd (omega arith)
bytes_at (w ∷ ws) zero m h i = let e : 4 * 0 + m ≡ m = omega arith in rw e (get_or-append (bytes_of w) (bytes_of_all ws) 0 m i)
bytes_at (w ∷ ws) (suc k) m h i =
    let e : 4 * suc k + m ≡ 4 + (4 * k + m) = omega arith in
    rw e (get_or-append-add (bytes_of w) (bytes_of_all ws) (4 * k + m) 0 ∙ bytes_at ws k m (omega arith) i)

pub byte_at : (ws : List ℕ) (i : ℕ) → i < 4 * length ws → get_or (bytes_of (get_or ws (i / 4) 0)) (i % 4) 0 ≡ get_or (bytes_of_all ws) i 0
byte_at ws i h =
    let e : i ≡ 4 * (i / 4) + i % 4 = omega arith in
    sym (ap (λ (j : ℕ). get_or (bytes_of_all ws) j 0) e ∙ bytes_at ws (i / 4) (i % 4) (omega arith) (omega arith))
