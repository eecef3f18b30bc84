-- The words of `feed`, stored as bytes, are those that `replay` reads.
-- Assumes nothing.
use Prim.Native.Nat.{ℕ, suc, ◌+◌, ◌*◌, ◌/◌, ◌%◌, ◌<◌}
use mathlib.Core.Path.{◌≡◌, refl, ap, ap₂, sym, ◌∙◌}
use mathlib.Core.List.{List, [], ◌∷◌, ◌++◌}
use mathlib.Core.Bool.{true, ◌&&◌, and_assoc}
use native.Mathlib.Omega.{arith}
use borrow.Author.Tests.{ltb-true, lt-ltb}
use lib.Dec.{ltb}
use lib.ListN.{get_or}
use Rattle.bits.proofs.Finite.{both}
use Rattle.registers.specs.Names.{IIDAT}
use Rattle.events.specs.Word.{event_word}
use Rattle.recording_blocks.specs.Bytes.{from_four, words_of}
use Rattle.edid_feed.specs.Words.{pulses, lead, sending, sending_all, feed_words, bytes_of_all}
use Rattle.edid_feed_laws.specs.Levels.{Bytes}
use Rattle.edid_feed_laws.specs.Words.{all_words}

-- four bytes of a word make it again
word_read : (w : ℕ) → w < 4294967296 → from_four (w % 256) (w / 256 % 256) (w / 65536 % 256) (w / 16777216 % 256) ≡ w
word_read w h =
    let second : w / 65536 ≡ w / 256 / 256 = omega arith in
    let third : w / 16777216 ≡ w / 65536 / 256 = omega arith in
    linear w (w / 256) (w / 65536) (w / 16777216) (w % 256) (w / 256 % 256) (w / 65536 % 256) (w / 16777216 % 256)
    (omega arith) (omega (arith, second)) (omega (arith, third)) (omega arith)
  where
    linear : (w a b c p q r s : ℕ) → w ≡ 256 * a + p → a ≡ 256 * b + q → b ≡ 256 * c + r → s ≡ c → from_four p q r s ≡ w
    linear w a b c p q r s e f g h = omega arith

-- words stored lowest byte first are read as they were
pub words_read : (ws : List ℕ) → all_words ws ≡ true → words_of (bytes_of_all ws) ≡ ws
unfolding words_of bytes_of_all
words_read [] h = refl
words_read (w ∷ ws) h =
    let one = both (ltb w 4294967296) (all_words ws) h in
    ap₂ (λ (v : ℕ) (vs : List ℕ). v ∷ vs) (word_read w (ltb-true w 4294967296 one.0)) (words_read ws one.1)

words_append : (us vs : List ℕ) → all_words (us ++ vs) ≡ (all_words us && all_words vs)
words_append [] vs = refl
words_append (u ∷ us) vs = rw (words_append us vs) (sym (and_assoc (ltb u 4294967296) _ _))

sending_words : (b : ℕ) → b < 256 → all_words (sending b) ≡ true
unfolding sending
sending_words b h = rw (lt-ltb (event_word 2 IIDAT b) 4294967296 (omega arith))

all_words_lem : (bs : List ℕ) → Bytes bs → all_words (sending_all bs) ≡ true
all_words_lem [] h = refl
all_words_lem (b ∷ bs) h = words_append (sending b) (sending_all bs) ∙ rw (sending_words b (h 0), all_words_lem bs (λ i. h (suc i)))

lead_words : all_words lead ≡ true
unfolding lead
lead_words = refl

-- what `feed` writes is read as the words that send the block
pub feed_read : (block : List ℕ) → Bytes block → words_of (bytes_of_all (feed_words block)) ≡ feed_words block
unfolding feed_words
feed_read block h = words_read (feed_words block) (words_append lead (sending_all block) ∙ rw (lead_words, all_words_lem block h))
