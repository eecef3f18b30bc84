-- The list that `edid_feed::feed` makes keeps to the conditions, from every well formed state with DDC off and RESET high: so the
-- theorem is not empty, whatever the block.
-- Assumes nothing.
use Prim.Native.Nat.{ℕ, zero, suc, ◌+◌, ◌*◌, ◌-◌, ◌<◌}
use mathlib.Core.Path.{◌≡◌, refl, ap, sym, ◌∙◌}
use mathlib.Core.List.{List, [], ◌∷◌, ◌++◌, append_assoc, append-nil}
use mathlib.Core.Bool.{Bool, true, false, not, ◌&&◌, ◌||◌, and_assoc}
use native.Mathlib.Omega.{arith}
use lib.ListN.{length, get_or, take, length-append}
use borrow.Author.Tests.{ltb-true}
use lib.Dec.{eqb, ltb}
use lib.Seq.{take-length}
use Rattle.bits.specs.Byte.{pick, bit}
use Rattle.bits.proofs.Finite.{both}
use Rattle.registers.specs.Names.{IIDAT, ENDDC}
use Rattle.registers.specs.Table.{is_writable, row_of, table, reset_value}
use Rattle.std.specs.Prelude.{Ok}
use Rattle.events.specs.Decoded.{Decoded}
use Rattle.events.specs.declared.Event.TheVariants.{Write, Pin}
use Rattle.events.specs.Word.{decode, event, no_event, no_place, bad_byte, event_word}
use Rattle.events.proofs.EventWord.{decode_encode}
use Rattle.chip.specs.declared.Chip.{Chip}
use Rattle.chip.specs.State.{fresh, reset_at}
use Rattle.chip_well_formed.specs.WellFormed.{well_formed}
use Rattle.step.specs.Step.{step}
use Rattle.list_call.specs.Run.{after}
use Rattle.chip_laws.proofs.WellFormed.{fresh_well_formed}
use Rattle.edid_check.specs.Edid.{verdict, number_of}
use Rattle.edid_check.specs.Example.{example_block}
use Rattle.edid_check.proofs.Exactly.{accepted_length}
use Rattle.edid_check.proofs.Example.{example_accepted}
use Rattle.edid_feed.specs.Words.{pulses, clear_watchdog, lead, sending, sending_all, feed_words}
use Rattle.edid_feed_laws.specs.Observer.{Observer, observer_of, scl_of, vsynci_of, reset_of, iists_of, mdcon_of, edges_of, watchdog_of, observe, observed, permitted, throughout}
use Rattle.edid_feed_laws.specs.Levels.{byte_written, bytes_written, shows, sda_put, Level, level, levels_put, level_at, serial, Feeds, Bytes}
use Rattle.edid_feed_laws.proofs.Tracks.{observer}
use Rattle.edid_feed_laws.proofs.Theorems.{bytes_put, serial_length, levels_append, accepted_put}

-- ---- lists one after the other

throughout_append : (o : Observer) (us vs : List ℕ) → throughout o (us ++ vs) ≡ (throughout o us && throughout (observed o us) vs)
throughout_append o [] vs = refl
throughout_append o (u ∷ us) vs = rw (throughout_append (observe o (decode u)) us vs) (sym (and_assoc (permitted o (decode u)) _ _))

bytes_append : (o : Observer) (us vs : List ℕ) → bytes_written o (us ++ vs) ≡ bytes_written o us ++ bytes_written (observed o us) vs
bytes_append o [] vs = refl
bytes_append o (u ∷ us) vs = rw (bytes_append (observe o (decode u)) us vs) (sym (append_assoc (byte_written o (decode u)) _ _))

observed_append : (o : Observer) (us vs : List ℕ) → observed o (us ++ vs) ≡ observed (observed o us) vs
observed_append o [] vs = refl
observed_append o (u ∷ us) vs = observed_append (observe o (decode u)) us vs

-- a list from the observer o on: it keeps to the conditions, writes bs, puts n levels and leaves the observer p
pub record Sends (o : Observer) (ws bs : List ℕ) (n : ℕ) (p : Observer) : Type 0 where
  pub fits : throughout o ws ≡ true
  pub writes : bytes_written o ws ≡ bs
  pub puts : (c : Chip) → length (levels_put o c ws) ≡ n
  pub ends : observed o ws ≡ p

sends_append : {o p q : Observer} {us vs xs ys : List ℕ} {m n : ℕ} → Sends o us xs m p → Sends p vs ys n q → Sends o (us ++ vs) (xs ++ ys) (m + n) q
sends_append {o} {p} {q} {us} {vs} {xs} {ys} {m} {n} x y =
    record {
      fits = throughout_append o us vs ∙ rw (x.fits, x.ends) y.fits;
      writes = bytes_append o us vs ∙ rw (x.writes, x.ends) (ap (λ (l : List ℕ). xs ++ l) y.writes);
      puts = λ c.
          ap length (levels_append o c us vs)
          ∙ length-append (levels_put o c us) (levels_put (observed o us) (after c us) vs)
          ∙ rw (x.puts c, x.ends) (ap (λ (k : ℕ). m + k) (y.puts (after c us)));
      ends = observed_append o us vs ∙ rw x.ends y.ends;
    }

-- a word that puts no level
word_sends : (o : Observer) (w : ℕ) (e : Decoded) → decode w ≡ e → permitted o e ≡ true → shows o e ≡ false → Sends o (w ∷ []) (byte_written o e) 0 (observe o e)
word_sends o w e d h k =
    record {
      fits = rw (d, h);
      writes = rw d (append-nil (byte_written o e));
      puts = λ c. rw (d, k);
      ends = rw d;
    }

-- ---- the words of `feed`

-- ready for a byte: RESET high, DDC1, no rise left
abbrev ready : Bool → Bool → ℕ → Bool → Observer
ready s v w loaded = observer true s v false true 0 w loaded false

-- with a byte in II DAT
abbrev full : Bool → Bool → ℕ → Bool → Observer
full s v w loaded = observer true s v false true 0 w loaded true

pulses_send : (s v : Bool) (w : ℕ) (loaded : Bool) → Sends (full s v w loaded) (pulses 9) [] 9 (ready s true w true)
unfolding observe permitted decode no_event no_place bad_byte event
pulses_send s true w loaded = record { fits = refl; writes = refl; puts = λ c. refl; ends = refl }
pulses_send s false w loaded = record { fits = refl; writes = refl; puts = λ c. refl; ends = refl }

clear_sends : (s v : Bool) (w : ℕ) (loaded : Bool) → Sends (ready s v w loaded) (clear_watchdog ∷ []) [] 0 (ready s v 0 loaded)
unfolding observe permitted is_writable row_of table decode no_event no_place bad_byte event
clear_sends s v w loaded = record { fits = refl; writes = refl; puts = λ c. refl; ends = refl }

write_sends : (s v : Bool) (w : ℕ) (loaded : Bool) (b : ℕ) → b < 256 → Sends (ready s v w loaded) (event_word 2 IIDAT b ∷ []) (b ∷ []) 0 (full s v w loaded)
unfolding observe permitted is_writable row_of table
write_sends s v w loaded b h =
    word_sends (ready s v w loaded) (event_word 2 IIDAT b) (Ok (Write IIDAT b)) (decode_encode (Ok (Write IIDAT b)) (omega arith, h)) refl refl

byte_sends : (s v : Bool) (w : ℕ) (loaded : Bool) (b : ℕ) → b < 256 → Sends (ready s v w loaded) (sending b) (b ∷ []) 9 (ready s true 0 true)
unfolding sending
byte_sends s v w loaded b h =
    sends_append (clear_sends s v w loaded) (sends_append (write_sends s v 0 loaded b h) (pulses_send s v 0 loaded))

-- DDC off, RESET high
abbrev turned_off : Bool → Bool → Bool → ℕ → ℕ → Observer
turned_off s v md n w = observer true s v true md n w false false

lead_sends : (s v md : Bool) (n w : ℕ) → Sends (turned_off s v md n w) lead [] 0 (ready s true 0 false)
unfolding lead observe permitted is_writable row_of table bit decode no_event no_place bad_byte event
lead_sends s true md n w = record { fits = refl; writes = refl; puts = λ c. refl; ends = refl }
lead_sends s false md n w = record { fits = refl; writes = refl; puts = λ c. refl; ends = refl }

-- whether a byte was loaded, after bytes are sent
abbrev after_all : Bool → List ℕ → Bool
after_all loaded [] = loaded
after_all loaded (b ∷ bs) = after_all true bs

all_send : (s : Bool) (loaded : Bool) (bs : List ℕ) → Bytes bs → Sends (ready s true 0 loaded) (sending_all bs) bs (9 * length bs) (ready s true 0 (after_all loaded bs))
all_send s loaded [] h = record { fits = refl; writes = refl; puts = λ c. refl; ends = refl }
all_send s loaded (b ∷ bs) h =
    let n : 9 * length (b ∷ bs) ≡ 9 + 9 * length bs = omega arith in
    rw n (sends_append (byte_sends s true 0 loaded b (h 0)) (all_send s true bs (λ i. h (suc i))))

-- ---- from every well formed state with DDC off and RESET high

module _ (c : Chip) (high : reset_of c.core ≡ true) (off : bit ENDDC (iists_of c.core) ≡ true) (block : List ℕ) (h : Bytes block) where
  at_first : observer_of c ≡ turned_off (scl_of c.core) (vsynci_of c.core) (bit 0 (mdcon_of c.core)) (edges_of c.core) (watchdog_of c.core)
  at_first = rw (high, off)

  feed_sends : Sends (observer_of c) (feed_words block) block (9 * length block) (ready (scl_of c.core) true 0 (after_all false block))
  unfolding feed_words
  feed_sends =
      let n : 9 * length block ≡ 0 + 9 * length block = omega arith in
      rw (at_first, n) (sends_append (lead_sends (scl_of c.core) (vsynci_of c.core) (bit 0 (mdcon_of c.core)) (edges_of c.core) (watchdog_of c.core)) (all_send (scl_of c.core) false block h))

  -- the words that send a block keep to the conditions and write its bytes
  pub feed_feeds : Feeds c block (feed_words block)
  feed_feeds = record { kept = feed_sends.fits; bytes = rw feed_sends.writes (sym (take-length block)) }

  -- nine levels for each byte
  pub feed_levels : length (levels_put (observer_of c) c (feed_words block)) ≡ 9 * length block
  feed_levels = feed_sends.puts c

  -- and the levels are the block's bits, with the null bits
  pub feed_put : well_formed c ≡ true → levels_put (observer_of c) c (feed_words block) ≡ serial block
  feed_put w =
      sym (bytes_put c w (feed_words block) feed_sends.fits)
      ∙ rw (feed_levels, feed_sends.writes, ← (serial_length block)) (take-length (serial block))

  -- of an accepted block each of the 128 bytes comes out, top bit first
  pub accepted_fed : well_formed c ≡ true → number_of (verdict block) ≡ 0 → (k j : ℕ) → k < 128 → j < 8
      → (level_at (levels_put (observer_of c) c (feed_words block)) (9 * k + j)).put ≡ bit (7 - j) (get_or block k 0)
  accepted_fed w a k j n i =
      ap (λ (ws : List ℕ). (level_at (levels_put (observer_of c) c ws) (9 * k + j)).put) (sym (append-nil (feed_words block)))
      ∙ (accepted_put c w block (feed_words block) [] feed_feeds k j (omega (arith, feed_levels, accepted_length block a)) a n i).1

-- ---- a fresh chip is such a state

fresh_high : reset_of fresh.core ≡ true
unfolding fresh reset_at
fresh_high = refl

fresh_off : bit ENDDC (iists_of fresh.core) ≡ true
unfolding fresh reset_at bit reset_value row_of table
fresh_off = refl

pub fresh_fed : (block : List ℕ) → Bytes block → number_of (verdict block) ≡ 0 → (k j : ℕ) → k < 128 → j < 8
    → (level_at (levels_put (observer_of fresh) fresh (feed_words block)) (9 * k + j)).put ≡ bit (7 - j) (get_or block k 0)
fresh_fed block h a k j n i = accepted_fed fresh fresh_high fresh_off block h fresh_well_formed a k j n i

-- ---- and there are accepted blocks: one of them

abbrev all_bytes : List ℕ → Bool
all_bytes [] = true
all_bytes (b ∷ bs) = ltb b 256 && all_bytes bs

bytes_of : (bs : List ℕ) → all_bytes bs ≡ true → Bytes bs
bytes_of [] h i = omega arith
bytes_of (b ∷ bs) h zero = ltb-true b 256 (both (ltb b 256) _ h).0
bytes_of (b ∷ bs) h (suc i) = bytes_of bs (both (ltb b 256) _ h).1 i

example_bytes : all_bytes example_block ≡ true
unfolding example_block
example_bytes = refl

-- so its first byte that is not FF or 00, 62H at place 8, comes out of a fresh chip: 0 1 1 0 0 0 1 0
pub example_fed : (j : ℕ) → j < 8 → (level_at (levels_put (observer_of fresh) fresh (feed_words example_block)) (9 * 8 + j)).put ≡ bit (7 - j) 0x62
unfolding example_block
example_fed j h = fresh_fed example_block (bytes_of example_block example_bytes) example_accepted 8 j (omega arith) h
