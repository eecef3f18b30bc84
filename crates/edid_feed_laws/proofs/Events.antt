-- Every event, and every list of words, at a chip that is fed.
-- Assumes nothing.
use Prim.Native.Nat.{ℕ, ◌+◌, ◌<◌}
use mathlib.Core.Path.{◌≡◌, refl}
use mathlib.Core.List.{List, [], ◌∷◌, ◌++◌}
use mathlib.Core.Bool.{Bool, true, false, not, ◌&&◌, ◌||◌, beq, true≢false}
use lib.ListN.{length, take}
use lib.Dec.{eqb, ltb}
use borrow.Author.Tests.{eqb-true, not-true, not-false}
use Rattle.bits.specs.Byte.{pick, bit}
use Rattle.bits.proofs.Finite.{both, neither}
use Rattle.registers.specs.Names.{BTCON}
use Rattle.registers.specs.Table.{is_writable}
use Rattle.std.specs.Prelude.{Ok, Err}
use Rattle.events.specs.Decoded.{Decoded}
use Rattle.events.specs.declared.Event.TheVariants.{Read, Write, Pin, Clock, Polarity}
use Rattle.events.specs.Word.{decode, InRange}
use Rattle.events.proofs.Refused.{decode_in_range}
use Rattle.chip.specs.declared.Core.{Core}
use Rattle.chip.specs.declared.Chip.{Chip}
use Rattle.chip.specs.State.{chip_of, register_at, keep, with_reset, with_watchdog}
use Rattle.counters.specs.Count.{cycle_next, watchdog_next, watchdog_fires}
use Rattle.chip_writes.specs.declared.Target.{Target}
use Rattle.chip_writes.proofs.Addresses.{Addressed, at_mdcon, at_hvcon, at_clrflg, at_clrwdt, at_iiadr, at_iidat, at_iists, at_bt, at_plain, addressed}
use Rattle.chip_writes.specs.Writes.{write_register}
use Rattle.chip_pins.specs.Pins.{pin_moved}
use Rattle.chip_pins.proofs.Numbers.{numbered}
use Rattle.bus_ddc2b.specs.Ddc2b.{phase_at_period}
use Rattle.chip_clocks.specs.Clocks.{period_clock, timer_runs, timer_step, timer_clock, watchdog_clock, clocked_as, clocked, polarity_found}
use Rattle.chip_events.specs.Outcome.{core_after, kept_after, next}
use Rattle.edid_feed_laws.specs.Observer.{Observer, vsynci_of, watchdog_of, observe_accepted, forbidden_write, observe, permitted, throughout}
use Rattle.edid_feed_laws.specs.Levels.{bytes_written, shows, sda_put, Level, level, by_shifts, serial}
use Rattle.edid_feed_laws.proofs.Tracks.{frame, observer, seen, ModeOf, Stage, Pending, Tracks, tracks, in_ddc2b_lem, kept, followed}
use Rattle.edid_feed_laws.proofs.Pins.{After, kind_moved}
use Rattle.edid_feed_laws.proofs.Writes.{write_by}

-- ---- clocks and polarity

module _ (btcon : ℕ) (g : Core) {a b loaded written : Bool} {y r n : ℕ} {p : List Bool} {d : List ℕ} (k : ModeOf g a b) (t : Stage a b loaded n r p) (w : Pending written y d) where
  watchdog_tracks : (z s : Bool) → permitted (seen g z s a b n loaded written) (Ok (Clock 3)) ≡ true
      → Tracks (clocked btcon (frame g z s y r n) 3) (observe (seen g z s a b n loaded written) (Ok (Clock 3))) p d
  unfolding clocked clocked_as watchdog_clock watchdog_fires watchdog_next cycle_next observe permitted
  watchdog_tracks false s h = tracks g false s k t w
  watchdog_tracks true s h =
      let few : ltb (watchdog_of g) 63 ≡ true = not-false _ (not-true _ h) in
      rw few (tracks (with_watchdog g (watchdog_of g + 1)) true s k t w)

  other_tracks : (z s period runs : Bool) → Tracks (pick period (period_clock (frame g z s y r n)) (pick runs (timer_step (frame g z s y r n)) (frame g z s y r n))) (seen g z s a b n loaded written) p d
  unfolding period_clock timer_step phase_at_period
  other_tracks z s true runs = tracks (period_clock g) z s k t w
  other_tracks z s false true = tracks (timer_step g) z s k t w
  other_tracks z s false false = tracks g z s k t w

  clock_tracks : (z s : Bool) (clock : ℕ) (watchdog : Bool) → eqb clock 3 ≡ watchdog → permitted (seen g z s a b n loaded written) (Ok (Clock clock)) ≡ true
      → Tracks (clocked btcon (frame g z s y r n) clock) (observe (seen g z s a b n loaded written) (Ok (Clock clock))) p d
  unfolding clocked clocked_as timer_clock observe
  clock_tracks z s clock true e h = rw (eqb-true clock 3 e) (watchdog_tracks z s (rw (eqb-true clock 3 e) at h))
  clock_tracks false s clock false e h = tracks g false s k t w
  clock_tracks true s clock false e h = rw e (other_tracks true s (eqb clock 0) (timer_runs btcon clock))

  polarity_tracks : (z s vertical l : Bool) → Tracks (polarity_found (frame g z s y r n) vertical l) (seen g z s a b n loaded written) p d
  unfolding polarity_found
  polarity_tracks false s vertical l = tracks g false s k t w
  polarity_tracks true s vertical l = tracks (polarity_found (with_reset g true) vertical l) true s k t w

-- ---- every event

pub event_moved : (rs : List ℕ) (g : Core) (z s : Bool) {a m loaded fresh : Bool} {y r n : ℕ} {p : List Bool} {d : List ℕ} → ModeOf g a m → Stage a m loaded n r p → Pending fresh y d
    → (e : Decoded) → InRange e → permitted (seen g z s a m n loaded fresh) e ≡ true
    → After (core_after (chip_of rs (frame g z s y r n)) e) (seen g z s a m n loaded fresh) e p d
unfolding core_after write_register pin_moved observe permitted
event_moved rs g z s k t w (Ok (Read x)) u h = kept (tracks g z s k t w)
event_moved rs g z s k t w (Ok (Write x b)) u h = write_by g z (is_writable x) s k t w x b u.1 h
event_moved rs g z s k t w (Ok (Pin q l)) u h = kind_moved g z s k t w (numbered q) l h
event_moved rs g z s k t w (Ok (Clock c)) u h = kept (clock_tracks (register_at rs BTCON) g k t w z s c (eqb c 3) refl h)
event_moved rs g z s k t w (Ok (Polarity v l)) u h = kept (polarity_tracks (register_at rs BTCON) g k t w z s v l)
event_moved rs g z s k t w (Err r) u h = kept (tracks g z s k t w)

-- ---- DDC2B stays, and no rise of VSYNCI shifts

pub data Ddc2bBy : Observer → Type 0 where
  ddc2b_by : (z s v : Bool) (n w : ℕ) (loaded fresh : Bool) → Ddc2bBy (observer z s v false false n w loaded fresh)

md_same : (x : Bool) → not (beq x false) ≡ false → x ≡ false
md_same true h = absurd (true≢false h)
md_same false h = refl

never_shows : (q z r y : Bool) → (q && ((z && (r && false)) && y)) ≡ false
never_shows false z r y = refl
never_shows true false r y = refl
never_shows true true false y = refl
never_shows true true true y = refl

ddc2b_written : (s u : Bool) (n w : ℕ) (loaded fresh : Bool) {to : Target} {x : ℕ} → Addressed to x → (b : ℕ)
    → forbidden_write (observer true s u false false n w loaded fresh) x b ≡ false → Ddc2bBy (observe_accepted (observer true s u false false n w loaded fresh) x b)
ddc2b_written s u n w loaded fresh at_mdcon b h = rw (md_same (bit 0 b) (neither (not (beq (bit 0 b) false)) false h).0) (ddc2b_by true s u _ _ loaded _)
ddc2b_written s u n w loaded fresh at_hvcon b h = ddc2b_by true s u _ _ loaded _
ddc2b_written s u n w loaded fresh at_clrflg b h = ddc2b_by true s u _ _ loaded _
ddc2b_written s u n w loaded fresh at_clrwdt b h = ddc2b_by true s u _ _ loaded _
ddc2b_written s u n w loaded fresh at_iiadr b h = ddc2b_by true s u _ _ loaded _
ddc2b_written s u n w loaded fresh at_iidat b h = ddc2b_by true s u _ _ loaded _
ddc2b_written s u n w loaded fresh at_iists b h = rw (neither (bit 3 b) false h).0 (ddc2b_by true s u _ _ loaded _)
ddc2b_written s u n w loaded fresh at_bt b h = ddc2b_by true s u _ _ loaded _
ddc2b_written s u n w loaded fresh {x = x} (at_plain p) b h = rw (p.iists, p.mdcon, p.clrwdt, p.iidat) (ddc2b_by true s u _ _ loaded _)

ddc2b_write : (z v s u : Bool) (n w : ℕ) (loaded fresh : Bool) (x b : ℕ) → not ((z && v) && forbidden_write (observer z s u false false n w loaded fresh) x b) ≡ true
    → Ddc2bBy (pick (z && v) (observe_accepted (observer z s u false false n w loaded fresh) x b) (observer z s u false false n w loaded fresh))
ddc2b_write false v s u n w loaded fresh x b h = ddc2b_by false s u n w loaded fresh
ddc2b_write true false s u n w loaded fresh x b h = ddc2b_by true s u n w loaded fresh
ddc2b_write true true s u n w loaded fresh x b h = ddc2b_written s u n w loaded fresh (addressed x) b (not-true _ h)

ddc2b_stays : {o : Observer} → Ddc2bBy o → (e : Decoded) → permitted o e ≡ true → Ddc2bBy (observe o e) × (shows o e ≡ false)
unfolding observe permitted
ddc2b_stays (ddc2b_by z s v n w loaded fresh) (Ok (Read x)) h = (ddc2b_by z s v n w loaded fresh, refl)
ddc2b_stays (ddc2b_by z s v n w loaded fresh) (Ok (Write x b)) h =
    (ddc2b_write z (is_writable x) s v n w loaded fresh x b h, refl)
ddc2b_stays (ddc2b_by z s v n w loaded fresh) (Ok (Pin q l)) h = (ddc2b_by _ _ _ _ w _ _, never_shows (eqb q 27) z (not v && l) _)
ddc2b_stays (ddc2b_by z s v n w loaded fresh) (Ok (Clock c)) h = (ddc2b_by z s v n _ loaded fresh, refl)
ddc2b_stays (ddc2b_by z s v n w loaded fresh) (Ok (Polarity x l)) h = (ddc2b_by z s v n w loaded fresh, refl)
ddc2b_stays (ddc2b_by z s v n w loaded fresh) (Err r) h = (ddc2b_by z s v n w loaded fresh, refl)

-- ---- a list of words

-- the levels without a test of the state at each word
abbrev pub levels_next : Observer → Chip → List ℕ → List Level
levels_next o c [] = []
levels_next o c (w ∷ ws) =
    pick (shows o (decode w)) (level (eqb o.left 0) (sda_put (next c (decode w)).core) ∷ []) [] ++ levels_next (observe o (decode w)) (next c (decode w)) ws

none_listed : {o : Observer} → Ddc2bBy o → (c : Chip) (ws : List ℕ) → throughout o ws ≡ true → levels_next o c ws ≡ []
none_listed i c [] h = refl
none_listed {o} i c (w ∷ ws) h =
    let one = both (permitted o (decode w)) _ h in
    let stays = ddc2b_stays i (decode w) one.0 in
    rw stays.1 (none_listed {o = observe o (decode w)} stays.0 (next c (decode w)) ws one.1)

pub tracked_levels : (rs : List ℕ) {c : Core} {o : Observer} {p : List Bool} {d : List ℕ} → Tracks c o p d → (ws : List ℕ) → throughout o ws ≡ true
    → take (length (levels_next o (chip_of rs c) ws)) (by_shifts p ++ serial (d ++ bytes_written o ws)) ≡ levels_next o (chip_of rs c) ws
unfolding next
tracked_levels rs f [] h = refl
tracked_levels rs (in_ddc2b_lem c z s v n w loaded fresh p d) (x ∷ xs) h = rw (none_listed (ddc2b_by z s v n w loaded fresh) (chip_of rs c) (x ∷ xs) h)
tracked_levels rs {c} {o} (tracks g z s k t a) (w ∷ ws) h =
    let one = both (permitted o (decode w)) _ h in
    followed (event_moved rs g z s k t a (decode w) (decode_in_range w) one.0) (levels_next (observe o (decode w)) (next (chip_of rs c) (decode w)) ws)
    (bytes_written (observe o (decode w)) ws) (λ q e f. tracked_levels (keep (kept_after (chip_of rs c) (decode w)) rs) f ws one.1)
