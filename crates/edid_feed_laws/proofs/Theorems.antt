-- What the chip puts on SDA in DDC1 is what was written to II DAT, top bit first (document 02, Wish 7).
-- Assumes nothing.
use Prim.Native.Nat.{ℕ, zero, suc, ◌+◌, ◌*◌, ◌-◌, ◌<◌, ◌≤◌}
use mathlib.Core.Path.{◌≡◌, refl, ap, sym, ◌∙◌}
use mathlib.Core.List.{List, [], ◌∷◌, ◌++◌, append_assoc}
use mathlib.Core.Bool.{Bool, true, false, not, ◌&&◌, true≢false}
use native.Mathlib.Omega.{arith}
use lib.ListN.{length, get_or, take, length-append, length-take, get_or-append}
use lib.Dec.{eqb}
use borrow.Author.Tests.{lt-ltb}
use lib.Seq.{get_or-append-add, get_or-take}
use Rattle.bits.specs.Byte.{pick, bit}
use Rattle.bits.proofs.Finite.{both}
use Rattle.events.specs.Word.{decode}
use Rattle.bus.specs.declared.Phase.{Phase}
use Rattle.bus.specs.declared.Phase.TheVariants.{Idle, Address, Addressed, Ignoring, Receive, Transmit, Held}
use Rattle.bus.specs.Bus.{mode, mode_by, line}
use Rattle.chip.specs.declared.Core.{Core}
use Rattle.chip.specs.declared.Chip.{Chip}
use Rattle.chip.specs.State.{bus_of, with_bus}
use Rattle.chip_well_formed.specs.WellFormed.{is_idle, bus_fits, well_formed}
use Rattle.chip_events.specs.Outcome.{next}
use Rattle.step.specs.Step.{step, advance}
use Rattle.list_call.specs.Run.{after}
use Rattle.chip_laws.proofs.Formed.{formed}
use Rattle.chip_laws.proofs.WellFormed.{next_well_formed}
use Rattle.edid_check.specs.Edid.{verdict, number_of}
use Rattle.edid_check.proofs.Exactly.{accepted_length}
use Rattle.edid_feed_laws.specs.Observer.{Observer, observer_of, scl_of, vsynci_of, reset_of, iists_of, mdcon_of, edges_of, watchdog_of, observe, observed, throughout}
use Rattle.edid_feed_laws.specs.Levels.{bytes_written, shows, pulls_sda_now, sda_put, sda_outside, sda_level, Level, level, levels_put, level_at, levels_of, serial, level_of, Feeds}
use Rattle.edid_feed_laws.proofs.Tracks.{iiadr_of, iidat_of, phase_of, shifter_of, observer, turned_off_lem, awaiting, nothing, Tracks, tracks, in_ddc2b_lem}
use Rattle.edid_feed_laws.proofs.Events.{levels_next, tracked_levels}

-- ---- the first state

idle_of : (q : Phase) → is_idle q ≡ true → q ≡ Idle
unfolding is_idle
idle_of Idle h = refl
idle_of (Address count bits) h = absurd (true≢false (sym h))
idle_of (Addressed matched bits ninth) h = absurd (true≢false (sym h))
idle_of Ignoring h = absurd (true≢false (sym h))
idle_of (Receive matched count bits) h = absurd (true≢false (sym h))
idle_of (Transmit matched count byte) h = absurd (true≢false (sym h))
idle_of (Held matched clocks) h = absurd (true≢false (sym h))

abbrev at_phase : Core → Phase → Core
at_phase c q = with_bus c (bus_of (iists_of c) (iiadr_of c) (iidat_of c) q (shifter_of c))

first_by : (c : Core) (q : Phase) (e m : Bool) → bit 3 (iists_of c) ≡ e → bit 0 (mdcon_of c) ≡ m → bus_fits (mode_by e m) q (shifter_of c) ≡ true
    → Tracks (at_phase c q) (observer (reset_of c) (scl_of c) (vsynci_of c) e m (edges_of c) (watchdog_of c) false false) [] []
unfolding bus_fits
first_by c q true m h i b = rw (idle_of q (both (is_idle q) _ b).0) (tracks c (reset_of c) (scl_of c) (record { enddc = h; md12 = i }) (turned_off_lem m _ _) (nothing _))
first_by c q false true h i b = rw (idle_of q (both (is_idle q) _ b).0) (tracks c (reset_of c) (scl_of c) (record { enddc = h; md12 = i }) (awaiting _ _) (nothing _))
first_by c q false false h i b = in_ddc2b_lem _ _ _ _ _ _ _ _ _ _

-- the bus fits its mode, as in every well formed state
first : (c : Chip) → well_formed c ≡ true → Tracks c.core (observer_of c) [] []
unfolding mode
first c h = first_by c.core (phase_of c.core) _ _ refl refl (formed c h).core.bus.fits

-- ---- over every list: the bytes written, bit by bit

steps : (c : Chip) (w : ℕ) → well_formed c ≡ true → (step c w).chip ≡ next c (decode w)
unfolding step advance
steps c w h = rw h

levels_next_lem : (o : Observer) (c : Chip) (ws : List ℕ) → well_formed c ≡ true → levels_put o c ws ≡ levels_next o c ws
levels_next_lem o c [] h = refl
levels_next_lem o c (w ∷ ws) h =
    rw (steps c w h)
    (ap (λ (l : List Level). pick (shows o (decode w)) (level (eqb o.left 0) (sda_put (next c (decode w)).core) ∷ []) [] ++ l)
    (levels_next_lem (observe o (decode w)) (next c (decode w)) ws (next_well_formed c (decode w) h)))

-- from every well formed state, over every list that keeps to the conditions: the levels put from the first load on, one for each
-- rise, are the bytes written to II DAT, in order, top bit first and with a null bit 1 each, as far as the list goes
pub bytes_put : (c : Chip) → well_formed c ≡ true → (ws : List ℕ) → throughout (observer_of c) ws ≡ true
    → take (length (levels_put (observer_of c) c ws)) (serial (bytes_written (observer_of c) ws)) ≡ levels_put (observer_of c) c ws
bytes_put c h ws t = rw (levels_next_lem (observer_of c) c ws h) (tracked_levels c.registers (first c h) ws t)

-- ---- by places: nine levels for each byte

pub serial_length : (bs : List ℕ) → length (serial bs) ≡ 9 * length bs
serial_length [] = refl
serial_length (b ∷ bs) = rw (serial_length bs) (omega arith)

place_of : (b j : ℕ) → j < 9 → level_at (levels_of b) j ≡ level_of b j
place_of b zero h = refl
place_of b (suc zero) h = refl
place_of b (suc (suc zero)) h = refl
place_of b (suc (suc (suc zero))) h = refl
place_of b (suc (suc (suc (suc zero)))) h = refl
place_of b (suc (suc (suc (suc (suc zero))))) h = refl
place_of b (suc (suc (suc (suc (suc (suc zero)))))) h = refl
place_of b (suc (suc (suc (suc (suc (suc (suc zero))))))) h = refl
place_of b (suc (suc (suc (suc (suc (suc (suc (suc zero)))))))) h = refl
place_of b (suc (suc (suc (suc (suc (suc (suc (suc (suc j))))))))) h = absurd (omega arith)

serial_at : (bs : List ℕ) (k j : ℕ) → k < length bs → j < 9 → level_at (serial bs) (9 * k + j) ≡ level_of (get_or bs k 0) j
serial_at [] k j h i = absurd (omega arith)
serial_at (b ∷ bs) zero j h i =
    let e : 9 * 0 + j ≡ j = omega arith in
    rw e (get_or-append (levels_of b) (serial bs) (level false true) j i ∙ place_of b j i)
serial_at (b ∷ bs) (suc k) j h i =
    let e : 9 * suc k + j ≡ 9 + (9 * k + j) = omega arith in
    rw e (get_or-append-add (levels_of b) (serial bs) (9 * k + j) (level false true) ∙ serial_at bs k j (omega arith) i)

-- at most nine levels for each byte written
pub levels_few : (c : Chip) → well_formed c ≡ true → (ws : List ℕ) → throughout (observer_of c) ws ≡ true
    → length (levels_put (observer_of c) c ws) ≤ 9 * length (bytes_written (observer_of c) ws)
levels_few c h ws t =
    let n = sym (ap length (bytes_put c h ws t)) ∙ length-take (length (levels_put (observer_of c) c ws)) (serial (bytes_written (observer_of c) ws)) in
    omega (arith, n, serial_length (bytes_written (observer_of c) ws))

-- levels of a list are those of its first part, then those of the rest
pub levels_append : (o : Observer) (c : Chip) (us vs : List ℕ) → levels_put o c (us ++ vs) ≡ levels_put o c us ++ levels_put (observed o us) (after c us) vs
levels_append o c [] vs = refl
levels_append o c (u ∷ us) vs =
    rw (levels_append (observe o (decode u)) (step c u).chip us vs)
    (sym (append_assoc (pick (shows o (decode u)) (level (eqb o.left 0) (sda_put (step c u).chip.core) ∷ []) []) _ _))

-- level j after the load of byte k, both counted from 0, as far as the conditions hold; what the list does after its part us does
-- not count
pub level_put : (c : Chip) → well_formed c ≡ true → (us vs : List ℕ) → throughout (observer_of c) us ≡ true → (k j : ℕ) → j < 9
    → 9 * k + j < length (levels_put (observer_of c) c us)
    → level_at (levels_put (observer_of c) c (us ++ vs)) (9 * k + j) ≡ level_of (get_or (bytes_written (observer_of c) us) k 0) j
level_put c h us vs t k j i m =
    ap (λ (l : List Level). level_at l (9 * k + j)) (levels_append (observer_of c) c us vs)
    ∙ get_or-append (levels_put (observer_of c) c us) _ (level false true) (9 * k + j) m
    ∙ ap (λ (l : List Level). level_at l (9 * k + j)) (sym (bytes_put c h us t))
    ∙ get_or-take (length (levels_put (observer_of c) c us)) (serial (bytes_written (observer_of c) us)) (9 * k + j) (level false true) m
    ∙ serial_at (bytes_written (observer_of c) us) k j (omega (arith, levels_few c h us t)) i

-- ---- a block

module _ (c : Chip) (h : well_formed c ≡ true) (block us vs : List ℕ) (f : Feeds c block us) (k j : ℕ) (m : 9 * k + j < length (levels_put (observer_of c) c us)) where
  -- its bytes in order: the load and the seven rises next to it put byte k, the eighth rise the null bit
  pub block_put : j < 9 → level_at (levels_put (observer_of c) c (us ++ vs)) (9 * k + j) ≡ level_of (get_or block k 0) j
  block_put i =
      let few = levels_few c h us f.kept in
      level_put c h us vs f.kept k j i m
      ∙ ap (λ (b : ℕ). level_of b j)
      (ap (λ (l : List ℕ). get_or l k 0) f.bytes
      ∙ get_or-take (length (bytes_written (observer_of c) us)) block k 0 (omega (arith, few)))

  -- an accepted block: bit 7 - j of byte k, of 128
  pub accepted_put : number_of (verdict block) ≡ 0 → k < 128 → j < 8
      → (length block ≡ 128) × ((level_at (levels_put (observer_of c) c (us ++ vs)) (9 * k + j)).put ≡ bit (7 - j) (get_or block k 0))
  accepted_put a n i =
      (accepted_length block a, ap (λ (l : Level). l.put) (block_put (omega arith)) ∙ rw (lt-ltb j 8 i))

-- ---- the line

-- SDA's line is what is outside and what the chip puts
pub sda_line_lem : (c : Core) → sda_level c ≡ (sda_outside c && sda_put c)
sda_line_lem c = line_by (pulls_sda_now c) (sda_outside c)
  where
    line_by : (pulled outside : Bool) → line pulled outside ≡ (outside && not pulled)
    line_by true true = refl
    line_by true false = refl
    line_by false true = refl
    line_by false false = refl
