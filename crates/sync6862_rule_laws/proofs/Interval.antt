-- The interval over any list of calls that leaves ENHSEL and HSEL as they are, pulses between the clocks or not: its value and the clocks, modulo its length; where HCNT
-- counts per field it stands.
use Prim.Native.Nat.{ℕ, suc, ◌+◌, ◌%◌, ◌<◌}
use mathlib.Core.Path.{◌≡◌, refl, sym, ap, ◌∙◌}
use mathlib.Core.Bool.{Bool, true, false, not, ◌&&◌, true≢false}
use mathlib.Core.List.{List, [], ◌∷◌}
use native.Mathlib.Omega.{arith}
use native.Mathlib.Nat.{mod-eq_of_lt}
use borrow.Author.Tests.{not-true}
use Rattle.bits.specs.Byte.{pick, num}
use Rattle.bits.proofs.Finite.{both}
use Rattle.counters.specs.Count.{cycle_next, cycles}
use Rattle.counters.proofs.Counting.{cycles_remainder}
use Rattle.sync.specs.Sync.{on_hsync, on_vsync, clear_overflow}
use Rattle.sync.specs.declared.Sync.{Sync}
use Rattle.sync6862.specs.declared.Part.{Part}
use Rattle.sync6862.specs.declared.Part.TheVariants.{Nt6861, Nt6862}
use Rattle.sync6862.specs.declared.Counters.{Counters}
use Rattle.sync6862.specs.declared.Call.{Call}
use Rattle.sync6862.specs.declared.Call.TheVariants.{Hsynci, Vsynci, Clock, Enhsel, Hsel, ClearH, ClearV}
use Rattle.sync6862.specs.Unit.{periods_last, interval_last, per_field, differs, restarts, interval_next_to, on_period_to, hsync_moved, vsync_moved, clocked, hsel_set, enhsel_set, cleared_h, cleared_v, on_enhsel, well_formed, answered, answer, left}
use Rattle.sync6862.proofs.WellFormed.{within, well_kept}
use Rattle.sync6862_laws.specs.Counting.{run, is_clock, period_clocks, changes_enhsel, never}
use Rattle.sync6862_laws.proofs.Effects.{done}
use Rattle.sync6862_rule_laws.specs.Choice.{changes_choice}

-- what a call leaves of chip, HSEL and interval where it changes no choice
record Kept (s : Counters) (call : Call) (after : Counters) : Type 0 where
  pub part : after.part ≡ s.part
  pub hsel : after.hsel ≡ s.hsel
  pub interval : after.sync.interval ≡ pick (is_clock call) (interval_next_to (per_field s.part s.hsel) (interval_last s.part s.hsel) s.sync.interval) s.sync.interval

same_value : (old new : Bool) → differs old new ≡ false → new ≡ old
same_value true true h = refl
same_value true false h = absurd (true≢false h)
same_value false true h = absurd (true≢false h)
same_value false false h = refl

no_restart : (part : Part) (old : Bool) → restarts part old old ≡ false
unfolding restarts
no_restart Nt6861 true = refl
no_restart Nt6861 false = refl
no_restart (Nt6862 enhsel) true = refl
no_restart (Nt6862 enhsel) false = refl

hsync_interval : (rise : Bool) (s : Sync) → (pick rise (on_hsync s) s).interval ≡ s.interval
unfolding on_hsync
hsync_interval true s = refl
hsync_interval false s = refl

vsync_interval : (rise field : Bool) (s : Sync) → (pick rise (on_vsync field s) s).interval ≡ s.interval
unfolding on_vsync
vsync_interval true field s = refl
vsync_interval false field s = refl

enhsel_by : (s : Counters) (part : Part) (new : Bool) → s.part ≡ part → changes_enhsel part new ≡ false → Kept s (Enhsel new) (left s (on_enhsel part s new))
unfolding on_enhsel enhsel_set
enhsel_by s Nt6861 new e h = record { part = refl; hsel = refl; interval = refl }
enhsel_by s (Nt6862 old) new e h = rw h (record { part = rw (same_value old new h) (sym e); hsel = refl; interval = refl })

kept_as : (s : Counters) (call : Call) → changes_choice s call ≡ false → Kept s call (left s (answered s call))
unfolding answered hsync_moved vsync_moved clocked on_period_to hsel_set cleared_h cleared_v clear_overflow changes_choice
kept_as s (Hsynci level) h = record { part = refl; hsel = refl; interval = hsync_interval (level && not s.hsynci) s.sync }
kept_as s (Vsynci level) h = record { part = refl; hsel = refl; interval = vsync_interval (level && not s.vsynci) (per_field s.part s.hsel) s.sync }
kept_as s Clock h = record { part = refl; hsel = refl; interval = refl }
kept_as s (Enhsel new) h = enhsel_by s s.part new refl h
kept_as s (Hsel new) h = rw (same_value s.hsel new h, no_restart s.part s.hsel) (record { part = refl; hsel = refl; interval = refl })
kept_as s ClearH h = record { part = refl; hsel = refl; interval = refl }
kept_as s ClearV h = record { part = refl; hsel = refl; interval = refl }

kept : (s : Counters) (call : Call) → well_formed s ≡ true → changes_choice s call ≡ false → Kept s call (left s (answer s call))
kept s call w h = rw (done s call w) (kept_as s call h)

-- ---- a list

-- per interval: one clock more of the cycle, or none
one_more : (clock : Bool) (last k n : ℕ) → n ≡ cycles last k → pick clock (interval_next_to false last n) n ≡ cycles last (num clock + k)
unfolding interval_next_to cycles
one_more true last k n e = let more : 1 + k ≡ suc k = omega arith in rw more (ap (cycle_next last) e)
one_more false last k n e = let same : 0 + k ≡ k = omega arith in rw same e

over_calls : (s : Counters) (calls : List Call) (k : ℕ) → well_formed s ≡ true → never changes_choice s calls ≡ true → per_field s.part s.hsel ≡ false →
    s.sync.interval ≡ cycles (interval_last s.part s.hsel) k → (run s calls).sync.interval ≡ cycles (interval_last s.part s.hsel) (period_clocks calls + k)
unfolding run never
over_calls s [] k w z f e = let same : 0 + k ≡ k = omega arith in rw same e
over_calls s (call ∷ calls) k w z f e =
    let two = both (not (changes_choice s call)) (never changes_choice (left s (answer s call)) calls) z in
    let c = kept s call w (not-true (changes_choice s call) two.0) in
    let next : Counters = left s (answer s call) in
    let last : ℕ = interval_last s.part s.hsel in
    let field : per_field next.part next.hsel ≡ false = rw (c.part, c.hsel) f in
    let length : interval_last next.part next.hsel ≡ last = rw (c.part, c.hsel) refl in
    let count : next.sync.interval ≡ cycles (interval_last next.part next.hsel) (num (is_clock call) + k) =
    c.interval ∙ ap (λ (t : Bool). pick (is_clock call) (interval_next_to t last s.sync.interval) s.sync.interval) f ∙ one_more (is_clock call) last k s.sync.interval e
    ∙ ap (λ (l : ℕ). cycles l (num (is_clock call) + k)) (sym length) in
    let sum : period_clocks calls + (num (is_clock call) + k) ≡ num (is_clock call) + period_clocks calls + k = omega arith in
    over_calls next calls (num (is_clock call) + k) (well_kept s call w) two.1 field count ∙ ap (λ (l : ℕ). cycles l (period_clocks calls + (num (is_clock call) + k))) length ∙ ap (cycles last) sum

pub interval_runs : (s : Counters) (calls : List Call) → well_formed s ≡ true → never changes_choice s calls ≡ true → per_field s.part s.hsel ≡ false →
    (run s calls).sync.interval ≡ (period_clocks calls + s.sync.interval) % (interval_last s.part s.hsel + 1)
unfolding well_formed
interval_runs s calls w z f =
    let last : ℕ = interval_last s.part s.hsel in
    let most = (within (periods_last s.part) last s.sync w).interval in
    let below : s.sync.interval < last + 1 = omega arith in
    over_calls s calls s.sync.interval w z f (sym (mod-eq_of_lt below) ∙ sym (cycles_remainder last s.sync.interval)) ∙ cycles_remainder last (period_clocks calls + s.sync.interval)

-- where HCNT counts per field
stays : (clock : Bool) (last n : ℕ) → pick clock (interval_next_to true last n) n ≡ n
unfolding interval_next_to
stays true last n = refl
stays false last n = refl

pub interval_stands : (s : Counters) (calls : List Call) → well_formed s ≡ true → never changes_choice s calls ≡ true → per_field s.part s.hsel ≡ true → (run s calls).sync.interval ≡ s.sync.interval
unfolding run never
interval_stands s [] w z f = refl
interval_stands s (call ∷ calls) w z f =
    let two = both (not (changes_choice s call)) (never changes_choice (left s (answer s call)) calls) z in
    let c = kept s call w (not-true (changes_choice s call) two.0) in
    let next : Counters = left s (answer s call) in
    let last : ℕ = interval_last s.part s.hsel in
    let field : per_field next.part next.hsel ≡ true = rw (c.part, c.hsel) f in
    interval_stands next calls (well_kept s call w) two.1 field ∙ c.interval ∙ ap (λ (t : Bool). pick (is_clock call) (interval_next_to t last s.sync.interval) s.sync.interval) f ∙ stays (is_clock call) last s.sync.interval
