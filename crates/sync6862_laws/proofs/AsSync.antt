-- The unit for the NT6861 does what document 01's counters do on the same events, over any list of calls.
-- Assumes nothing.
use mathlib.Core.Path.{◌≡◌, refl, sym, ◌∙◌}
use mathlib.Core.Bool.{Bool, true}
use mathlib.Core.List.{List, [], ◌∷◌}
use Rattle.sync.specs.Sync.{clear_lines, clear_periods, step_periods, interval_next, lines_on_period, on_period, clear_overflow, well_sync}
use Rattle.sync6862.specs.declared.Part.TheVariants.{Nt6861}
use Rattle.std.specs.Prelude.{Ok}
use Rattle.sync6862.specs.declared.Call.{Call}
use Rattle.sync6862.specs.declared.Call.TheVariants.{Hsynci, Vsynci, Clock, Enhsel, Hsel, ClearH, ClearV}
use Rattle.sync6862.specs.Unit.{periods_last, interval_last, per_field, restarts, step_periods_to, interval_next_to, lines_on_period_to, on_period_to, well_to, well_formed, clear_lines_of, hsync_moved, vsync_moved, clocked, hsel_set, cleared_h, cleared_v, on_enhsel, answered, answer, fresh_as, fresh, left}
use Rattle.sync.proofs.WellFormed.{zero_well}
use Rattle.sync6862.proofs.WellFormed.{well_kept}
use Rattle.sync6862_laws.specs.Counting.{run}
use Rattle.sync6862_laws.specs.Base.{Base, base_step, base_run, base_fresh, unit_of}

-- well formed is what `sync` says
pub well_same : (b : Base) → well_formed (unit_of b) ≡ well_sync b.sync
unfolding well_formed well_to periods_last interval_last well_sync
well_same b = refl

hsel_same : (b : Base) (new : Bool) → left (unit_of b) (answered (unit_of b) (Hsel new)) ≡ unit_of (base_step b (Hsel new))
unfolding answered hsel_set base_step restarts
hsel_same b new = refl

clear_h_same : (b : Base) → left (unit_of b) (answered (unit_of b) ClearH) ≡ unit_of (base_step b ClearH)
unfolding answered cleared_h base_step clear_lines_of clear_overflow clear_lines clear_periods
clear_h_same b = refl

answered_same : (b : Base) (call : Call) → left (unit_of b) (answered (unit_of b) call) ≡ unit_of (base_step b call)
unfolding answered hsync_moved vsync_moved clocked hsel_set cleared_h cleared_v on_enhsel base_step per_field periods_last interval_last restarts clear_lines_of on_period_to lines_on_period_to interval_next_to step_periods_to on_period lines_on_period interval_next step_periods clear_overflow clear_lines clear_periods
answered_same b (Hsynci level) = refl
answered_same b (Vsynci level) = refl
answered_same b Clock = refl
answered_same b (Enhsel new) = refl
answered_same b (Hsel new) = hsel_same b new
answered_same b ClearH = clear_h_same b
answered_same b ClearV = refl

-- one call
pub call_same : (b : Base) (call : Call) → well_sync b.sync ≡ true → left (unit_of b) (answer (unit_of b) call) ≡ unit_of (base_step b call)
unfolding answer
call_same b call w = rw (well_same b, w) (answered_same b call)

-- a list of calls
pub runs_same : (b : Base) (calls : List Call) → well_sync b.sync ≡ true → run (unit_of b) calls ≡ unit_of (base_run b calls)
unfolding run base_run
runs_same b [] w = refl
runs_same b (call ∷ calls) w =
    let same = call_same b call w in
    let kept = well_kept (unit_of b) call (well_same b ∙ w) in
    rw same (runs_same (base_step b call) calls (sym (well_same (base_step b call)) ∙ rw same at kept))

-- from fresh
pub fresh_same : fresh 6861 ≡ Ok (unit_of base_fresh)
unfolding fresh fresh_as
fresh_same = refl

pub fresh_runs_same : (calls : List Call) → run (fresh_as Nt6861) calls ≡ unit_of (base_run base_fresh calls)
unfolding fresh_as
fresh_runs_same calls = runs_same base_fresh calls zero_well
