-- Each of the ten lines that a dump shows is that of the chip after the words so far: `run-shows-level`.
-- Assumes nothing.
use mathlib.Core.Bool.{Bool, true, false}
use mathlib.Core.Path.{◌≡◌, refl, sym, ap, ◌∙◌}
use mathlib.Core.List.{List, [], ◌∷◌, ◌++◌}
use Prim.Native.Nat.{ℕ, zero, suc, ◌+◌, ◌/◌, ◌%◌, ◌<◌}
use native.Mathlib.Omega.{arith}
use lib.Dec.{eqb}
use borrow.Author.Tests.{eqb-true, eq-eqb, ne_eqb}
use Rattle.bits.specs.Byte.{pick}
use Rattle.events.specs.Word.{decode}
use Rattle.chip.specs.declared.Chip.{Chip}
use Rattle.step.specs.Step.{advance}
use Rattle.list_call.specs.Run.{advanced}
use Rattle.wave_write.specs.declared.Watch.{Watch}
use Rattle.wave_write.specs.declared.Writer.{Writer}
use Rattle.wave_write.specs.Watch.{width_of, aligned}
use Rattle.wave_write.specs.Lines.{Line, time, pin, level, vector, first, Event, is_pin, pin_lines, level_lines, vector_lines, watch_lines, same_watch, change_lines, event_lines, moved, lines, after, fresh, time_of}
use Rattle.wave_watch.specs.Watched.{watch_of}
use Rattle.wave_run.specs.Run.{events_of}
use Rattle.wave_run_laws.specs.Shown.{level_at, shown_level}

shown_append : (k : ℕ) (v : Bool) (xs ys : List Line) → shown_level k v (xs ++ ys) ≡ shown_level k (shown_level k v xs) ys
unfolding shown_level
shown_append k v [] ys = refl
shown_append k v (time t ∷ xs) ys = shown_append k v xs ys
shown_append k v (pin high p ∷ xs) ys = shown_append k v xs ys
shown_append k v (level high j ∷ xs) ys = shown_append k (pick (eqb j k) high v) xs ys
shown_append k v (vector n x j ∷ xs) ys = shown_append k v xs ys
shown_append k v (first high p ∷ xs) ys = shown_append k v xs ys

-- ---- one line of ten

passed : (b high : Bool) (j k : ℕ) (v : Bool) (ls : List Line) → eqb j k ≡ false → shown_level k v (pick b ls (level high j ∷ ls)) ≡ shown_level k v ls
unfolding shown_level
passed true high j k v ls e = refl
passed false high j k v ls e = ap (λ (b : Bool). shown_level k (pick b high v) ls) e

-- lines past the k-th leave it as it is
levels_past : (n j k old new : ℕ) (v : Bool) → k < j → shown_level k v (level_lines n j old new) ≡ v
unfolding level_lines shown_level
levels_past zero j k old new v h = refl
levels_past (suc n) j k old new v h =
    passed (eqb (old % 2) (new % 2)) (eqb (new % 2) 1) j k v (level_lines n (j + 1) (old / 2) (new / 2)) (ne_eqb j k (λ e. omega arith))
    ∙ levels_past n (j + 1) k (old / 2) (new / 2) v (omega arith)

own : (b : Bool) (o n j : ℕ) (ls : List Line) → eqb o n ≡ b → ((v : Bool) → shown_level j v ls ≡ v) → shown_level j (eqb o 1) (pick b ls (level (eqb n 1) j ∷ ls)) ≡ eqb n 1
unfolding shown_level
own true o n j ls e h = h (eqb o 1) ∙ ap (λ (x : ℕ). eqb x 1) (eqb-true o n e)
own false o n j ls e h = ap (λ (b : Bool). shown_level j (pick b (eqb n 1) (eqb o 1)) ls) (eq-eqb j j refl) ∙ h (eqb n 1)

levels_show : (n j d old new : ℕ) → d < n → shown_level (j + d) (level_at d old) (level_lines n j old new) ≡ level_at d new
unfolding level_lines level_at
levels_show zero j d old new h = absurd (omega arith)
levels_show (suc n) j zero old new h =
    let z : j + 0 ≡ j = omega arith in
    rw z (own (eqb (old % 2) (new % 2)) (old % 2) (new % 2) j (level_lines n (j + 1) (old / 2) (new / 2)) refl (λ v. levels_past n (j + 1) j (old / 2) (new / 2) v (omega arith)))
levels_show (suc n) j (suc d) old new h =
    let z : j + suc d ≡ (j + 1) + d = omega arith in
    passed (eqb (old % 2) (new % 2)) (eqb (new % 2) 1) j (j + suc d) (level_at d (old / 2)) (level_lines n (j + 1) (old / 2) (new / 2)) (ne_eqb j (j + suc d) (λ e. omega arith))
    ∙ rw z (levels_show n (j + 1) d (old / 2) (new / 2) (omega arith))

-- ---- the lines of an event

pins_pass : (b high : Bool) (p k : ℕ) (v : Bool) → shown_level k v (pick b (pin high p ∷ []) []) ≡ v
unfolding shown_level
pins_pass true high p k v = refl
pins_pass false high p k v = refl

pin_passes : (word k : ℕ) (v : Bool) → shown_level k v (pin_lines word) ≡ v
unfolding pin_lines
pin_passes word k v = pins_pass (is_pin word) _ _ k v

vector_pass : (b : Bool) (n x j k : ℕ) (v : Bool) (ls : List Line) → shown_level k v (pick b ls (vector n x j ∷ ls)) ≡ shown_level k v ls
unfolding shown_level
vector_pass true n x j k v ls = refl
vector_pass false n x j k v ls = refl

vectors_pass : (n j k old new : ℕ) (v : Bool) → shown_level k v (vector_lines n j old new) ≡ v
unfolding vector_lines shown_level
vectors_pass zero j k old new v = refl
vectors_pass (suc n) j k old new v =
    vector_pass (eqb (old % 4096) (new % 4096)) (width_of j) (aligned j (new % 4096)) j k v (vector_lines n (j + 1) (old / 4096) (new / 4096))
    ∙ vectors_pass n (j + 1) k (old / 4096) (new / 4096) v

module _ (k : ℕ) (h : k < 10) where
  watch_shows : (old new : Watch) → shown_level k (level_at k old.levels) (watch_lines old new) ≡ level_at k new.levels
  watch_shows old new =
      let z : 0 + k ≡ k = omega arith in
      shown_append k _ (level_lines 10 0 old.levels new.levels) (vector_lines 6 0 old.vectors new.vectors)
      ∙ vectors_pass 6 0 k old.vectors new.vectors _
      ∙ (rw z at (levels_show 10 0 k old.levels new.levels h))

  change_shows : (t word : ℕ) (old new : Watch) → shown_level k (level_at k old.levels) (change_lines t word old new) ≡ level_at k new.levels
  unfolding shown_level
  change_shows t word old new =
      shown_append k _ (pin_lines word) (watch_lines old new)
      ∙ ap (λ (v : Bool). shown_level k v (watch_lines old new)) (pin_passes word k (level_at k old.levels))
      ∙ watch_shows old new

  same_levels : (a b : Bool) (old new : ℕ) → eqb old new ≡ a → pick a b false ≡ true → level_at k old ≡ level_at k new
  same_levels true b old new e f = ap (level_at k) (eqb-true old new e)
  same_levels false b old new e f = absurd (let o : ◌≡◌ {A = ℕ} 0 1 = cc in omega arith)

  watch_same : (old new : Watch) → same_watch old new ≡ true → level_at k old.levels ≡ level_at k new.levels
  unfolding same_watch
  watch_same old new e = same_levels (eqb old.levels new.levels) (eqb old.vectors new.vectors) old.levels new.levels refl e

  either_shows : (p q : Bool) (t word : ℕ) (old new : Watch) → same_watch old new ≡ q
      → shown_level k (level_at k old.levels) (pick p (change_lines t word old new) (pick q [] (change_lines t word old new))) ≡ level_at k new.levels
  either_shows true q t word old new e = change_shows t word old new
  either_shows false true t word old new e = unfold shown_level in watch_same old new e
  either_shows false false t word old new e = change_shows t word old new

  event_shows : (w : Writer) (word : ℕ) (watch : Watch) → shown_level k (level_at k w.watch.levels) (event_lines w word watch) ≡ level_at k watch.levels
  unfolding event_lines
  event_shows w word watch = either_shows (is_pin word) (same_watch w.watch watch) (time_of (moved w word watch)) word w.watch watch refl

-- ---- a list of events

watch_by : (b : Bool) (x y : Writer) (watch : Watch) → x.watch ≡ watch → y.watch ≡ watch → (pick b x y).watch ≡ watch
watch_by true x y watch e f = e
watch_by false x y watch e f = f

pub moved_watch : (w : Writer) (word : ℕ) (watch : Watch) → (moved w word watch).watch ≡ watch
unfolding moved
moved_watch w word watch = watch_by (eqb word 67108864) _ _ watch refl refl

-- after the lines of events each line is as it is watched after the last event
pub lines_show_level : (k : ℕ) → k < 10 → (w : Writer) (es : List Event) → shown_level k (level_at k w.watch.levels) (lines w es) ≡ level_at k (after w es).watch.levels
unfolding lines after shown_level
lines_show_level k h w [] = refl
lines_show_level k h w (e ∷ es) =
    let next = moved w e.word e.watch in
    shown_append k _ (event_lines w e.word e.watch) (lines next es)
    ∙ ap (λ (v : Bool). shown_level k v (lines next es)) (event_shows k h w e.word e.watch ∙ ap (λ (x : Watch). level_at k x.levels) (sym (moved_watch w e.word e.watch)))
    ∙ lines_show_level k h next es

-- ---- a run

pub after_watch : (c : Chip) (words : List ℕ) (w : Writer) → w.watch ≡ watch_of c → (after w (events_of c words)).watch ≡ watch_of (advanced c words)
unfolding after events_of
after_watch c [] w e = e
after_watch c (word ∷ words) w e = after_watch (advance c (decode word)).chip words (moved w word (watch_of (advance c (decode word)).chip)) (moved_watch w word (watch_of (advance c (decode word)).chip))

-- each of the ten lines: after the lines that the words so far add to the dump a viewer shows it as it is at the chip after these words
pub run_shows_level : (k : ℕ) → k < 10 → (c : Chip) (words : List ℕ)
    → shown_level k (level_at k (watch_of c).levels) (lines (fresh (watch_of c)) (events_of c words)) ≡ level_at k (watch_of (advanced c words)).levels
run_shows_level k h c words =
    lines_show_level k h (fresh (watch_of c)) (events_of c words) ∙ ap (λ (x : Watch). level_at k x.levels) (after_watch c words (fresh (watch_of c)) refl)
