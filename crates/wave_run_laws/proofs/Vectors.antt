-- Each of the six vectors that a dump shows is that of the chip after the words so far: `run-shows-vector`.
-- Assumes nothing.
use mathlib.Core.Bool.{Bool, true, false}
use mathlib.Core.Path.{◌≡◌, refl, sym, ap, ◌∙◌}
use mathlib.Core.List.{List, [], ◌∷◌, ◌++◌}
use Prim.Native.Nat.{ℕ, zero, suc, ◌+◌, ◌/◌, ◌%◌, ◌<◌}
use native.Mathlib.Omega.{arith}
use lib.Dec.{eqb}
use borrow.Author.Tests.{eqb-true, eq-eqb, ne_eqb}
use Rattle.bits.specs.Byte.{pick}
use Rattle.chip.specs.declared.Chip.{Chip}
use Rattle.list_call.specs.Run.{advanced}
use Rattle.wave_write.specs.declared.Watch.{Watch}
use Rattle.wave_write.specs.declared.Writer.{Writer}
use Rattle.wave_write.specs.Watch.{width_of, aligned}
use Rattle.wave_write.specs.Lines.{Line, time, pin, level, vector, first, Event, is_pin, pin_lines, level_lines, vector_lines, watch_lines, same_watch, change_lines, event_lines, moved, lines, after, fresh, time_of}
use Rattle.wave_watch.specs.Watched.{watch_of}
use Rattle.wave_run.specs.Run.{events_of}
use Rattle.wave_run_laws.specs.Shown.{vector_at, shown_vector}
use Rattle.wave_run_laws.proofs.Levels.{moved_watch, after_watch}

shown_append : (k v : ℕ) (xs ys : List Line) → shown_vector k v (xs ++ ys) ≡ shown_vector k (shown_vector k v xs) ys
unfolding shown_vector
shown_append k v [] ys = refl
shown_append k v (time t ∷ xs) ys = shown_append k v xs ys
shown_append k v (pin high p ∷ xs) ys = shown_append k v xs ys
shown_append k v (level high j ∷ xs) ys = shown_append k v xs ys
shown_append k v (vector n x j ∷ xs) ys = shown_append k (pick (eqb j k) x v) xs ys
shown_append k v (first high p ∷ xs) ys = shown_append k v xs ys

-- ---- one vector of six

passed : (b : Bool) (n x j k v : ℕ) (ls : List Line) → eqb j k ≡ false → shown_vector k v (pick b ls (vector n x j ∷ ls)) ≡ shown_vector k v ls
unfolding shown_vector
passed true n x j k v ls e = refl
passed false n x j k v ls e = ap (λ (b : Bool). shown_vector k (pick b x v) ls) e

-- vectors past the k-th leave it as it is
vectors_past : (n j k old new v : ℕ) → k < j → shown_vector k v (vector_lines n j old new) ≡ v
unfolding vector_lines shown_vector
vectors_past zero j k old new v h = refl
vectors_past (suc n) j k old new v h =
    passed (eqb (old % 4096) (new % 4096)) (width_of j) (aligned j (new % 4096)) j k v (vector_lines n (j + 1) (old / 4096) (new / 4096)) (ne_eqb j k (λ e. omega arith))
    ∙ vectors_past n (j + 1) k (old / 4096) (new / 4096) v (omega arith)

own : (b : Bool) (o n j width : ℕ) (ls : List Line) → eqb o n ≡ b → ((v : ℕ) → shown_vector j v ls ≡ v) → shown_vector j (aligned j o) (pick b ls (vector width (aligned j n) j ∷ ls)) ≡ aligned j n
unfolding shown_vector
own true o n j width ls e h = h (aligned j o) ∙ ap (aligned j) (eqb-true o n e)
own false o n j width ls e h = ap (λ (b : Bool). shown_vector j (pick b (aligned j n) (aligned j o)) ls) (eq-eqb j j refl) ∙ h (aligned j n)

vectors_show : (n j d old new : ℕ) → d < n → shown_vector (j + d) (aligned (j + d) (vector_at d old)) (vector_lines n j old new) ≡ aligned (j + d) (vector_at d new)
unfolding vector_lines vector_at
vectors_show zero j d old new h = absurd (omega arith)
vectors_show (suc n) j zero old new h =
    let z : j + 0 ≡ j = omega arith in
    rw z (own (eqb (old % 4096) (new % 4096)) (old % 4096) (new % 4096) j (width_of j) (vector_lines n (j + 1) (old / 4096) (new / 4096)) refl (λ v. vectors_past n (j + 1) j (old / 4096) (new / 4096) v (omega arith)))
vectors_show (suc n) j (suc d) old new h =
    let z : j + suc d ≡ (j + 1) + d = omega arith in
    passed (eqb (old % 4096) (new % 4096)) (width_of j) (aligned j (new % 4096)) j (j + suc d) (aligned (j + suc d) (vector_at d (old / 4096))) (vector_lines n (j + 1) (old / 4096) (new / 4096)) (ne_eqb j (j + suc d) (λ e. omega arith))
    ∙ rw z (vectors_show n (j + 1) d (old / 4096) (new / 4096) (omega arith))

-- ---- the lines of an event

pins_pass : (b high : Bool) (p k v : ℕ) → shown_vector k v (pick b (pin high p ∷ []) []) ≡ v
unfolding shown_vector
pins_pass true high p k v = refl
pins_pass false high p k v = refl

pin_passes : (word k v : ℕ) → shown_vector k v (pin_lines word) ≡ v
unfolding pin_lines
pin_passes word k v = pins_pass (is_pin word) _ _ k v

level_pass : (b high : Bool) (j k v : ℕ) (ls : List Line) → shown_vector k v (pick b ls (level high j ∷ ls)) ≡ shown_vector k v ls
unfolding shown_vector
level_pass true high j k v ls = refl
level_pass false high j k v ls = refl

levels_pass : (n j k old new v : ℕ) → shown_vector k v (level_lines n j old new) ≡ v
unfolding level_lines shown_vector
levels_pass zero j k old new v = refl
levels_pass (suc n) j k old new v =
    level_pass (eqb (old % 2) (new % 2)) (eqb (new % 2) 1) j k v (level_lines n (j + 1) (old / 2) (new / 2))
    ∙ levels_pass n (j + 1) k (old / 2) (new / 2) v

-- the bits that the k-th vector of what is watched is shown with
abbrev bits_at : ℕ → Watch → ℕ
bits_at k watch = aligned k (vector_at k watch.vectors)

module _ (k : ℕ) (h : k < 6) where
  watch_shows : (old new : Watch) → shown_vector k (bits_at k old) (watch_lines old new) ≡ bits_at k new
  watch_shows old new =
      let z : 0 + k ≡ k = omega arith in
      shown_append k _ (level_lines 10 0 old.levels new.levels) (vector_lines 6 0 old.vectors new.vectors)
      ∙ ap (λ (v : ℕ). shown_vector k v (vector_lines 6 0 old.vectors new.vectors)) (levels_pass 10 0 k old.levels new.levels (bits_at k old))
      ∙ (rw z at (vectors_show 6 0 k old.vectors new.vectors h))

  change_shows : (t word : ℕ) (old new : Watch) → shown_vector k (bits_at k old) (change_lines t word old new) ≡ bits_at k new
  unfolding shown_vector
  change_shows t word old new =
      shown_append k _ (pin_lines word) (watch_lines old new)
      ∙ ap (λ (v : ℕ). shown_vector k v (watch_lines old new)) (pin_passes word k (bits_at k old))
      ∙ watch_shows old new

  same_vectors : (a b : Bool) (old new : ℕ) → eqb old new ≡ b → pick a b false ≡ true → aligned k (vector_at k old) ≡ aligned k (vector_at k new)
  same_vectors true true old new e f = ap (λ (x : ℕ). aligned k (vector_at k x)) (eqb-true old new e)
  same_vectors true false old new e f = absurd (let o : ◌≡◌ {A = ℕ} 0 1 = cc in omega arith)
  same_vectors false b old new e f = absurd (let o : ◌≡◌ {A = ℕ} 0 1 = cc in omega arith)

  watch_same : (old new : Watch) → same_watch old new ≡ true → bits_at k old ≡ bits_at k new
  unfolding same_watch
  watch_same old new e = same_vectors (eqb old.levels new.levels) (eqb old.vectors new.vectors) old.vectors new.vectors refl e

  either_shows : (p q : Bool) (t word : ℕ) (old new : Watch) → same_watch old new ≡ q
      → shown_vector k (bits_at k old) (pick p (change_lines t word old new) (pick q [] (change_lines t word old new))) ≡ bits_at k new
  either_shows true q t word old new e = change_shows t word old new
  either_shows false true t word old new e = unfold shown_vector in watch_same old new e
  either_shows false false t word old new e = change_shows t word old new

  event_shows : (w : Writer) (word : ℕ) (watch : Watch) → shown_vector k (bits_at k w.watch) (event_lines w word watch) ≡ bits_at k watch
  unfolding event_lines
  event_shows w word watch = either_shows (is_pin word) (same_watch w.watch watch) (time_of (moved w word watch)) word w.watch watch refl

-- after the lines of events each vector is as it is watched after the last event
pub lines_show_vector : (k : ℕ) → k < 6 → (w : Writer) (es : List Event) → shown_vector k (aligned k (vector_at k w.watch.vectors)) (lines w es) ≡ aligned k (vector_at k (after w es).watch.vectors)
unfolding lines after shown_vector
lines_show_vector k h w [] = refl
lines_show_vector k h w (e ∷ es) =
    let next = moved w e.word e.watch in
    shown_append k _ (event_lines w e.word e.watch) (lines next es)
    ∙ ap (λ (v : ℕ). shown_vector k v (lines next es)) (event_shows k h w e.word e.watch ∙ ap (bits_at k) (sym (moved_watch w e.word e.watch)))
    ∙ lines_show_vector k h next es

-- each of the six vectors: after the lines that the words so far add to the dump a viewer shows the bits that it has at the chip after these words
pub run_shows_vector : (k : ℕ) → k < 6 → (c : Chip) (words : List ℕ)
    → shown_vector k (aligned k (vector_at k (watch_of c).vectors)) (lines (fresh (watch_of c)) (events_of c words)) ≡ aligned k (vector_at k (watch_of (advanced c words)).vectors)
run_shows_vector k h c words = lines_show_vector k h (fresh (watch_of c)) (events_of c words) ∙ ap (bits_at k) (after_watch c words (fresh (watch_of c)) refl)
