-- What a block has written after i words, and one word more.
-- Assumes nothing.
use mathlib.Core.Bool.{Bool, true, false}
use mathlib.Core.Path.{◌≡◌, refl, sym, ap, ◌∙◌}
use mathlib.Core.List.{List, [], ◌∷◌, ◌++◌}
use Prim.Native.Nat.{ℕ, suc, ◌+◌, ◌-◌, ◌*◌, ◌/◌, ◌<◌, ◌≤◌}
use native.Mathlib.Omega.{arith}
use native.Mathlib.Numerals.{add-one}
use lib.Dec.{ltb}
use lib.ListN.{length, drop, get_or, length-append}
use lib.Seq.{drop-cons, drop-length}
use borrow.Author.Tests.{lt-ltb, le-ltb, ltb-false}
use Rattle.bits.specs.Byte.{pick}
use Rattle.events.specs.Word.{decode}
use Rattle.chip.specs.declared.Core.{Core}
use Rattle.chip.specs.declared.Chip.{Chip}
use Rattle.chip.specs.State.{chip_of}
use Rattle.step.specs.declared.CoreStepped.{CoreStepped}
use Rattle.step.specs.Step.{advance, core_of}
use Rattle.list_call.specs.Run.{advanced}
use Rattle.wave_write.specs.declared.Watch.{Watch}
use Rattle.wave_write.specs.declared.Writer.{Writer}
use Rattle.wave_write.specs.declared.Written.{Written}
use Rattle.wave_write.specs.Lines.{Event, text, event_lines, moved, lines, after}
use Rattle.wave_write.specs.Wrote.{Wrote, fits, event_bytes, moved_by}
use Rattle.wave_write.proofs.Laws.{wrote_none, wrote_size, wrote_lines, text_append, event_length, event_room_lem, moved_room}
use Rattle.wave_watch.specs.Watched.{watch_of}
use Rattle.wave_run.specs.declared.Run.{Run}
use Rattle.wave_run.specs.Run.{events_of, ran, block_bytes, block_after}

abbrev pub run_at : List ℕ → Core → Writer → Run
run_at registers core writer = record { chip = chip_of registers core; writer = writer }

-- what the words from a run on write
abbrev pub written : Run → List ℕ → List ℕ
written r words = text (lines r.writer (events_of r.chip words))

-- of the words from the run r₀, i are done: the run is r, and at is the place past what is written
pub record Done (words room₀ : List ℕ) (r₀ : Run) (room : List ℕ) (r : Run) (at i : ℕ) : Type 0 where
  pub within : i ≤ length words
  pub size : length room ≡ length room₀
  pub place : at ≤ 151 * i
  pub state : ran r (drop i words) ≡ ran r₀ words
  pub rest : (left : List ℕ) (next : ℕ) → Wrote room at (written r (drop i words)) left next → Wrote room₀ 0 (written r₀ words) left next

pub begun : (words room : List ℕ) (r : Run) → Done words room r room r 0 0
begun words room r = record { within = omega arith; size = refl; place = omega arith; state = refl; rest = λ left next w. w }

fits_in : (places at : ℕ) → at + 151 ≤ places → fits places at 151 ≡ true
unfolding fits
fits_in places at h = simp (le-ltb places 151 (omega arith), le-ltb (places - 151) at (omega arith))

-- where the run stands after one word
abbrev next : Run → ℕ → Run
next r word = record {
  chip = (advance r.chip (decode word)).chip;
  writer = moved r.writer word (watch_of (advance r.chip (decode word)).chip);
}

ran_first : (r : Run) (word : ℕ) (ws : List ℕ) → ran r (word ∷ ws) ≡ ran (next r word) ws
unfolding ran events_of after
ran_first r word ws = refl

written_first : (r : Run) (word : ℕ) (ws : List ℕ) {room mid left : List ℕ} {at m n : ℕ}
    → Wrote room at (text (event_lines r.writer word (watch_of (advance r.chip (decode word)).chip))) mid m
    → Wrote mid m (written (next r word) ws) left n → Wrote room at (written r (word ∷ ws)) left n
unfolding lines events_of
written_first r word ws a b = wrote_lines (event_lines r.writer word (watch_of (advance r.chip (decode word)).chip)) _ a b

module _ {words room₀ : List ℕ} {r₀ : Run} {room : List ℕ} {r : Run} {at i : ℕ} (d : Done words room₀ r₀ room r at i) (h : i < length words) (k : 151 * length words ≤ length room₀) where
  turned : {left : List ℕ} {m : ℕ} → Wrote room at (text (event_lines r.writer (get_or words i 0) (watch_of (advance r.chip (decode (get_or words i 0))).chip))) left m
      → Done words room₀ r₀ left (next r (get_or words i 0)) m (i + 1)
  turned {left} {m} x =
      let most = event_length r.writer (get_or words i 0) (watch_of (advance r.chip (decode (get_or words i 0))).chip) in
      record {
        within = omega arith;
        size = wrote_size x ∙ d.size;
        place = omega (arith, d.place, x.to);
        state = rw add-one (sym (ran_first r (get_or words i 0) (drop (suc i) words)) ∙ (rw (drop-cons words i 0 h) at d.state));
        rest = λ to n y. d.rest to n (rw (drop-cons words i 0 h) (written_first r (get_or words i 0) (drop (suc i) words) x (rw add-one at y)));
      }

  fitting : fits (length room) at 151 ≡ true
  fitting = fits_in (length room) at (omega (arith, d.place, d.size))

  put : (watch : Watch) (left : List ℕ) (w : Written) → watch ≡ watch_of (advance r.chip (decode (get_or words i 0))).chip
      → Wrote room at (event_bytes room at r.writer (get_or words i 0) watch) left w.next → w.writer ≡ moved_by room at r.writer (get_or words i 0) watch
      → Done words room₀ r₀ left (record { chip = (advance r.chip (decode (get_or words i 0))).chip; writer = w.writer }) w.next (i + 1)
  put watch left w e x y =
      rw (y, moved_room room at r.writer (get_or words i 0) watch fitting, e)
      (turned (rw (event_room_lem room at r.writer (get_or words i 0) watch fitting, e) at x))

  pub more : (s : CoreStepped) → s ≡ core_of (advance r.chip (decode (get_or words i 0))) → (registers : List ℕ) → registers ≡ (advance r.chip (decode (get_or words i 0))).chip.registers
      → (watch : Watch) → watch ≡ watch_of (chip_of registers s.core)
      → (left : List ℕ) (w : Written) → Wrote room at (event_bytes room at r.writer (get_or words i 0) watch) left w.next × (w.writer ≡ moved_by room at r.writer (get_or words i 0) watch)
      → Done words room₀ r₀ left (run_at registers s.core w.writer) w.next (i + 1)
  more s q registers l watch e left w x = rw (q, l) (put watch left w (rw (q, l) at e) x.0 x.1)

pub all : {words room₀ : List ℕ} {r₀ : Run} {room : List ℕ} {r : Run} {at i : ℕ} → Done words room₀ r₀ room r at i → length words ≤ i
    → Wrote room₀ 0 (written r₀ words) room at × (r ≡ ran r₀ words)
unfolding ran events_of lines text after
all {words} {room₀} {r₀} {room} {r} {at} {i} d h =
    let e : i ≡ length words = omega (arith, d.within) in
    (d.rest room at (rw (e, drop-length words) (wrote_none room at)), rw (e, drop-length words) at d.state)

-- ---- the end of what a block writes is within its places

written_length : (w : Writer) (es : List Event) → length (text (lines w es)) ≤ 151 * length es
unfolding lines text
written_length w [] = omega arith
written_length w (e ∷ es) =
    rw (text_append (event_lines w e.word e.watch) (lines (moved w e.word e.watch) es))
    (simp length-append (omega (arith, event_length w e.word e.watch, written_length (moved w e.word e.watch) es)))

pub events_length : (c : Chip) (words : List ℕ) → length (events_of c words) ≡ length words
unfolding events_of
events_length c [] = refl
events_length c (w ∷ ws) = ap suc (events_length (advance c (decode w)).chip ws)

block_by : (b : Bool) (places count : ℕ) (bytes : List ℕ) → ltb (places / 151) count ≡ b → length bytes ≤ 151 * count → length (pick b [] bytes) ≤ places
block_by true places count bytes e h = omega arith
block_by false places count bytes e h = let few = ltb-false (places / 151) count e in omega arith

pub block_within : (room : List ℕ) (r : Run) (words : List ℕ) → length (block_bytes room r words) ≤ length room
unfolding block_bytes
block_within room r words =
    block_by (ltb (length room / 151) (length words)) (length room) (length words) _ refl
    (rw (events_length r.chip words) at (written_length r.writer (events_of r.chip words)))

-- ---- room

module _ (room : List ℕ) (r : Run) (words : List ℕ) where
  pub bytes_none : length room / 151 < length words → block_bytes room r words ≡ []
  unfolding block_bytes
  bytes_none h = simp (lt-ltb _ _ h)

  pub after_none : length room / 151 < length words → block_after room r words ≡ r
  unfolding block_after
  after_none h = simp (lt-ltb _ _ h)

  pub bytes_room : length words ≤ length room / 151 → block_bytes room r words ≡ written r words
  unfolding block_bytes
  bytes_room h = simp (le-ltb _ _ h)

  pub after_room : length words ≤ length room / 151 → block_after room r words ≡ ran r words
  unfolding block_after
  after_room h = simp (le-ltb _ _ h)

-- ---- what is written ends within its places

pub ends_within : {room bytes left : List ℕ} {next : ℕ} → length bytes ≤ length room → Wrote room 0 bytes left next → next ≤ length left
ends_within h w = omega (arith, h, w.to, wrote_size w)
