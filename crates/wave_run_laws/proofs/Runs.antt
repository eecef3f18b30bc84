-- The dump of a run: its words, what is watched with each of them, that the reader gives its clocks and pins back, and that what its blocks write
-- is the whole.
-- Assumes nothing.
use mathlib.Core.Path.{◌≡◌, refl, sym, ap, ◌∙◌}
use mathlib.Core.List.{List, [], ◌∷◌, ◌++◌}
use Prim.Native.Nat.{ℕ, ◌≤◌}
use native.Mathlib.Omega.{arith}
use lib.ListN.{length}
use Rattle.events.specs.Word.{decode}
use Rattle.bus.specs.declared.Phase.{Phase}
use Rattle.bus.specs.declared.Phase.TheVariants.{Idle, Address, Addressed, Ignoring, Receive, Transmit, Held}
use Rattle.chip.specs.declared.Chip.{Chip}
use Rattle.chip.specs.State.{fresh}
use Rattle.step.specs.Step.{advance}
use Rattle.list_call.specs.Run.{after as after_words, advanced}
use Rattle.list_call.proofs.Runs.{advanced_append}
use Rattle.list_call_laws.proofs.Runs.{after_advanced}
use Rattle.chip_laws.proofs.WellFormed.{fresh_well_formed}
use Rattle.state_bytes.specs.Layout.{fields_of}
use Rattle.vcd.specs.Call.{trace_of}
use Rattle.vcd_grammar_laws.specs.Body.{Accepted}
use Rattle.wave_write.specs.declared.Watch.{Watch}
use Rattle.wave_write.specs.Lines.{Event, text, lines, after, words_of, kept}
use Rattle.wave_write.specs.Pieces.{joined as joined_events, blocks_text as text_of, begin_text, end_text}
use Rattle.wave_laws.proofs.ReadBack.{read_back}
use Rattle.wave_laws.proofs.Pieces.{in_pieces}
use Rattle.wave_watch.specs.Watched.{phase_number, watch_of, pins_of}
use Rattle.wave_run.specs.declared.Run.{Run}
use Rattle.wave_run.specs.Run.{events_of, run_dump, start, ran}
use Rattle.wave_run.proofs.Blocks.{events_length}
use Rattle.wave_run_laws.specs.Blocks.{event, joined, blocks_text}

-- ---- the events of a run

pub words_same : (c : Chip) (words : List ℕ) → words_of (events_of c words) ≡ words
unfolding events_of words_of
words_same c [] = refl
words_same c (w ∷ ws) = ap (λ (l : List ℕ). w ∷ l) (words_same (advance c (decode w)).chip ws)

pub events_append : (c : Chip) (ws vs : List ℕ) → events_of c (ws ++ vs) ≡ events_of c ws ++ events_of (advanced c ws) vs
unfolding events_of
events_append c [] vs = refl
events_append c (w ∷ ws) vs = ap (λ (l : List Event). record { word = w; watch = watch_of (advance c (decode w)).chip } ∷ l) (events_append (advance c (decode w)).chip ws vs)

-- with each word goes what is watched of the chip after the words so far
pub watched_after : (c : Chip) (ws : List ℕ) (w : ℕ) (vs : List ℕ)
    → events_of c (ws ++ (w ∷ vs)) ≡ events_of c ws ++ (event w (watch_of (advanced c (ws ++ (w ∷ [])))) ∷ events_of (advanced c (ws ++ (w ∷ []))) vs)
watched_after c ws w vs = events_append c ws (w ∷ vs) ∙ rw (advanced_append c ws (w ∷ [])) (unfold events_of in refl)

-- from a fresh chip that is the chip of the step, folded over the words so far
pub watched_by_step : (ws : List ℕ) (w : ℕ) (vs : List ℕ)
    → events_of fresh (ws ++ (w ∷ vs)) ≡ events_of fresh ws ++ (event w (watch_of (after_words fresh (ws ++ (w ∷ [])))) ∷ events_of (after_words fresh (ws ++ (w ∷ []))) vs)
watched_by_step ws w vs = rw (after_advanced fresh (ws ++ (w ∷ [])) fresh_well_formed) (watched_after fresh ws w vs)

-- ---- reading the dump back

-- the reader accepts the dump of a run with number 0, and its words are the run's 8 µs clocks and levels of the four pins, in their order
pub run_read_back : (c : Chip) (words : List ℕ) → length words ≤ 2305843009212 → Accepted (trace_of (run_dump c words)) (kept words)
unfolding run_dump
run_read_back c words n = rw (words_same c words) at (read_back (pins_of c.core) (watch_of c) (events_of c words) (rw (events_length c words) n))

-- ---- a run in blocks

unfoldable event_blocks : Chip → List (List ℕ) → List (List Event)
event_blocks c [] = []
event_blocks c (b ∷ bs) = events_of c b ∷ event_blocks (advanced c b) bs

events_joined : (c : Chip) (bs : List (List ℕ)) → joined_events (event_blocks c bs) ≡ events_of c (joined bs)
unfolding event_blocks joined joined_events events_of
events_joined c [] = refl
events_joined c (b ∷ bs) = ap (λ (l : List Event). events_of c b ++ l) (events_joined (advanced c b) bs) ∙ sym (events_append c b (joined bs))

texts_same : (r : Run) (bs : List (List ℕ)) → blocks_text r bs ≡ text_of r.writer (event_blocks r.chip bs)
unfolding event_blocks blocks_text text_of ran
texts_same r [] = refl
texts_same r (b ∷ bs) = ap (λ (l : List ℕ). text (lines r.writer (events_of r.chip b)) ++ l) (texts_same (ran r b) bs)

-- what begins the dump of a run, what its blocks add, whatever their lengths, and what ends it are the dump of all words
pub in_blocks : (c : Chip) (bs : List (List ℕ))
    → begin_text (pins_of c.core) (watch_of c) ++ (blocks_text (start c) bs ++ end_text (ran (start c) (joined bs)).writer) ≡ run_dump c (joined bs)
unfolding start ran run_dump
in_blocks c bs = rw (texts_same (start c) bs) (rw (events_joined c bs) at (in_pieces (pins_of c.core) (watch_of c) (event_blocks c bs)))

-- ---- the phase is shown by its number in a stored state

pub phase_stored : (p : Phase) → phase_number p ≡ (fields_of p).number
unfolding phase_number fields_of
phase_stored Idle = refl
phase_stored (Address count bits) = refl
phase_stored (Addressed matched bits ninth) = refl
phase_stored Ignoring = refl
phase_stored (Receive matched count bits) = refl
phase_stored (Transmit matched count byte) = refl
phase_stored (Held matched clocks) = refl
