-- The reader's calls over the dump of a replay: in whatever rooms, they write its clocks and its pins' levels.
-- Assumes nothing.
use mathlib.Core.Path.{◌≡◌, refl, sym, ap, ◌∙◌}
use mathlib.Core.List.{List, [], ◌∷◌, ◌++◌}
use Prim.Native.Nat.{ℕ, ◌≤◌}
use native.Mathlib.Omega.{arith}
use lib.ListN.{length, take}
use lib.Seq.{take_all}
use Rattle.vcd_steps.specs.Events.{words}
use Rattle.vcd_body.specs.Trace.{Trace}
use Rattle.vcd_body.specs.Pieces.{start}
use Rattle.vcd.specs.Call.{trace_of, call_of}
use Rattle.vcd_laws.specs.Giving.{rest_of}
use Rattle.vcd_laws.specs.Pieces.{together, words_of, words_in_pieces}
use Rattle.vcd_laws.proofs.Calls.{all_left}
use Rattle.vcd_laws.proofs.Pieces.{call_words, pieces_words}
use Rattle.vcd_grammar_laws.specs.Body.{Accepted}
use Rattle.wave_write.specs.declared.Watch.{Watch}
use Rattle.wave_write.specs.Lines.{Event, words_of as words_of_events, kept}
use Rattle.wave_write.specs.Header.{dump}
use Rattle.wave_laws.proofs.ReadBack.{read_back}

call_reads : (text room ws : List ℕ) → Accepted (trace_of text) ws → length ws ≤ length room → words_of (call_of text start room) ≡ ws
call_reads text room ws g h = call_words text start room ∙ rw (all_left text, g.same) (take_all (length room) ws h)

pub calls_read : (pins : ℕ) (watch : Watch) (es : List Event) (room : List ℕ) (rooms : List (List ℕ)) → length es ≤ 2305843009212
    → length (kept (words_of_events es)) ≤ length (room ++ together rooms)
    → words_in_pieces (dump pins watch es) start room rooms ≡ kept (words_of_events es)
calls_read pins watch es room rooms n h =
    pieces_words (dump pins watch es) start room rooms
    ∙ call_reads (dump pins watch es) (room ++ together rooms) (kept (words_of_events es)) (read_back pins watch es n) h
