-- The definition of a trace at small dumps, computed from their bytes: start.vcd, mixed.vcd, back.vcd and over.vcd of tests/vcd.
-- Assumes nothing.
use Prim.Native.Nat.{ℕ}
use mathlib.Core.Bool.{true, false}
use mathlib.Core.Path.{◌≡◌, refl}
use mathlib.Core.List.{[], ◌∷◌}
use Rattle.vcd_text.specs.Token.{white, word_length, tokens, same_bytes, graphic, all_graphic, number_of, grown_by, longer_by, digits_from, decimal_of}
use Rattle.vcd_codes.specs.Codes.{joins, find}
use Rattle.vcd_items.specs.Items as items
use Rattle.vcd_steps.specs.Events.{event, clock_events, pin_events}
use Rattle.vcd_steps.specs.Steps.{advanced, time_as, time_of, change_of, code_of, dump_of, end_of, comment_of, commented, item_step, ends_as}
use Rattle.vcd_body.specs.Trace.{stopped, carried, token_as, body}
use Rattle.vcd_keywords.specs.Words as word
use Rattle.vcd_header.specs.Header.{closed_by, code_step, count_step, end_as, ending_step, index_step, is_name, keyword_step, letters_step, name_step, scope_name_step, scope_step, size_as, step_as, text_step, type_as, unit_step, whole_step}
use Rattle.vcd.specs.Header.{taken, declares, settled, header, header_of}
use Rattle.vcd.specs.Call.{trace_by, trace_of}
use Rattle.vcd_laws.specs.Worked.{start_dump, mixed_dump, back_dump, over_dump}

-- a proof that names this on its `unfolding` line computes traces
unfoldable opened : ℕ
unfolding white word_length tokens same_bytes graphic all_graphic number_of grown_by longer_by digits_from decimal_of joins find items.all_states items.four_state items.is_dump items.is_real items.is_vector items.item_as items.item_of items.keyword_of items.kind_of items.letter_class items.real_class items.real_next items.real_state items.whole_real clock_events pin_events advanced time_as time_of change_of code_of dump_of end_of comment_of commented item_step ends_as carried token_as body word.count_of word.index_by word.index_class word.index_state word.is_discrete word.is_net word.is_scope word.joined_of word.keyword_of word.letters_of word.pin_of word.sort_of word.times_unit closed_by code_step count_step end_as ending_step index_step is_name keyword_step letters_step name_step scope_name_step scope_step size_as step_as text_step type_as unit_step whole_step taken declares settled header header_of trace_by trace_of
opened = 0

-- the clock at 8 µs comes before the change of that time, that at 16 µs with the next time written; x is 1. Each event has the place of its token
-- and its time in ps.
pub start_computed : trace_of start_dump ≡ record {
  events = event false 154 0 0x03001901
      ∷ event false 157 0 0x03001801
      ∷ event false 168 4000000 0x03001800
      ∷ event true 171 8000000 0x04000000
      ∷ event false 174 8000000 0x03001900
      ∷ event true 177 16000000 0x04000000
      ∷ event false 181 20000000 0x03001801
      ∷ [];
  number = 0;
  place = 0;
}
unfolding opened
start_computed = refl

-- in units of 100 ns: a code shared by two names brings two events, in declared order; a vector and a real variable have no pin, nor has the
-- second scalar of a name; b and r changes and comments bring nothing
pub mixed_computed : trace_of mixed_dump ≡ record {
  events = event false 196 0 0x03001801
      ∷ event false 196 0 0x03001B01
      ∷ event true 221 8000000 0x04000000
      ∷ event false 225 8000000 0x03001800
      ∷ event false 225 8000000 0x03001B00
      ∷ event false 244 8000000 0x03001901
      ∷ event true 250 16000000 0x04000000
      ∷ [];
  number = 0;
  place = 0;
}
unfolding opened
mixed_computed = refl

-- the second time is before the first
pub back_computed : trace_of back_dump ≡ stopped 41 45
unfolding opened
back_computed = refl

-- 18446744073710 µs is the first time of that unit that 64 bits do not hold in ps
pub over_computed : trace_of over_dump ≡ stopped 44 42
unfolding opened
over_computed = refl
