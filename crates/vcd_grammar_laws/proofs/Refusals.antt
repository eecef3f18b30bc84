-- Each sort of refusal at a small dump, computed from its bytes: the number, and the place of the first byte of what is refused (Wish 10).
-- Assumes nothing.
use Prim.Native.Nat.{ℕ}
use mathlib.Core.Bool.{true, false}
use mathlib.Core.Path.{◌≡◌, refl}
use mathlib.Core.List.{[], ◌∷◌}
use lib.ListN.{length, set}
use Rattle.vcd_text.specs.Token.{white, word_length, tokens, same_bytes, graphic, all_graphic, number_of, grown_by, longer_by, digits_from, decimal_of}
use Rattle.vcd_codes.specs.Codes.{joins, find}
use Rattle.vcd_items.specs.Items as items
use Rattle.vcd_steps.specs.Events.{event, clock_events, pin_events}
use Rattle.vcd_steps.specs.Steps.{advanced, time_as, time_of, change_of, code_of, dump_of, end_of, comment_of, commented, item_step, ends_as}
use Rattle.vcd_body.specs.Trace.{stopped, carried, token_as, body}
use Rattle.vcd_keywords.specs.Words as word
use Rattle.vcd_header.specs.Header.{closed_by, code_step, count_step, end_as, ending_step, index_step, is_name, keyword_step, letters_step, name_step, scope_name_step, scope_step, size_as, step_as, text_step, type_as, unit_step, whole_step}
use Rattle.vcd.specs.Header.{taken, declares, settled, header, header_of}
use Rattle.vcd.specs.Call.{trace_by, trace_of}
use Rattle.vcd_laws.specs.Giving.{told, give, given}
use Rattle.vcd_grammar_laws.specs.Refusals.{many}

-- a proof that names this on its `unfolding` line computes traces, and what calls give of them
unfoldable opened : ℕ
unfolding white word_length tokens same_bytes graphic all_graphic number_of grown_by longer_by digits_from decimal_of joins find items.all_states items.four_state items.is_dump items.is_real items.is_vector items.item_as items.item_of items.keyword_of items.kind_of items.letter_class items.real_class items.real_next items.real_state items.whole_real clock_events pin_events advanced time_as time_of change_of code_of dump_of end_of comment_of commented item_step ends_as carried token_as body word.count_of word.index_by word.index_class word.index_state word.is_discrete word.is_net word.is_scope word.joined_of word.keyword_of word.letters_of word.pin_of word.sort_of word.times_unit closed_by code_step count_step end_as ending_step index_step is_name keyword_step letters_step name_step scope_name_step scope_step size_as step_as text_step type_as unit_step whole_step taken declares settled header header_of trace_by trace_of give
opened = 0

-- ---- 40 in the header, each at the keyword but where it is said

-- no keyword
--     hello
pub unknown_word : trace_of (104 ∷ 101 ∷ 108 ∷ 108 ∷ 111 ∷ []) ≡ stopped 40 0
unfolding opened
unknown_word = refl

-- a keyword of extended dumps
--     $dumpports $end
pub extended_keyword : trace_of (36 ∷ 100 ∷ 117 ∷ 109 ∷ 112 ∷ 112 ∷ 111 ∷ 114 ∷ 116 ∷ 115 ∷ 32 ∷ 36 ∷ 101 ∷ 110 ∷ 100 ∷ []) ≡ stopped 40 0
unfolding opened
extended_keyword = refl

-- a change before the definitions end
--     1! $enddefinitions $end
pub early_change : trace_of (49 ∷ 33 ∷ 32 ∷ 36 ∷ 101 ∷ 110 ∷ 100 ∷ 100 ∷ 101 ∷ 102 ∷ 105 ∷ 110 ∷ 105 ∷ 116 ∷ 105 ∷ 111 ∷ 110 ∷ 115 ∷ 32 ∷ 36 ∷ 101 ∷ 110 ∷ 100 ∷ []) ≡ stopped 40 0
unfolding opened
early_change = refl

-- a unit of 2: at what is none
--     $timescale 2 us $end
pub bad_count : trace_of (36 ∷ 116 ∷ 105 ∷ 109 ∷ 101 ∷ 115 ∷ 99 ∷ 97 ∷ 108 ∷ 101 ∷ 32 ∷ 50 ∷ 32 ∷ 117 ∷ 115 ∷ 32 ∷ 36 ∷ 101 ∷ 110 ∷ 100 ∷ []) ≡ stopped 40 11
unfolding opened
bad_count = refl

-- a unit above 1 µs by its letters: at its number
--     $timescale 1 ms $end
pub bad_letters : trace_of (36 ∷ 116 ∷ 105 ∷ 109 ∷ 101 ∷ 115 ∷ 99 ∷ 97 ∷ 108 ∷ 101 ∷ 32 ∷ 49 ∷ 32 ∷ 109 ∷ 115 ∷ 32 ∷ 36 ∷ 101 ∷ 110 ∷ 100 ∷ []) ≡ stopped 40 11
unfolding opened
bad_letters = refl

-- no unit
--     $timescale $end
pub no_unit_given : trace_of (36 ∷ 116 ∷ 105 ∷ 109 ∷ 101 ∷ 115 ∷ 99 ∷ 97 ∷ 108 ∷ 101 ∷ 32 ∷ 36 ∷ 101 ∷ 110 ∷ 100 ∷ []) ≡ stopped 40 0
unfolding opened
no_unit_given = refl

-- a word after the unit: at the unit
--     $timescale 1 us 1 $end
pub long_unit : trace_of (36 ∷ 116 ∷ 105 ∷ 109 ∷ 101 ∷ 115 ∷ 99 ∷ 97 ∷ 108 ∷ 101 ∷ 32 ∷ 49 ∷ 32 ∷ 117 ∷ 115 ∷ 32 ∷ 49 ∷ 32 ∷ 36 ∷ 101 ∷ 110 ∷ 100 ∷ []) ≡ stopped 40 11
unfolding opened
long_unit = refl

-- the file ends within a unit: at its number
--     $timescale 1
pub cut_unit : trace_of (36 ∷ 116 ∷ 105 ∷ 109 ∷ 101 ∷ 115 ∷ 99 ∷ 97 ∷ 108 ∷ 101 ∷ 32 ∷ 49 ∷ []) ≡ stopped 40 11
unfolding opened
cut_unit = refl

-- no type of scope
--     $scope town a $end
pub bad_scope : trace_of (36 ∷ 115 ∷ 99 ∷ 111 ∷ 112 ∷ 101 ∷ 32 ∷ 116 ∷ 111 ∷ 119 ∷ 110 ∷ 32 ∷ 97 ∷ 32 ∷ 36 ∷ 101 ∷ 110 ∷ 100 ∷ []) ≡ stopped 40 0
unfolding opened
bad_scope = refl

-- a scope without a name
--     $scope module $end
pub nameless_scope : trace_of (36 ∷ 115 ∷ 99 ∷ 111 ∷ 112 ∷ 101 ∷ 32 ∷ 109 ∷ 111 ∷ 100 ∷ 117 ∷ 108 ∷ 101 ∷ 32 ∷ 36 ∷ 101 ∷ 110 ∷ 100 ∷ []) ≡ stopped 40 0
unfolding opened
nameless_scope = refl

-- no type of variable
--     $var wave 1 ! SCL $end
pub bad_type : trace_of (36 ∷ 118 ∷ 97 ∷ 114 ∷ 32 ∷ 119 ∷ 97 ∷ 118 ∷ 101 ∷ 32 ∷ 49 ∷ 32 ∷ 33 ∷ 32 ∷ 83 ∷ 67 ∷ 76 ∷ 32 ∷ 36 ∷ 101 ∷ 110 ∷ 100 ∷ []) ≡ stopped 40 0
unfolding opened
bad_type = refl

-- a size that is no number
--     $var wire 1x ! SCL $end
pub bad_size : trace_of (36 ∷ 118 ∷ 97 ∷ 114 ∷ 32 ∷ 119 ∷ 105 ∷ 114 ∷ 101 ∷ 32 ∷ 49 ∷ 120 ∷ 32 ∷ 33 ∷ 32 ∷ 83 ∷ 67 ∷ 76 ∷ 32 ∷ 36 ∷ 101 ∷ 110 ∷ 100 ∷ []) ≡ stopped 40 0
unfolding opened
bad_size = refl

-- a variable without a code
--     $var wire 1 $end
pub codeless_variable : trace_of (36 ∷ 118 ∷ 97 ∷ 114 ∷ 32 ∷ 119 ∷ 105 ∷ 114 ∷ 101 ∷ 32 ∷ 49 ∷ 32 ∷ 36 ∷ 101 ∷ 110 ∷ 100 ∷ []) ≡ stopped 40 0
unfolding opened
codeless_variable = refl

-- a variable without a name
--     $var wire 1 ! $end
pub nameless_variable : trace_of (36 ∷ 118 ∷ 97 ∷ 114 ∷ 32 ∷ 119 ∷ 105 ∷ 114 ∷ 101 ∷ 32 ∷ 49 ∷ 32 ∷ 33 ∷ 32 ∷ 36 ∷ 101 ∷ 110 ∷ 100 ∷ []) ≡ stopped 40 0
unfolding opened
nameless_variable = refl

-- an index that is not whole
--     $var wire 1 ! SCL [3 $end
pub half_index : trace_of (36 ∷ 118 ∷ 97 ∷ 114 ∷ 32 ∷ 119 ∷ 105 ∷ 114 ∷ 101 ∷ 32 ∷ 49 ∷ 32 ∷ 33 ∷ 32 ∷ 83 ∷ 67 ∷ 76 ∷ 32 ∷ 91 ∷ 51 ∷ 32 ∷ 36 ∷ 101 ∷ 110 ∷ 100 ∷ []) ≡ stopped 40 0
unfolding opened
half_index = refl

-- an index that is no number
--     $var wire 1 ! SCL [a] $end
pub wrong_index : trace_of (36 ∷ 118 ∷ 97 ∷ 114 ∷ 32 ∷ 119 ∷ 105 ∷ 114 ∷ 101 ∷ 32 ∷ 49 ∷ 32 ∷ 33 ∷ 32 ∷ 83 ∷ 67 ∷ 76 ∷ 32 ∷ 91 ∷ 97 ∷ 93 ∷ 32 ∷ 36 ∷ 101 ∷ 110 ∷ 100 ∷ []) ≡ stopped 40 0
unfolding opened
wrong_index = refl

-- the file ends within a variable
--     $var wire 1 !
pub cut_variable : trace_of (36 ∷ 118 ∷ 97 ∷ 114 ∷ 32 ∷ 119 ∷ 105 ∷ 114 ∷ 101 ∷ 32 ∷ 49 ∷ 32 ∷ 33 ∷ []) ≡ stopped 40 0
unfolding opened
cut_variable = refl

-- the file ends within a comment of the header
--     $comment abc
pub cut_comment : trace_of (36 ∷ 99 ∷ 111 ∷ 109 ∷ 109 ∷ 101 ∷ 110 ∷ 116 ∷ 32 ∷ 97 ∷ 98 ∷ 99 ∷ []) ≡ stopped 40 0
unfolding opened
cut_comment = refl

-- a word where the definitions end
--     $enddefinitions now $end
pub long_end : trace_of (36 ∷ 101 ∷ 110 ∷ 100 ∷ 100 ∷ 101 ∷ 102 ∷ 105 ∷ 110 ∷ 105 ∷ 116 ∷ 105 ∷ 111 ∷ 110 ∷ 115 ∷ 32 ∷ 110 ∷ 111 ∷ 119 ∷ 32 ∷ 36 ∷ 101 ∷ 110 ∷ 100 ∷ []) ≡ stopped 40 0
unfolding opened
long_end = refl

-- ---- 40 in the body, each at the time, change or keyword

-- a change of a code that is not declared
--     $timescale 1 us $end $var wire 1 ! SCL $end $enddefinitions $end 1"
pub undeclared_code : trace_of (36 ∷ 116 ∷ 105 ∷ 109 ∷ 101 ∷ 115 ∷ 99 ∷ 97 ∷ 108 ∷ 101 ∷ 32 ∷ 49 ∷ 32 ∷ 117 ∷ 115 ∷ 32 ∷ 36 ∷ 101 ∷ 110 ∷ 100 ∷ 32 ∷ 36 ∷ 118 ∷ 97 ∷ 114 ∷ 32 ∷ 119 ∷ 105 ∷ 114 ∷ 101 ∷ 32 ∷ 49 ∷ 32 ∷ 33 ∷ 32 ∷ 83 ∷ 67 ∷ 76 ∷ 32 ∷ 36 ∷ 101 ∷ 110 ∷ 100 ∷ 32 ∷ 36 ∷ 101 ∷ 110 ∷ 100 ∷ 100 ∷ 101 ∷ 102 ∷ 105 ∷ 110 ∷ 105 ∷ 116 ∷ 105 ∷ 111 ∷ 110 ∷ 115 ∷ 32 ∷ 36 ∷ 101 ∷ 110 ∷ 100 ∷ 32 ∷ 49 ∷ 34 ∷ []) ≡ stopped 40 65
unfolding opened
undeclared_code = refl

-- a vector of a code that is not declared: at the change, not at the code
--     $timescale 1 us $end $var wire 1 ! SCL $end $enddefinitions $end b1 "
pub vector_undeclared : trace_of (36 ∷ 116 ∷ 105 ∷ 109 ∷ 101 ∷ 115 ∷ 99 ∷ 97 ∷ 108 ∷ 101 ∷ 32 ∷ 49 ∷ 32 ∷ 117 ∷ 115 ∷ 32 ∷ 36 ∷ 101 ∷ 110 ∷ 100 ∷ 32 ∷ 36 ∷ 118 ∷ 97 ∷ 114 ∷ 32 ∷ 119 ∷ 105 ∷ 114 ∷ 101 ∷ 32 ∷ 49 ∷ 32 ∷ 33 ∷ 32 ∷ 83 ∷ 67 ∷ 76 ∷ 32 ∷ 36 ∷ 101 ∷ 110 ∷ 100 ∷ 32 ∷ 36 ∷ 101 ∷ 110 ∷ 100 ∷ 100 ∷ 101 ∷ 102 ∷ 105 ∷ 110 ∷ 105 ∷ 116 ∷ 105 ∷ 111 ∷ 110 ∷ 115 ∷ 32 ∷ 36 ∷ 101 ∷ 110 ∷ 100 ∷ 32 ∷ 98 ∷ 49 ∷ 32 ∷ 34 ∷ []) ≡ stopped 40 65
unfolding opened
vector_undeclared = refl

-- a vector of a state that is none
--     $timescale 1 us $end $var wire 1 ! SCL $end $enddefinitions $end b12 !
pub bad_vector : trace_of (36 ∷ 116 ∷ 105 ∷ 109 ∷ 101 ∷ 115 ∷ 99 ∷ 97 ∷ 108 ∷ 101 ∷ 32 ∷ 49 ∷ 32 ∷ 117 ∷ 115 ∷ 32 ∷ 36 ∷ 101 ∷ 110 ∷ 100 ∷ 32 ∷ 36 ∷ 118 ∷ 97 ∷ 114 ∷ 32 ∷ 119 ∷ 105 ∷ 114 ∷ 101 ∷ 32 ∷ 49 ∷ 32 ∷ 33 ∷ 32 ∷ 83 ∷ 67 ∷ 76 ∷ 32 ∷ 36 ∷ 101 ∷ 110 ∷ 100 ∷ 32 ∷ 36 ∷ 101 ∷ 110 ∷ 100 ∷ 100 ∷ 101 ∷ 102 ∷ 105 ∷ 110 ∷ 105 ∷ 116 ∷ 105 ∷ 111 ∷ 110 ∷ 115 ∷ 32 ∷ 36 ∷ 101 ∷ 110 ∷ 100 ∷ 32 ∷ 98 ∷ 49 ∷ 50 ∷ 32 ∷ 33 ∷ []) ≡ stopped 40 65
unfolding opened
bad_vector = refl

-- a real that is none
--     $timescale 1 us $end $var wire 1 ! SCL $end $enddefinitions $end r1e !
pub bad_real : trace_of (36 ∷ 116 ∷ 105 ∷ 109 ∷ 101 ∷ 115 ∷ 99 ∷ 97 ∷ 108 ∷ 101 ∷ 32 ∷ 49 ∷ 32 ∷ 117 ∷ 115 ∷ 32 ∷ 36 ∷ 101 ∷ 110 ∷ 100 ∷ 32 ∷ 36 ∷ 118 ∷ 97 ∷ 114 ∷ 32 ∷ 119 ∷ 105 ∷ 114 ∷ 101 ∷ 32 ∷ 49 ∷ 32 ∷ 33 ∷ 32 ∷ 83 ∷ 67 ∷ 76 ∷ 32 ∷ 36 ∷ 101 ∷ 110 ∷ 100 ∷ 32 ∷ 36 ∷ 101 ∷ 110 ∷ 100 ∷ 100 ∷ 101 ∷ 102 ∷ 105 ∷ 110 ∷ 105 ∷ 116 ∷ 105 ∷ 111 ∷ 110 ∷ 115 ∷ 32 ∷ 36 ∷ 101 ∷ 110 ∷ 100 ∷ 32 ∷ 114 ∷ 49 ∷ 101 ∷ 32 ∷ 33 ∷ []) ≡ stopped 40 65
unfolding opened
bad_real = refl

-- the file ends before the code of a vector
--     $timescale 1 us $end $var wire 1 ! SCL $end $enddefinitions $end b1
pub cut_value : trace_of (36 ∷ 116 ∷ 105 ∷ 109 ∷ 101 ∷ 115 ∷ 99 ∷ 97 ∷ 108 ∷ 101 ∷ 32 ∷ 49 ∷ 32 ∷ 117 ∷ 115 ∷ 32 ∷ 36 ∷ 101 ∷ 110 ∷ 100 ∷ 32 ∷ 36 ∷ 118 ∷ 97 ∷ 114 ∷ 32 ∷ 119 ∷ 105 ∷ 114 ∷ 101 ∷ 32 ∷ 49 ∷ 32 ∷ 33 ∷ 32 ∷ 83 ∷ 67 ∷ 76 ∷ 32 ∷ 36 ∷ 101 ∷ 110 ∷ 100 ∷ 32 ∷ 36 ∷ 101 ∷ 110 ∷ 100 ∷ 100 ∷ 101 ∷ 102 ∷ 105 ∷ 110 ∷ 105 ∷ 116 ∷ 105 ∷ 111 ∷ 110 ∷ 115 ∷ 32 ∷ 36 ∷ 101 ∷ 110 ∷ 100 ∷ 32 ∷ 98 ∷ 49 ∷ []) ≡ stopped 40 65
unfolding opened
cut_value = refl

-- a time where no unit is declared
--     $enddefinitions $end #0
pub unitless_time : trace_of (36 ∷ 101 ∷ 110 ∷ 100 ∷ 100 ∷ 101 ∷ 102 ∷ 105 ∷ 110 ∷ 105 ∷ 116 ∷ 105 ∷ 111 ∷ 110 ∷ 115 ∷ 32 ∷ 36 ∷ 101 ∷ 110 ∷ 100 ∷ 32 ∷ 35 ∷ 48 ∷ []) ≡ stopped 40 21
unfolding opened
unitless_time = refl

-- a time that is no number
--     $timescale 1 us $end $enddefinitions $end #0x5
pub bad_time : trace_of (36 ∷ 116 ∷ 105 ∷ 109 ∷ 101 ∷ 115 ∷ 99 ∷ 97 ∷ 108 ∷ 101 ∷ 32 ∷ 49 ∷ 32 ∷ 117 ∷ 115 ∷ 32 ∷ 36 ∷ 101 ∷ 110 ∷ 100 ∷ 32 ∷ 36 ∷ 101 ∷ 110 ∷ 100 ∷ 100 ∷ 101 ∷ 102 ∷ 105 ∷ 110 ∷ 105 ∷ 116 ∷ 105 ∷ 111 ∷ 110 ∷ 115 ∷ 32 ∷ 36 ∷ 101 ∷ 110 ∷ 100 ∷ 32 ∷ 35 ∷ 48 ∷ 120 ∷ 53 ∷ []) ≡ stopped 40 42
unfolding opened
bad_time = refl

-- a variable after the definitions
--     $timescale 1 us $end $var wire 1 ! SCL $end $enddefinitions $end $var wire 1 " SDA $end
pub late_variable : trace_of (36 ∷ 116 ∷ 105 ∷ 109 ∷ 101 ∷ 115 ∷ 99 ∷ 97 ∷ 108 ∷ 101 ∷ 32 ∷ 49 ∷ 32 ∷ 117 ∷ 115 ∷ 32 ∷ 36 ∷ 101 ∷ 110 ∷ 100 ∷ 32 ∷ 36 ∷ 118 ∷ 97 ∷ 114 ∷ 32 ∷ 119 ∷ 105 ∷ 114 ∷ 101 ∷ 32 ∷ 49 ∷ 32 ∷ 33 ∷ 32 ∷ 83 ∷ 67 ∷ 76 ∷ 32 ∷ 36 ∷ 101 ∷ 110 ∷ 100 ∷ 32 ∷ 36 ∷ 101 ∷ 110 ∷ 100 ∷ 100 ∷ 101 ∷ 102 ∷ 105 ∷ 110 ∷ 105 ∷ 116 ∷ 105 ∷ 111 ∷ 110 ∷ 115 ∷ 32 ∷ 36 ∷ 101 ∷ 110 ∷ 100 ∷ 32 ∷ 36 ∷ 118 ∷ 97 ∷ 114 ∷ 32 ∷ 119 ∷ 105 ∷ 114 ∷ 101 ∷ 32 ∷ 49 ∷ 32 ∷ 34 ∷ 32 ∷ 83 ∷ 68 ∷ 65 ∷ 32 ∷ 36 ∷ 101 ∷ 110 ∷ 100 ∷ []) ≡ stopped 40 65
unfolding opened
late_variable = refl

-- an end of nothing
--     $timescale 1 us $end $var wire 1 ! SCL $end $enddefinitions $end $end
pub stray_end : trace_of (36 ∷ 116 ∷ 105 ∷ 109 ∷ 101 ∷ 115 ∷ 99 ∷ 97 ∷ 108 ∷ 101 ∷ 32 ∷ 49 ∷ 32 ∷ 117 ∷ 115 ∷ 32 ∷ 36 ∷ 101 ∷ 110 ∷ 100 ∷ 32 ∷ 36 ∷ 118 ∷ 97 ∷ 114 ∷ 32 ∷ 119 ∷ 105 ∷ 114 ∷ 101 ∷ 32 ∷ 49 ∷ 32 ∷ 33 ∷ 32 ∷ 83 ∷ 67 ∷ 76 ∷ 32 ∷ 36 ∷ 101 ∷ 110 ∷ 100 ∷ 32 ∷ 36 ∷ 101 ∷ 110 ∷ 100 ∷ 100 ∷ 101 ∷ 102 ∷ 105 ∷ 110 ∷ 105 ∷ 116 ∷ 105 ∷ 111 ∷ 110 ∷ 115 ∷ 32 ∷ 36 ∷ 101 ∷ 110 ∷ 100 ∷ 32 ∷ 36 ∷ 101 ∷ 110 ∷ 100 ∷ []) ≡ stopped 40 65
unfolding opened
stray_end = refl

-- a time within a dump
--     $timescale 1 us $end $var wire 1 ! SCL $end $enddefinitions $end $dumpvars #1 $end
pub time_in_dump : trace_of (36 ∷ 116 ∷ 105 ∷ 109 ∷ 101 ∷ 115 ∷ 99 ∷ 97 ∷ 108 ∷ 101 ∷ 32 ∷ 49 ∷ 32 ∷ 117 ∷ 115 ∷ 32 ∷ 36 ∷ 101 ∷ 110 ∷ 100 ∷ 32 ∷ 36 ∷ 118 ∷ 97 ∷ 114 ∷ 32 ∷ 119 ∷ 105 ∷ 114 ∷ 101 ∷ 32 ∷ 49 ∷ 32 ∷ 33 ∷ 32 ∷ 83 ∷ 67 ∷ 76 ∷ 32 ∷ 36 ∷ 101 ∷ 110 ∷ 100 ∷ 32 ∷ 36 ∷ 101 ∷ 110 ∷ 100 ∷ 100 ∷ 101 ∷ 102 ∷ 105 ∷ 110 ∷ 105 ∷ 116 ∷ 105 ∷ 111 ∷ 110 ∷ 115 ∷ 32 ∷ 36 ∷ 101 ∷ 110 ∷ 100 ∷ 32 ∷ 36 ∷ 100 ∷ 117 ∷ 109 ∷ 112 ∷ 118 ∷ 97 ∷ 114 ∷ 115 ∷ 32 ∷ 35 ∷ 49 ∷ 32 ∷ 36 ∷ 101 ∷ 110 ∷ 100 ∷ []) ≡ stopped 40 75
unfolding opened
time_in_dump = refl

-- a comment within a dump
--     $timescale 1 us $end $var wire 1 ! SCL $end $enddefinitions $end $dumpvars $comment $end $end
pub comment_in_dump : trace_of (36 ∷ 116 ∷ 105 ∷ 109 ∷ 101 ∷ 115 ∷ 99 ∷ 97 ∷ 108 ∷ 101 ∷ 32 ∷ 49 ∷ 32 ∷ 117 ∷ 115 ∷ 32 ∷ 36 ∷ 101 ∷ 110 ∷ 100 ∷ 32 ∷ 36 ∷ 118 ∷ 97 ∷ 114 ∷ 32 ∷ 119 ∷ 105 ∷ 114 ∷ 101 ∷ 32 ∷ 49 ∷ 32 ∷ 33 ∷ 32 ∷ 83 ∷ 67 ∷ 76 ∷ 32 ∷ 36 ∷ 101 ∷ 110 ∷ 100 ∷ 32 ∷ 36 ∷ 101 ∷ 110 ∷ 100 ∷ 100 ∷ 101 ∷ 102 ∷ 105 ∷ 110 ∷ 105 ∷ 116 ∷ 105 ∷ 111 ∷ 110 ∷ 115 ∷ 32 ∷ 36 ∷ 101 ∷ 110 ∷ 100 ∷ 32 ∷ 36 ∷ 100 ∷ 117 ∷ 109 ∷ 112 ∷ 118 ∷ 97 ∷ 114 ∷ 115 ∷ 32 ∷ 36 ∷ 99 ∷ 111 ∷ 109 ∷ 109 ∷ 101 ∷ 110 ∷ 116 ∷ 32 ∷ 36 ∷ 101 ∷ 110 ∷ 100 ∷ 32 ∷ 36 ∷ 101 ∷ 110 ∷ 100 ∷ []) ≡ stopped 40 75
unfolding opened
comment_in_dump = refl

-- a dump within a dump
--     $timescale 1 us $end $var wire 1 ! SCL $end $enddefinitions $end $dumpvars $dumpall $end $end
pub dump_in_dump : trace_of (36 ∷ 116 ∷ 105 ∷ 109 ∷ 101 ∷ 115 ∷ 99 ∷ 97 ∷ 108 ∷ 101 ∷ 32 ∷ 49 ∷ 32 ∷ 117 ∷ 115 ∷ 32 ∷ 36 ∷ 101 ∷ 110 ∷ 100 ∷ 32 ∷ 36 ∷ 118 ∷ 97 ∷ 114 ∷ 32 ∷ 119 ∷ 105 ∷ 114 ∷ 101 ∷ 32 ∷ 49 ∷ 32 ∷ 33 ∷ 32 ∷ 83 ∷ 67 ∷ 76 ∷ 32 ∷ 36 ∷ 101 ∷ 110 ∷ 100 ∷ 32 ∷ 36 ∷ 101 ∷ 110 ∷ 100 ∷ 100 ∷ 101 ∷ 102 ∷ 105 ∷ 110 ∷ 105 ∷ 116 ∷ 105 ∷ 111 ∷ 110 ∷ 115 ∷ 32 ∷ 36 ∷ 101 ∷ 110 ∷ 100 ∷ 32 ∷ 36 ∷ 100 ∷ 117 ∷ 109 ∷ 112 ∷ 118 ∷ 97 ∷ 114 ∷ 115 ∷ 32 ∷ 36 ∷ 100 ∷ 117 ∷ 109 ∷ 112 ∷ 97 ∷ 108 ∷ 108 ∷ 32 ∷ 36 ∷ 101 ∷ 110 ∷ 100 ∷ 32 ∷ 36 ∷ 101 ∷ 110 ∷ 100 ∷ []) ≡ stopped 40 75
unfolding opened
dump_in_dump = refl

-- the file ends within a comment of the body
--     $timescale 1 us $end $var wire 1 ! SCL $end $enddefinitions $end $comment abc
pub cut_remark : trace_of (36 ∷ 116 ∷ 105 ∷ 109 ∷ 101 ∷ 115 ∷ 99 ∷ 97 ∷ 108 ∷ 101 ∷ 32 ∷ 49 ∷ 32 ∷ 117 ∷ 115 ∷ 32 ∷ 36 ∷ 101 ∷ 110 ∷ 100 ∷ 32 ∷ 36 ∷ 118 ∷ 97 ∷ 114 ∷ 32 ∷ 119 ∷ 105 ∷ 114 ∷ 101 ∷ 32 ∷ 49 ∷ 32 ∷ 33 ∷ 32 ∷ 83 ∷ 67 ∷ 76 ∷ 32 ∷ 36 ∷ 101 ∷ 110 ∷ 100 ∷ 32 ∷ 36 ∷ 101 ∷ 110 ∷ 100 ∷ 100 ∷ 101 ∷ 102 ∷ 105 ∷ 110 ∷ 105 ∷ 116 ∷ 105 ∷ 111 ∷ 110 ∷ 115 ∷ 32 ∷ 36 ∷ 101 ∷ 110 ∷ 100 ∷ 32 ∷ 36 ∷ 99 ∷ 111 ∷ 109 ∷ 109 ∷ 101 ∷ 110 ∷ 116 ∷ 32 ∷ 97 ∷ 98 ∷ 99 ∷ []) ≡ stopped 40 65
unfolding opened
cut_remark = refl

-- ---- 40 after words: they stand

-- the file ends within a dump: 40 at its keyword, after the change in it
--     $timescale 1 us $end $var wire 1 ! SCL $end $enddefinitions $end $dumpvars 1!
pub cut_dump : trace_of (36 ∷ 116 ∷ 105 ∷ 109 ∷ 101 ∷ 115 ∷ 99 ∷ 97 ∷ 108 ∷ 101 ∷ 32 ∷ 49 ∷ 32 ∷ 117 ∷ 115 ∷ 32 ∷ 36 ∷ 101 ∷ 110 ∷ 100 ∷ 32 ∷ 36 ∷ 118 ∷ 97 ∷ 114 ∷ 32 ∷ 119 ∷ 105 ∷ 114 ∷ 101 ∷ 32 ∷ 49 ∷ 32 ∷ 33 ∷ 32 ∷ 83 ∷ 67 ∷ 76 ∷ 32 ∷ 36 ∷ 101 ∷ 110 ∷ 100 ∷ 32 ∷ 36 ∷ 101 ∷ 110 ∷ 100 ∷ 100 ∷ 101 ∷ 102 ∷ 105 ∷ 110 ∷ 105 ∷ 116 ∷ 105 ∷ 111 ∷ 110 ∷ 115 ∷ 32 ∷ 36 ∷ 101 ∷ 110 ∷ 100 ∷ 32 ∷ 36 ∷ 100 ∷ 117 ∷ 109 ∷ 112 ∷ 118 ∷ 97 ∷ 114 ∷ 115 ∷ 32 ∷ 49 ∷ 33 ∷ []) ≡ record { events = event false 75 0 0x03001901 ∷ []; number = 40; place = 65 }
unfolding opened
cut_dump = refl

-- ---- 41 and 44, and what is not refused

-- a time before the last
--     $timescale 1 us $end $enddefinitions $end #5 #4
pub time_back : trace_of (36 ∷ 116 ∷ 105 ∷ 109 ∷ 101 ∷ 115 ∷ 99 ∷ 97 ∷ 108 ∷ 101 ∷ 32 ∷ 49 ∷ 32 ∷ 117 ∷ 115 ∷ 32 ∷ 36 ∷ 101 ∷ 110 ∷ 100 ∷ 32 ∷ 36 ∷ 101 ∷ 110 ∷ 100 ∷ 100 ∷ 101 ∷ 102 ∷ 105 ∷ 110 ∷ 105 ∷ 116 ∷ 105 ∷ 111 ∷ 110 ∷ 115 ∷ 32 ∷ 36 ∷ 101 ∷ 110 ∷ 100 ∷ 32 ∷ 35 ∷ 53 ∷ 32 ∷ 35 ∷ 52 ∷ []) ≡ stopped 41 45
unfolding opened
time_back = refl

-- a time as the last goes on
--     $timescale 1 us $end $enddefinitions $end #5 #5
pub time_again : trace_of (36 ∷ 116 ∷ 105 ∷ 109 ∷ 101 ∷ 115 ∷ 99 ∷ 97 ∷ 108 ∷ 101 ∷ 32 ∷ 49 ∷ 32 ∷ 117 ∷ 115 ∷ 32 ∷ 36 ∷ 101 ∷ 110 ∷ 100 ∷ 32 ∷ 36 ∷ 101 ∷ 110 ∷ 100 ∷ 100 ∷ 101 ∷ 102 ∷ 105 ∷ 110 ∷ 105 ∷ 116 ∷ 105 ∷ 111 ∷ 110 ∷ 115 ∷ 32 ∷ 36 ∷ 101 ∷ 110 ∷ 100 ∷ 32 ∷ 35 ∷ 53 ∷ 32 ∷ 35 ∷ 53 ∷ []) ≡ stopped 0 0
unfolding opened
time_again = refl

-- the first time in µs that 64 bits do not hold in ps
--     $timescale 1 us $end $enddefinitions $end #18446744073710
pub time_over : trace_of (36 ∷ 116 ∷ 105 ∷ 109 ∷ 101 ∷ 115 ∷ 99 ∷ 97 ∷ 108 ∷ 101 ∷ 32 ∷ 49 ∷ 32 ∷ 117 ∷ 115 ∷ 32 ∷ 36 ∷ 101 ∷ 110 ∷ 100 ∷ 32 ∷ 36 ∷ 101 ∷ 110 ∷ 100 ∷ 100 ∷ 101 ∷ 102 ∷ 105 ∷ 110 ∷ 105 ∷ 116 ∷ 105 ∷ 111 ∷ 110 ∷ 115 ∷ 32 ∷ 36 ∷ 101 ∷ 110 ∷ 100 ∷ 32 ∷ 35 ∷ 49 ∷ 56 ∷ 52 ∷ 52 ∷ 54 ∷ 55 ∷ 52 ∷ 52 ∷ 48 ∷ 55 ∷ 51 ∷ 55 ∷ 49 ∷ 48 ∷ []) ≡ stopped 44 42
unfolding opened
time_over = refl

-- a number above 64 bits
--     $timescale 1 us $end $enddefinitions $end #18446744073709551616
pub number_over : trace_of (36 ∷ 116 ∷ 105 ∷ 109 ∷ 101 ∷ 115 ∷ 99 ∷ 97 ∷ 108 ∷ 101 ∷ 32 ∷ 49 ∷ 32 ∷ 117 ∷ 115 ∷ 32 ∷ 36 ∷ 101 ∷ 110 ∷ 100 ∷ 32 ∷ 36 ∷ 101 ∷ 110 ∷ 100 ∷ 100 ∷ 101 ∷ 102 ∷ 105 ∷ 110 ∷ 105 ∷ 116 ∷ 105 ∷ 111 ∷ 110 ∷ 115 ∷ 32 ∷ 36 ∷ 101 ∷ 110 ∷ 100 ∷ 32 ∷ 35 ∷ 49 ∷ 56 ∷ 52 ∷ 52 ∷ 54 ∷ 55 ∷ 52 ∷ 52 ∷ 48 ∷ 55 ∷ 51 ∷ 55 ∷ 48 ∷ 57 ∷ 53 ∷ 53 ∷ 49 ∷ 54 ∷ 49 ∷ 54 ∷ []) ≡ stopped 44 42
unfolding opened
number_over = refl

-- ---- 42

-- 32 are declared
pub all_declared : trace_of (many 32 []) ≡ stopped 0 0
unfolding opened
all_declared = refl

-- one more is 42, at its keyword
pub one_too_many : trace_of (many 33 []) ≡ stopped 42 672
unfolding opened
one_too_many = refl

-- one more that is malformed: 40 and not 42, at the same place
--     $var wire 1 ! $end
pub malformed_first : trace_of (many 32 (36 ∷ 118 ∷ 97 ∷ 114 ∷ 32 ∷ 119 ∷ 105 ∷ 114 ∷ 101 ∷ 32 ∷ 49 ∷ 32 ∷ 33 ∷ 32 ∷ 36 ∷ 101 ∷ 110 ∷ 100 ∷ [])) ≡ stopped 40 672
unfolding opened
malformed_first = refl

-- ---- 43

-- a clock and a change in one place: the change finds none, and is 43 at it; the word before it stands
--     $timescale 1 us $end $var wire 1 ! SCL $end $enddefinitions $end #8 1!
pub no_place : given (trace_of (36 ∷ 116 ∷ 105 ∷ 109 ∷ 101 ∷ 115 ∷ 99 ∷ 97 ∷ 108 ∷ 101 ∷ 32 ∷ 49 ∷ 32 ∷ 117 ∷ 115 ∷ 32 ∷ 36 ∷ 101 ∷ 110 ∷ 100 ∷ 32 ∷ 36 ∷ 118 ∷ 97 ∷ 114 ∷ 32 ∷ 119 ∷ 105 ∷ 114 ∷ 101 ∷ 32 ∷ 49 ∷ 32 ∷ 33 ∷ 32 ∷ 83 ∷ 67 ∷ 76 ∷ 32 ∷ 36 ∷ 101 ∷ 110 ∷ 100 ∷ 32 ∷ 36 ∷ 101 ∷ 110 ∷ 100 ∷ 100 ∷ 101 ∷ 102 ∷ 105 ∷ 110 ∷ 105 ∷ 116 ∷ 105 ∷ 111 ∷ 110 ∷ 115 ∷ 32 ∷ 36 ∷ 101 ∷ 110 ∷ 100 ∷ 32 ∷ 35 ∷ 56 ∷ 32 ∷ 49 ∷ 33 ∷ [])) (0 ∷ []) ≡ told (0x04000000 ∷ []) 1 43 68
unfolding opened
no_place = refl

-- a time that goes back is 41 though no place is left
--     $timescale 1 us $end $var wire 1 ! SCL $end $enddefinitions $end #8 #4
pub back_before_no_place : given (trace_of (36 ∷ 116 ∷ 105 ∷ 109 ∷ 101 ∷ 115 ∷ 99 ∷ 97 ∷ 108 ∷ 101 ∷ 32 ∷ 49 ∷ 32 ∷ 117 ∷ 115 ∷ 32 ∷ 36 ∷ 101 ∷ 110 ∷ 100 ∷ 32 ∷ 36 ∷ 118 ∷ 97 ∷ 114 ∷ 32 ∷ 119 ∷ 105 ∷ 114 ∷ 101 ∷ 32 ∷ 49 ∷ 32 ∷ 33 ∷ 32 ∷ 83 ∷ 67 ∷ 76 ∷ 32 ∷ 36 ∷ 101 ∷ 110 ∷ 100 ∷ 32 ∷ 36 ∷ 101 ∷ 110 ∷ 100 ∷ 100 ∷ 101 ∷ 102 ∷ 105 ∷ 110 ∷ 105 ∷ 116 ∷ 105 ∷ 111 ∷ 110 ∷ 115 ∷ 32 ∷ 36 ∷ 101 ∷ 110 ∷ 100 ∷ 32 ∷ 35 ∷ 56 ∷ 32 ∷ 35 ∷ 52 ∷ [])) (0 ∷ []) ≡ told (0x04000000 ∷ []) 1 41 68
unfolding opened
back_before_no_place = refl

-- so is 44
--     $timescale 1 us $end $var wire 1 ! SCL $end $enddefinitions $end #8 #18446744073710
pub over_before_no_place : given (trace_of (36 ∷ 116 ∷ 105 ∷ 109 ∷ 101 ∷ 115 ∷ 99 ∷ 97 ∷ 108 ∷ 101 ∷ 32 ∷ 49 ∷ 32 ∷ 117 ∷ 115 ∷ 32 ∷ 36 ∷ 101 ∷ 110 ∷ 100 ∷ 32 ∷ 36 ∷ 118 ∷ 97 ∷ 114 ∷ 32 ∷ 119 ∷ 105 ∷ 114 ∷ 101 ∷ 32 ∷ 49 ∷ 32 ∷ 33 ∷ 32 ∷ 83 ∷ 67 ∷ 76 ∷ 32 ∷ 36 ∷ 101 ∷ 110 ∷ 100 ∷ 32 ∷ 36 ∷ 101 ∷ 110 ∷ 100 ∷ 100 ∷ 101 ∷ 102 ∷ 105 ∷ 110 ∷ 105 ∷ 116 ∷ 105 ∷ 111 ∷ 110 ∷ 115 ∷ 32 ∷ 36 ∷ 101 ∷ 110 ∷ 100 ∷ 32 ∷ 35 ∷ 56 ∷ 32 ∷ 35 ∷ 49 ∷ 56 ∷ 52 ∷ 52 ∷ 54 ∷ 55 ∷ 52 ∷ 52 ∷ 48 ∷ 55 ∷ 51 ∷ 55 ∷ 49 ∷ 48 ∷ [])) (0 ∷ []) ≡ told (0x04000000 ∷ []) 1 44 68
unfolding opened
over_before_no_place = refl
