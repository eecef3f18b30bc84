-- The theorem at a small dump, start.vcd of tests/vcd: its sections declare, its items mean, its bytes spell them.
-- Assumes nothing.
use Prim.Native.Nat.{ℕ, ◌+◌, ◌-◌, ◌*◌, ◌<◌, ◌≤◌}
use native.Mathlib.Omega.{arith}
use mathlib.Core.Bool.{true, false}
use mathlib.Core.Path.{◌≡◌, refl}
use mathlib.Core.List.{List, [], ◌∷◌, ◌++◌}
use lib.ListN.{length, replicate}
use Rattle.vcd_text.specs.Token.{white, word_length, tokens, same_bytes, graphic, all_graphic, number_of, grown_by, longer_by, digits_from, decimal_of, end_word}
use Rattle.vcd_codes.specs.Codes.{Variable, find, joins}
use Rattle.vcd_keywords.specs.Words.{is_scope, is_net, is_discrete, sort_of, pin_of}
use Rattle.vcd_header.specs.Header.{is_name}
use Rattle.vcd.specs.Header.{taken}
use Rattle.vcd.specs.Call.{trace_of}
use Rattle.vcd_grammar_laws.specs.Words.{Spells, bytes_of}
use Rattle.vcd_grammar_laws.specs.Body.{Item, time, change, dump, end, item_words, body_words, s_zero, s_one, s_x, level_words, no_word, one_word, d_vars, Means, m_none, m_time, m_change, m_end, m_dump, Accepted}
use Rattle.vcd_grammar_laws.specs.Header.{Section, free_text, unit, scope, upscope, var, section_words, dump_words, t_date, c_one, l_us, k_scalar, x_none, Declares, d_none, d_text, d_unit, d_scope, d_upscope, d_var}
use Rattle.vcd_grammar_laws.proofs.Words.{spells_all}
use Rattle.vcd_grammar_laws.proofs.Header.{dump_read}

--     $date by hand $end
--     $timescale 1 us $end
--     $scope module bus $end
--     $var wire 1 ! SCL $end
--     $var wire 1 " SDA $end
--     $upscope $end
--     $enddefinitions $end
--     $dumpvars 1! 1" $end
--     #4 0"
--     #8 0!
--     #20 x"
pub start_dump : List ℕ
start_dump =
    36 ∷ 100 ∷ 97 ∷ 116 ∷ 101 ∷ 32 ∷ 98 ∷ 121 ∷ 32 ∷ 104 ∷ 97 ∷ 110 ∷ 100 ∷ 32 ∷ 36 ∷ 101 ∷ 110 ∷ 100 ∷ 10 ∷ 36 ∷ 116 ∷ 105 ∷ 109 ∷ 101 ∷ 115 ∷ 99 ∷ 97 ∷ 108 ∷ 101 ∷ 32 ∷ 49 ∷ 32 ∷ 117 ∷ 115 ∷ 32 ∷ 36 ∷ 101 ∷ 110 ∷ 100 ∷ 10 ∷ 36 ∷ 115 ∷ 99 ∷ 111 ∷ 112 ∷ 101 ∷ 32 ∷ 109 ∷ 111 ∷ 100 ∷ 117 ∷ 108 ∷ 101 ∷ 32 ∷ 98 ∷ 117 ∷ 115 ∷ 32 ∷ 36 ∷ 101 ∷ 110 ∷ 100 ∷ 10 ∷ 36 ∷ 118 ∷ 97 ∷ 114 ∷ 32 ∷ 119 ∷ 105 ∷ 114 ∷ 101 ∷ 32 ∷ 49 ∷ 32 ∷ 33 ∷ 32 ∷ 83 ∷ 67 ∷ 76 ∷ 32 ∷ 36 ∷ 101 ∷ 110 ∷ 100 ∷ 10 ∷ 36 ∷ 118 ∷ 97 ∷ 114 ∷ 32 ∷ 119 ∷ 105 ∷ 114 ∷ 101 ∷ 32 ∷ 49 ∷ 32 ∷ 34 ∷ 32 ∷ 83 ∷ 68 ∷ 65 ∷ 32 ∷ 36 ∷ 101 ∷ 110 ∷ 100 ∷ 10 ∷ 36 ∷ 117 ∷ 112 ∷ 115 ∷ 99 ∷ 111 ∷ 112 ∷ 101 ∷ 32 ∷ 36 ∷ 101 ∷ 110 ∷ 100 ∷ 10 ∷ 36 ∷ 101 ∷ 110 ∷ 100 ∷ 100 ∷ 101 ∷ 102 ∷ 105 ∷ 110 ∷ 105 ∷ 116 ∷ 105 ∷ 111 ∷ 110 ∷ 115 ∷ 32 ∷ 36 ∷ 101 ∷ 110 ∷ 100 ∷ 10 ∷ 36 ∷ 100 ∷ 117 ∷ 109 ∷ 112 ∷ 118 ∷ 97 ∷ 114 ∷ 115 ∷ 32 ∷ 49 ∷ 33 ∷ 32 ∷ 49 ∷ 34 ∷ 32 ∷ 36 ∷ 101 ∷ 110 ∷ 100 ∷ 10 ∷ 35 ∷ 52 ∷ 32 ∷ 48 ∷ 34 ∷ 10 ∷ 35 ∷ 56 ∷ 32 ∷ 48 ∷ 33 ∷ 10 ∷ 35 ∷ 50 ∷ 48 ∷ 32 ∷ 120 ∷ 34 ∷ 10 ∷ []

header : List Section
header =
    free_text (36 ∷ 100 ∷ 97 ∷ 116 ∷ 101 ∷ []) ((98 ∷ 121 ∷ []) ∷ (104 ∷ 97 ∷ 110 ∷ 100 ∷ []) ∷ [])
    ∷ unit (49 ∷ []) (117 ∷ 115 ∷ [])
    ∷ scope (109 ∷ 111 ∷ 100 ∷ 117 ∷ 108 ∷ 101 ∷ []) (98 ∷ 117 ∷ 115 ∷ [])
    ∷ var (119 ∷ 105 ∷ 114 ∷ 101 ∷ []) (49 ∷ []) (33 ∷ []) (83 ∷ 67 ∷ 76 ∷ []) []
    ∷ var (119 ∷ 105 ∷ 114 ∷ 101 ∷ []) (49 ∷ []) (34 ∷ []) (83 ∷ 68 ∷ 65 ∷ []) []
    ∷ upscope
    ∷ []

items : List Item
items =
    dump (36 ∷ 100 ∷ 117 ∷ 109 ∷ 112 ∷ 118 ∷ 97 ∷ 114 ∷ 115 ∷ []) ∷ change 49 (33 ∷ []) ∷ change 49 (34 ∷ []) ∷ end
    ∷ time 4 (52 ∷ []) ∷ change 48 (34 ∷ [])
    ∷ time 8 (56 ∷ []) ∷ change 48 (33 ∷ [])
    ∷ time 20 (50 ∷ 48 ∷ []) ∷ change 120 (34 ∷ [])
    ∷ []

abbrev vars : List Variable
vars = record { code = 33 ∷ []; pin = 25 } ∷ record { code = 34 ∷ []; pin = 24 } ∷ []

spelt : bytes_of (tokens false 0 start_dump) ≡ dump_words header (body_words items)
unfolding start_dump white word_length tokens bytes_of header items dump_words section_words body_words item_words
spelt = refl

declares : Declares 0 [] header 1000000 vars
unfolding header same_bytes graphic all_graphic number_of grown_by longer_by digits_from decimal_of is_scope is_net is_discrete sort_of pin_of is_name taken
declares =
    d_text t_date (one_word refl (one_word refl no_word))
    (d_unit c_one l_us
    (d_scope refl refl
    (d_var {vs = []} (k_scalar refl refl) refl refl x_none (omega arith)
    (d_var {vs = record { code = 33 ∷ []; pin = 25 } ∷ []} (k_scalar refl refl) refl refl x_none (omega arith)
    (d_upscope d_none)))))

means : Means (find vars) 1000000 0 0 false items (0x03001901 ∷ 0x03001801 ∷ 0x03001800 ∷ 0x04000000 ∷ 0x03001900 ∷ 0x04000000 ∷ 0x03001801 ∷ [])
unfolding items same_bytes find joins level_words number_of grown_by longer_by digits_from decimal_of
means =
    m_dump d_vars (m_change {pins = 25 ∷ []} s_one refl (m_change {pins = 24 ∷ []} s_one refl (m_end
    (m_time {t = 0} {n = 4} refl (omega arith) (omega arith) (m_change {pins = 24 ∷ []} s_zero refl
    (m_time {t = 4} {n = 8} refl (omega arith) (omega arith) (m_change {pins = 25 ∷ []} s_zero refl
    (m_time {t = 8} {n = 20} refl (omega arith) (omega arith) (m_change {pins = 24 ∷ []} s_x refl m_none)))))))))

-- the words that vcd_trace computes of the same bytes
pub start_read : Accepted (trace_of start_dump) (0x03001901 ∷ 0x03001801 ∷ 0x03001800 ∷ 0x04000000 ∷ 0x03001900 ∷ 0x04000000 ∷ 0x03001801 ∷ [])
start_read = dump_read header items start_dump 1000000 vars _ (rw spelt at (spells_all start_dump 0)) declares (omega arith) means
