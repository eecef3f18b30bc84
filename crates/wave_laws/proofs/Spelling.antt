-- The dump of a replay spells sections and items, and its sections declare the 20 variables.
-- Assumes nothing.
use mathlib.Core.Bool.{Bool, true, false}
use mathlib.Core.Path.{◌≡◌, refl, sym, ap, ◌∙◌}
use mathlib.Core.List.{List, [], ◌∷◌, ◌++◌, append_assoc}
use Prim.Native.Nat.{ℕ, zero, suc, ◌+◌, ◌-◌, ◌*◌, ◌/◌, ◌%◌, ◌<◌, ◌≤◌}
use native.Mathlib.Omega.{arith}
use lib.ListN.{length, take}
use lib.Dec.{ltb}
use borrow.Author.Tests.{lt-ltb}
use Rattle.bits.specs.Byte.{pick, num}
use Rattle.vcd_text.specs.Token.{white, word_length, tokens, same_bytes, graphic, all_graphic, number_of, grown_by, longer_by, digits_from, decimal_of}
use Rattle.vcd_codes.specs.Codes.{Variable, Found, declared, joins, find}
use Rattle.vcd_keywords.specs.Words.{is_scope, is_net, is_discrete, sort_of, pin_of}
use Rattle.vcd_header.specs.Header.{is_name}
use Rattle.vcd.specs.Header.{taken}
use Rattle.vcd_grammar_laws.specs.Words.{NonWhite, no_byte, more, WordEnds, at_end_lem, at_white, Spells, no_text, white_byte, word, bytes_of}
use Rattle.vcd_grammar_laws.specs.Body.{Item, item_words, body_words}
use Rattle.vcd_grammar_laws.specs.Body as item
use Rattle.vcd_grammar_laws.specs.Header.{Section, unit, scope, upscope, var, section_words, dump_words, c_one, l_ns, k_scalar, k_vector, x_none, Declares, d_none, d_unit, d_scope, d_upscope, d_var}
use Rattle.vcd_grammar_laws.proofs.Words.{spells_all}
use Rattle.wave_write.specs.Decimal.{decimal_to, decimal, binary}
use Rattle.wave_write.specs.Lines.{Line, time, pin, level, vector, first, line_bytes, text}
use Rattle.wave_write.specs.Header.{header_text}

-- ---- words

newline : white 10 ≡ true
unfolding white
newline = refl

blank : white 32 ≡ true
unfolding white
blank = refl

solid_byte : (b : ℕ) → 32 < b → white b ≡ false
unfolding white
solid_byte b h = simp (lt-ltb 32 b h)

non_white_append : (xs ys : List ℕ) → NonWhite xs → NonWhite ys → NonWhite (xs ++ ys)
non_white_append [] ys no_byte s = s
non_white_append (x ∷ xs) ys (more w r) s = more w (non_white_append xs ys r s)

digits_by : (b : Bool) (d : ℕ) (ds : List ℕ) → 32 < d → NonWhite ds → NonWhite (pick b (d ∷ []) (ds ++ (d ∷ [])))
digits_by true d ds h s = more (solid_byte d h) no_byte
digits_by false d ds h s = non_white_append ds (d ∷ []) s (more (solid_byte d h) no_byte)

digits_solid : (k n : ℕ) → NonWhite (decimal_to k n)
unfolding decimal_to
digits_solid zero n = more (solid_byte (48 + n % 10) (omega arith)) no_byte
digits_solid (suc k) n = digits_by (ltb n 10) (48 + n % 10) (decimal_to k (n / 10)) (omega arith) (digits_solid k (n / 10))

binary_solid : (n v : ℕ) → NonWhite (binary n v)
unfolding binary
binary_solid zero v = no_byte
binary_solid (suc n) v = more (solid_byte (48 + v / 2048 % 2) (omega arith)) (binary_solid n (v % 2048 * 2))

-- ---- lines as items

unfoldable pub items_of : List Line → List Item
items_of [] = []
items_of (time t ∷ ls) = item.time t (decimal t) ∷ items_of ls
items_of (pin high p ∷ ls) = item.change (48 + num high) ((73 + p) ∷ []) ∷ items_of ls
items_of (level high k ∷ ls) = item.change (48 + num high) ((65 + k) ∷ []) ∷ items_of ls
items_of (vector n v k ∷ ls) = item.vector 98 (binary n v) ((75 + k) ∷ []) ∷ items_of ls
items_of (first high p ∷ ls) = item.vector 98 ((48 + num high) ∷ []) ((73 + p) ∷ []) ∷ items_of ls

vector_apart : (bits rest : List ℕ) (c : ℕ) → (98 ∷ (bits ++ (32 ∷ c ∷ []))) ++ (10 ∷ rest) ≡ (98 ∷ bits) ++ (32 ∷ c ∷ 10 ∷ rest)
vector_apart bits rest c = ap (λ (l : List ℕ). 98 ∷ l) (append_assoc bits (32 ∷ c ∷ []) (10 ∷ rest))

lines_spell : (ls : List Line) → Spells (text ls) (body_words (items_of ls))
unfolding text line_bytes items_of body_words item_words
lines_spell [] = no_text
lines_spell (time t ∷ ls) = word {rest = 10 ∷ text ls} (more (solid_byte 35 (omega arith)) (digits_solid 19 t)) (at_white newline) refl (white_byte newline (lines_spell ls))
lines_spell (pin high p ∷ ls) =
    word {rest = 10 ∷ text ls} (more (solid_byte (48 + num high) (omega arith)) (more (solid_byte (73 + p) (omega arith)) no_byte)) (at_white newline) refl (white_byte newline (lines_spell ls))
lines_spell (level high k ∷ ls) =
    word {rest = 10 ∷ text ls} (more (solid_byte (48 + num high) (omega arith)) (more (solid_byte (65 + k) (omega arith)) no_byte)) (at_white newline) refl (white_byte newline (lines_spell ls))
lines_spell (vector n v k ∷ ls) =
    word {rest = 32 ∷ (75 + k) ∷ 10 ∷ text ls} (more (solid_byte 98 (omega arith)) (binary_solid n v)) (at_white blank) (vector_apart (binary n v) (text ls) (75 + k))
    (white_byte blank (word {rest = 10 ∷ text ls} (more (solid_byte (75 + k) (omega arith)) no_byte) (at_white newline) refl (white_byte newline (lines_spell ls))))
lines_spell (first high p ∷ ls) =
    word {rest = 32 ∷ (73 + p) ∷ 10 ∷ text ls} (more (solid_byte 98 (omega arith)) (more (solid_byte (48 + num high) (omega arith)) no_byte)) (at_white blank) refl
    (white_byte blank (word {rest = 10 ∷ text ls} (more (solid_byte (73 + p) (omega arith)) no_byte) (at_white newline) refl (white_byte newline (lines_spell ls))))

-- ---- one text after another

ends_append : (rest ys : List ℕ) → WordEnds rest → WordEnds (rest ++ (10 ∷ ys))
ends_append [] ys at_end_lem = at_white newline
ends_append (b ∷ rest) ys (at_white w) = at_white w

spells_append : {xs : List ℕ} {us : List (List ℕ)} (ys : List ℕ) (ws : List (List ℕ)) → Spells xs us → Spells ys ws → Spells (xs ++ (10 ∷ ys)) (us ++ ws)
spells_append ys ws no_text s = white_byte newline s
spells_append ys ws (white_byte w r) s = white_byte w (spells_append ys ws r s)
spells_append ys ws (word {b} {bs} {rest} o a e r) s =
    word {rest = rest ++ (10 ∷ ys)} o (ends_append rest ys a) (ap (λ (l : List ℕ). l ++ (10 ∷ ys)) e ∙ append_assoc (b ∷ bs) rest (10 ∷ ys)) (spells_append ys ws r s)

-- ---- the header

unfoldable pub header : List Section
header =
    unit (49 ∷ []) (110 ∷ 115 ∷ [])
    ∷ scope (109 ∷ 111 ∷ 100 ∷ 117 ∷ 108 ∷ 101 ∷ []) (78 ∷ 84 ∷ 54 ∷ 56 ∷ 54 ∷ 49 ∷ [])
    ∷ var (119 ∷ 105 ∷ 114 ∷ 101 ∷ []) (49 ∷ []) (97 ∷ []) (83 ∷ 68 ∷ 65 ∷ []) []
    ∷ var (119 ∷ 105 ∷ 114 ∷ 101 ∷ []) (49 ∷ []) (98 ∷ []) (83 ∷ 67 ∷ 76 ∷ []) []
    ∷ var (119 ∷ 105 ∷ 114 ∷ 101 ∷ []) (49 ∷ []) (99 ∷ []) (72 ∷ 83 ∷ 89 ∷ 78 ∷ 67 ∷ 73 ∷ []) []
    ∷ var (119 ∷ 105 ∷ 114 ∷ 101 ∷ []) (49 ∷ []) (100 ∷ []) (86 ∷ 83 ∷ 89 ∷ 78 ∷ 67 ∷ 73 ∷ []) []
    ∷ var (119 ∷ 105 ∷ 114 ∷ 101 ∷ []) (49 ∷ []) (65 ∷ []) (82 ∷ 69 ∷ 83 ∷ 69 ∷ 84 ∷ []) []
    ∷ var (119 ∷ 105 ∷ 114 ∷ 101 ∷ []) (49 ∷ []) (66 ∷ []) (80 ∷ 49 ∷ 54 ∷ []) []
    ∷ var (119 ∷ 105 ∷ 114 ∷ 101 ∷ []) (49 ∷ []) (67 ∷ []) (83 ∷ 67 ∷ 76 ∷ 95 ∷ 108 ∷ 105 ∷ 110 ∷ 101 ∷ []) []
    ∷ var (119 ∷ 105 ∷ 114 ∷ 101 ∷ []) (49 ∷ []) (68 ∷ []) (83 ∷ 68 ∷ 65 ∷ 95 ∷ 108 ∷ 105 ∷ 110 ∷ 101 ∷ []) []
    ∷ var (119 ∷ 105 ∷ 114 ∷ 101 ∷ []) (49 ∷ []) (69 ∷ []) (82 ∷ 69 ∷ 81 ∷ 95 ∷ 86 ∷ []) []
    ∷ var (119 ∷ 105 ∷ 114 ∷ 101 ∷ []) (49 ∷ []) (70 ∷ []) (82 ∷ 69 ∷ 81 ∷ 95 ∷ 69 ∷ []) []
    ∷ var (119 ∷ 105 ∷ 114 ∷ 101 ∷ []) (49 ∷ []) (71 ∷ []) (82 ∷ 69 ∷ 81 ∷ 95 ∷ 82 ∷ []) []
    ∷ var (119 ∷ 105 ∷ 114 ∷ 101 ∷ []) (49 ∷ []) (72 ∷ []) (82 ∷ 69 ∷ 81 ∷ 95 ∷ 65 ∷ []) []
    ∷ var (119 ∷ 105 ∷ 114 ∷ 101 ∷ []) (49 ∷ []) (73 ∷ []) (82 ∷ 69 ∷ 81 ∷ 95 ∷ 68 ∷ []) []
    ∷ var (119 ∷ 105 ∷ 114 ∷ 101 ∷ []) (49 ∷ []) (74 ∷ []) (82 ∷ 69 ∷ 81 ∷ 95 ∷ 83 ∷ []) []
    ∷ var (119 ∷ 105 ∷ 114 ∷ 101 ∷ []) (56 ∷ []) (75 ∷ []) (73 ∷ 82 ∷ 81 ∷ 88 ∷ []) []
    ∷ var (119 ∷ 105 ∷ 114 ∷ 101 ∷ []) (56 ∷ []) (76 ∷ []) (73 ∷ 73 ∷ 95 ∷ 83 ∷ 84 ∷ 83 ∷ []) []
    ∷ var (119 ∷ 105 ∷ 114 ∷ 101 ∷ []) (56 ∷ []) (77 ∷ []) (73 ∷ 73 ∷ 95 ∷ 68 ∷ 65 ∷ 84 ∷ []) []
    ∷ var (119 ∷ 105 ∷ 114 ∷ 101 ∷ []) (49 ∷ 50 ∷ []) (78 ∷ []) (72 ∷ 67 ∷ 78 ∷ 84 ∷ []) []
    ∷ var (119 ∷ 105 ∷ 114 ∷ 101 ∷ []) (49 ∷ 50 ∷ []) (79 ∷ []) (86 ∷ 67 ∷ 78 ∷ 84 ∷ []) []
    ∷ var (119 ∷ 105 ∷ 114 ∷ 101 ∷ []) (51 ∷ []) (80 ∷ []) (80 ∷ 72 ∷ 65 ∷ 83 ∷ 69 ∷ []) []
    ∷ upscope
    ∷ []

-- a to d are pins 24 to 27, A to P are passed over
unfoldable pub variables : List Variable
variables =
    record { code = 97 ∷ []; pin = 24 }
    ∷ record { code = 98 ∷ []; pin = 25 }
    ∷ record { code = 99 ∷ []; pin = 26 }
    ∷ record { code = 100 ∷ []; pin = 27 }
    ∷ record { code = 65 ∷ []; pin = 0 }
    ∷ record { code = 66 ∷ []; pin = 0 }
    ∷ record { code = 67 ∷ []; pin = 0 }
    ∷ record { code = 68 ∷ []; pin = 0 }
    ∷ record { code = 69 ∷ []; pin = 0 }
    ∷ record { code = 70 ∷ []; pin = 0 }
    ∷ record { code = 71 ∷ []; pin = 0 }
    ∷ record { code = 72 ∷ []; pin = 0 }
    ∷ record { code = 73 ∷ []; pin = 0 }
    ∷ record { code = 74 ∷ []; pin = 0 }
    ∷ record { code = 75 ∷ []; pin = 0 }
    ∷ record { code = 76 ∷ []; pin = 0 }
    ∷ record { code = 77 ∷ []; pin = 0 }
    ∷ record { code = 78 ∷ []; pin = 0 }
    ∷ record { code = 79 ∷ []; pin = 0 }
    ∷ record { code = 80 ∷ []; pin = 0 }
    ∷ []

header_words : bytes_of (tokens false 0 header_text) ≡ dump_words header []
unfolding white word_length tokens bytes_of header_text header dump_words section_words
header_words = refl

sections_append : (ws : List (List ℕ)) → dump_words header [] ++ ws ≡ dump_words header ws
unfolding header dump_words section_words
sections_append ws = refl

pub dump_spells : (ls : List Line) → Spells (header_text ++ (10 ∷ text ls)) (dump_words header (body_words (items_of ls)))
dump_spells ls = rw (header_words, sections_append) at (spells_append (text ls) (body_words (items_of ls)) (spells_all header_text 0) (lines_spell ls))

other : (n : ℕ) → 1 < n → n ≡ 1 → ⊥
other n h e = omega arith

pub header_declares : Declares 0 [] header 1000 variables
unfolding header variables same_bytes graphic all_graphic number_of grown_by longer_by digits_from decimal_of is_scope is_net is_discrete sort_of pin_of is_name taken
header_declares =
    d_unit c_one l_ns (d_scope refl refl
    (d_var {vs = take 0 variables} (k_scalar refl refl) refl refl x_none (omega arith)
    (d_var {vs = take 1 variables} (k_scalar refl refl) refl refl x_none (omega arith)
    (d_var {vs = take 2 variables} (k_scalar refl refl) refl refl x_none (omega arith)
    (d_var {vs = take 3 variables} (k_scalar refl refl) refl refl x_none (omega arith)
    (d_var {vs = take 4 variables} (k_scalar refl refl) refl refl x_none (omega arith)
    (d_var {vs = take 5 variables} (k_scalar refl refl) refl refl x_none (omega arith)
    (d_var {vs = take 6 variables} (k_scalar refl refl) refl refl x_none (omega arith)
    (d_var {vs = take 7 variables} (k_scalar refl refl) refl refl x_none (omega arith)
    (d_var {vs = take 8 variables} (k_scalar refl refl) refl refl x_none (omega arith)
    (d_var {vs = take 9 variables} (k_scalar refl refl) refl refl x_none (omega arith)
    (d_var {vs = take 10 variables} (k_scalar refl refl) refl refl x_none (omega arith)
    (d_var {vs = take 11 variables} (k_scalar refl refl) refl refl x_none (omega arith)
    (d_var {vs = take 12 variables} (k_scalar refl refl) refl refl x_none (omega arith)
    (d_var {vs = take 13 variables} (k_scalar refl refl) refl refl x_none (omega arith)
    (d_var {vs = take 14 variables} (k_vector {n = 8} refl refl (other 8 (omega arith))) refl refl x_none (omega arith)
    (d_var {vs = take 15 variables} (k_vector {n = 8} refl refl (other 8 (omega arith))) refl refl x_none (omega arith)
    (d_var {vs = take 16 variables} (k_vector {n = 8} refl refl (other 8 (omega arith))) refl refl x_none (omega arith)
    (d_var {vs = take 17 variables} (k_vector {n = 12} refl refl (other 12 (omega arith))) refl refl x_none (omega arith)
    (d_var {vs = take 18 variables} (k_vector {n = 12} refl refl (other 12 (omega arith))) refl refl x_none (omega arith)
    (d_var {vs = take 19 variables} (k_vector {n = 3} refl refl (other 3 (omega arith))) refl refl x_none (omega arith)
    (d_upscope d_none))))))))))))))))))))))

pins_by : (d p : ℕ) → p ≡ 24 + d → d < 4 → find variables ((73 + p) ∷ []) ≡ declared (p ∷ [])
unfolding find joins same_bytes variables
pins_by zero p e h = rw e refl
pins_by (suc zero) p e h = rw e refl
pins_by (suc (suc zero)) p e h = rw e refl
pins_by (suc (suc (suc zero))) p e h = rw e refl
pins_by (suc (suc (suc (suc d)))) p e h = absurd (omega arith)

pub pins_known : (p : ℕ) → 24 ≤ p → p < 28 → find variables ((73 + p) ∷ []) ≡ declared (p ∷ [])
pins_known p h l = pins_by (p - 24) p (omega arith) (omega arith)

pub levels_known : (k : ℕ) → k < 10 → find variables ((65 + k) ∷ []) ≡ declared []
unfolding find joins same_bytes variables
levels_known zero h = refl
levels_known (suc zero) h = refl
levels_known (suc (suc zero)) h = refl
levels_known (suc (suc (suc zero))) h = refl
levels_known (suc (suc (suc (suc zero)))) h = refl
levels_known (suc (suc (suc (suc (suc zero))))) h = refl
levels_known (suc (suc (suc (suc (suc (suc zero)))))) h = refl
levels_known (suc (suc (suc (suc (suc (suc (suc zero))))))) h = refl
levels_known (suc (suc (suc (suc (suc (suc (suc (suc zero)))))))) h = refl
levels_known (suc (suc (suc (suc (suc (suc (suc (suc (suc zero))))))))) h = refl
levels_known (suc (suc (suc (suc (suc (suc (suc (suc (suc (suc k)))))))))) h = absurd (omega arith)

pub vectors_known : (k : ℕ) → k < 6 → find variables ((75 + k) ∷ []) ≡ declared []
unfolding find joins same_bytes variables
vectors_known zero h = refl
vectors_known (suc zero) h = refl
vectors_known (suc (suc zero)) h = refl
vectors_known (suc (suc (suc zero))) h = refl
vectors_known (suc (suc (suc (suc zero)))) h = refl
vectors_known (suc (suc (suc (suc (suc zero))))) h = refl
vectors_known (suc (suc (suc (suc (suc (suc k)))))) h = absurd (omega arith)
