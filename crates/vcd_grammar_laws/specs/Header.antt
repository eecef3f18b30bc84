-- The header of a dump as a list of sections, the words that spell it, and the unit and variables that it declares (IEEE 1364, 18.2.3; Wish 10).
use Rattle.vcd_text.specs.declared.NumberError.TheVariants.{Big}
use Rattle.std.specs.Prelude.{Ok, Err}
use Rattle.std.specs.Prelude.{ℕ, ◌*◌, ◌<◌, Bool, true, false, ◌≡◌, List, [], ◌∷◌, ◌++◌, length}
use Rattle.bits.specs.Byte.{pick}
use Rattle.vcd_text.specs.Token.{end_word, decimal_of}
use Rattle.vcd_codes.specs.Codes.{Variable}
use Rattle.vcd_keywords.specs.declared.Sort.TheVariants.{Digital, Real}
use Rattle.vcd_keywords.specs.Words.{is_scope, sort_of, pin_of, index_state}
use Rattle.vcd_header.specs.Header.{is_name}
use Rattle.vcd.specs.Header.{taken}
use Rattle.vcd_grammar_laws.specs.Body.{NoEndWord}

-- a comment, date or version, its keyword and its words; a unit in two words or in one; a scope, its type and its name, and its end; a variable:
-- type, size, code, name and the words of an index
pub data Section : Type 0 where
  free_text : List ℕ → List (List ℕ) → Section
  unit : List ℕ → List ℕ → Section
  joined_unit : List ℕ → Section
  scope : List ℕ → List ℕ → Section
  upscope : Section
  var : List ℕ → List ℕ → List ℕ → List ℕ → List (List ℕ) → Section

abbrev pub timescale_word : List ℕ
timescale_word = 36 ∷ 116 ∷ 105 ∷ 109 ∷ 101 ∷ 115 ∷ 99 ∷ 97 ∷ 108 ∷ 101 ∷ []

abbrev pub scope_word : List ℕ
scope_word = 36 ∷ 115 ∷ 99 ∷ 111 ∷ 112 ∷ 101 ∷ []

abbrev pub upscope_word : List ℕ
upscope_word = 36 ∷ 117 ∷ 112 ∷ 115 ∷ 99 ∷ 111 ∷ 112 ∷ 101 ∷ []

abbrev pub var_word : List ℕ
var_word = 36 ∷ 118 ∷ 97 ∷ 114 ∷ []

abbrev pub enddefinitions_word : List ℕ
enddefinitions_word = 36 ∷ 101 ∷ 110 ∷ 100 ∷ 100 ∷ 101 ∷ 102 ∷ 105 ∷ 110 ∷ 105 ∷ 116 ∷ 105 ∷ 111 ∷ 110 ∷ 115 ∷ []

-- a section's words, before others
unfoldable pub section_words : Section → List (List ℕ) → List (List ℕ)
section_words (free_text kw cs) ws = kw ∷ (cs ++ (end_word ∷ ws))
section_words (unit n u) ws = timescale_word ∷ n ∷ u ∷ end_word ∷ ws
section_words (joined_unit w) ws = timescale_word ∷ w ∷ end_word ∷ ws
section_words (scope ty name) ws = scope_word ∷ ty ∷ name ∷ end_word ∷ ws
section_words upscope ws = upscope_word ∷ end_word ∷ ws
section_words (var ty size code name ix) ws = var_word ∷ ty ∷ size ∷ code ∷ name ∷ (ix ++ (end_word ∷ ws))

-- the sections, the end of the definitions, and the body
unfoldable pub dump_words : List Section → List (List ℕ) → List (List ℕ)
dump_words [] ws = enddefinitions_word ∷ end_word ∷ ws
dump_words (s ∷ ss) ws = section_words s (dump_words ss ws)

-- $comment, $date, $version
pub data TextKeyword : List ℕ → Type 0 where
  t_comment : TextKeyword (36 ∷ 99 ∷ 111 ∷ 109 ∷ 109 ∷ 101 ∷ 110 ∷ 116 ∷ [])
  t_date : TextKeyword (36 ∷ 100 ∷ 97 ∷ 116 ∷ 101 ∷ [])
  t_version : TextKeyword (36 ∷ 118 ∷ 101 ∷ 114 ∷ 115 ∷ 105 ∷ 111 ∷ 110 ∷ [])

-- 1, 10, 100
pub data UnitCount : ℕ → List ℕ → Type 0 where
  c_one : UnitCount 1 (49 ∷ [])
  c_ten : UnitCount 10 (49 ∷ 48 ∷ [])
  c_hundred : UnitCount 100 (49 ∷ 48 ∷ 48 ∷ [])

-- ps, ns, us
pub data UnitLetters : ℕ → List ℕ → Type 0 where
  l_ps : UnitLetters 1 (112 ∷ 115 ∷ [])
  l_ns : UnitLetters 1000 (110 ∷ 115 ∷ [])
  l_us : UnitLetters 1000000 (117 ∷ 115 ∷ [])

-- a type and a size: of a scalar or not
pub data VariableKind : List ℕ → List ℕ → Bool → Type 0 where
  k_scalar : {ty size : List ℕ} → sort_of ty ≡ Digital → decimal_of size ≡ Ok 1 → VariableKind ty size true
  k_vector : {ty size : List ℕ} {n : ℕ} → sort_of ty ≡ Digital → decimal_of size ≡ Ok n → (n ≡ 1 → ⊥) → VariableKind ty size false
  k_large : {ty size : List ℕ} → sort_of ty ≡ Digital → decimal_of size ≡ (Err Big) → VariableKind ty size false
  k_real : {ty size : List ℕ} {n : ℕ} → sort_of ty ≡ Real → decimal_of size ≡ Ok n → VariableKind ty size false

-- the words of an index one after the other
unfoldable pub index_states : ℕ → List (List ℕ) → ℕ
index_states q [] = q
index_states q (w ∷ ws) = index_states (index_state q w) ws

-- no index, or a whole one
pub data IndexWords : List (List ℕ) → Bool → Type 0 where
  x_none : IndexWords [] false
  x_some : {w : List ℕ} {ws : List (List ℕ)} → NoEndWord (w ∷ ws) → index_states 0 (w ∷ ws) ≡ 7 → IndexWords (w ∷ ws) true

-- the pin that a variable drives: that of its name if it is a scalar without an index, and the first of that name
abbrev pub pin_driven : List Variable → Bool → Bool → List ℕ → ℕ
pin_driven vs scalar indexed name = pick (taken vs (pick indexed 0 (pick scalar (pin_of name) 0))) 0 (pick indexed 0 (pick scalar (pin_of name) 0))

-- from a unit and variables to those after the sections
pub data Declares : ℕ → List Variable → List Section → ℕ → List Variable → Type 0 where
  d_none : {u : ℕ} {vs : List Variable} → Declares u vs [] u vs
  d_text : {u v : ℕ} {vs us : List Variable} {ss : List Section} {kw : List ℕ} {cs : List (List ℕ)} → TextKeyword kw → NoEndWord cs → Declares u vs ss v us → Declares u vs (free_text kw cs ∷ ss) v us
  d_unit : {u v n m : ℕ} {vs us : List Variable} {ss : List Section} {cw lw : List ℕ} → UnitCount n cw → UnitLetters m lw → Declares (n * m) vs ss v us → Declares u vs (unit cw lw ∷ ss) v us
  d_joined : {u v n m : ℕ} {vs us : List Variable} {ss : List Section} {w cw lw : List ℕ} → w ≡ cw ++ lw → UnitCount n cw → UnitLetters m lw → Declares (n * m) vs ss v us → Declares u vs (joined_unit w ∷ ss) v us
  d_scope : {u v : ℕ} {vs us : List Variable} {ss : List Section} {ty name : List ℕ} → is_scope ty ≡ true → is_name name ≡ true → Declares u vs ss v us → Declares u vs (scope ty name ∷ ss) v us
  d_upscope : {u v : ℕ} {vs us : List Variable} {ss : List Section} → Declares u vs ss v us → Declares u vs (upscope ∷ ss) v us
  d_var : {u v : ℕ} {vs us : List Variable} {ss : List Section} {ty size code name : List ℕ} {ix : List (List ℕ)} {scalar indexed : Bool} → VariableKind ty size scalar → is_name code ≡ true → is_name name ≡ true → IndexWords ix indexed → length vs < 32
      → Declares u (vs ++ (record { code = code; pin = pin_driven vs scalar indexed name } ∷ [])) ss v us → Declares u vs (var ty size code name ix ∷ ss) v us
