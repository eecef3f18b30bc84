-- The reader's trace of a text that spells a body is what the body means: `body-read`.
-- Assumes nothing.
use Rattle.std.specs.Prelude.{Ok}
use mathlib.Core.Bool.{Bool, true, false}
use mathlib.Core.Path.{◌≡◌, refl, sym, ap, ◌∙◌}
use mathlib.Core.List.{List, [], ◌∷◌, ◌++◌}
use Prim.Native.Nat.{ℕ, zero, suc, ◌+◌, ◌-◌, ◌*◌, ◌<◌, ◌≤◌}
use native.Mathlib.Omega.{arith}
use lib.ListN.{length, drop, get_or, replicate}
use lib.Dec.{ltb, eqb}
use borrow.Author.Tests.{lt-ltb, le-ltb, ne_eqb}
use Rattle.bits.specs.Byte.{pick}
use Rattle.vcd_text.specs.Token.{Token, tokens, same_bytes, end_word, decimal_of}
use Rattle.vcd_output.specs.Room.{clock_word, pin_word}
use Rattle.vcd_codes.specs.Codes.{Found, declared}
use Rattle.vcd_items.specs.declared.Item.TheVariants as item
use Rattle.vcd_items.specs.Items.{is_vector, is_real, is_dump, comment_word, kind_of, keyword_of, item_as, item_of}
use Rattle.vcd_steps.specs.declared.Mode.TheVariants as mode
use Rattle.vcd_steps.specs.declared.State.{State as Reader}
use Rattle.vcd_steps.specs.Events.{Event, clocks_by, clock_events, pin_events, words}
use Rattle.vcd_steps.specs.Steps.{Effect, refuse, proceed, at_mode, in_dump, at_time, advanced, time_as, time_of, change_of, code_of, dump_of, end_of, comment_of, commented, item_step, ends_as}
use Rattle.vcd_body.specs.Trace.{Trace, stopped, prepended, carried, token_as, body}
use Rattle.vcd_grammar_laws.specs.Words.{Spells, bytes_of}
use Rattle.vcd_grammar_laws.specs.Body.{Item, time, change, vector, real, dump, end, comment, item_words, body_words, State, s_zero, s_one, s_x, s_X, s_z, s_Z, level_words, NoEndWord, no_word, one_word, VectorLetter, l_b, l_B, RealLetter, l_r, l_R, DumpWord, d_vars, d_all, d_on, d_off, Means, m_none, m_time, m_change, m_vector, m_real, m_end, m_comment, m_dump, Accepted}
use Rattle.vcd_grammar_laws.proofs.Words.{spelled}

-- ---- events and their words

words_append : (xs ys : List Event) → words (xs ++ ys) ≡ words xs ++ words ys
unfolding words
words_append [] ys = refl
words_append (x ∷ xs) ys = ap (λ (l : List ℕ). x.word ∷ l) (words_append xs ys)

words_clocks : (p k n : ℕ) → words (clock_events p k n) ≡ replicate n clock_word
unfolding words clock_events
words_clocks p k zero = refl
words_clocks p k (suc n) = ap (λ (l : List ℕ). clock_word ∷ l) (words_clocks p (k + 1) n)

words_pins : (p t : ℕ) (high : Bool) (pins : List ℕ) → words (pin_events p t high pins) ≡ level_words high pins
unfolding words pin_events level_words
words_pins p t high [] = refl
words_pins p t high (q ∷ qs) = ap (λ (l : List ℕ). pin_word high q ∷ l) (words_pins p t high qs)

gives_more : (t : Trace) (es : List Event) (us ws : List ℕ) → words es ≡ us → Accepted t ws → Accepted (prepended es t) (us ++ ws)
gives_more t es us ws e g = record {
  same = words_append es t.events ∙ rw (e, g.same) refl;
  number = g.number;
  place = g.place;
}

-- ---- tokens by their bytes

some_byte : (b : ℕ) (bs : List ℕ) → eqb (length (b ∷ bs)) 0 ≡ false
some_byte b bs = ne_eqb (suc (length bs)) 0 (λ e. omega arith)

item_time : (ds : List ℕ) → item_of (35 ∷ ds) ≡ item.Time (decimal_of ds)
unfolding item_of kind_of item_as
item_time ds = simp (some_byte 35 ds)

item_scalar : (s : ℕ) (high : Bool) (code : List ℕ) → State s high → item_of (s ∷ code) ≡ item.Scalar high
unfolding item_of kind_of item_as
item_scalar s high code s_zero = simp (some_byte 48 code)
item_scalar s high code s_one = simp (some_byte 49 code)
item_scalar s high code s_x = simp (some_byte 120 code)
item_scalar s high code s_X = simp (some_byte 88 code)
item_scalar s high code s_z = simp (some_byte 122 code)
item_scalar s high code s_Z = simp (some_byte 90 code)

item_vector : (b : ℕ) (v : List ℕ) → VectorLetter b → is_vector v ≡ true → item_of (b ∷ v) ≡ item.Value
unfolding item_of kind_of item_as
item_vector b v l_b e = simp (some_byte 98 v, e)
item_vector b v l_B e = simp (some_byte 66 v, e)

item_real : (r : ℕ) (v : List ℕ) → RealLetter r → is_real v ≡ true → item_of (r ∷ v) ≡ item.Value
unfolding item_of kind_of item_as
item_real r v l_r e = simp (some_byte 114 v, e)
item_real r v l_R e = simp (some_byte 82 v, e)

item_dump : (kw : List ℕ) → DumpWord kw → item_of kw ≡ item.Dump
unfolding item_of kind_of item_as keyword_of is_dump same_bytes
item_dump kw d_vars = refl
item_dump kw d_all = refl
item_dump kw d_on = refl
item_dump kw d_off = refl

item_end : item_of end_word ≡ item.End
unfolding item_of kind_of item_as keyword_of same_bytes
item_end = refl

item_comment : item_of comment_word ≡ item.Comment
unfolding item_of kind_of item_as keyword_of same_bytes
item_comment = refl

-- ---- steps of the body

-- between two items
abbrev pub between : ℕ → ℕ → ℕ → Bool → Reader
between opened t c inside = record { mark = 0; opened = opened; time = t; clocks = c; mode = mode.Plain; inside = inside }

abbrev pub waiting : ℕ → ℕ → ℕ → ℕ → Bool → Reader
waiting mark opened t c inside = record { mark = mark; opened = opened; time = t; clocks = c; mode = mode.Code; inside = inside }

abbrev pub passing : ℕ → ℕ → ℕ → ℕ → Reader
passing mark opened t c = record { mark = mark; opened = opened; time = t; clocks = c; mode = mode.Comment; inside = false }

abbrev pub token_at : ℕ → List ℕ → Token
token_at p b = record { place = p; bytes = b }

module _ (look : List ℕ → Found) (scale : ℕ) (some-unit : 0 < scale) (ts : List Token) (p o t c : ℕ) where
  body_time : (n : ℕ) (ds : List ℕ) → decimal_of ds ≡ Ok n → t ≤ n → n * scale < 18446744073709551616
      → body look scale (between o t c false) (token_at p (35 ∷ ds) ∷ ts) ≡ prepended (clock_events p c (clocks_by n scale - c)) (body look scale (between o n (clocks_by n scale) false) ts)
  unfolding body carried token_as item_step time_of time_as advanced
  body_time n ds e h l =
      rw (item_time ds, e) (simp (ne_eqb scale 0 (λ z. omega arith), le-ltb n t h, lt-ltb (n * scale) 18446744073709551616 l))

  body_change : (inside high : Bool) (s : ℕ) (code pins : List ℕ) → State s high → look code ≡ declared pins
      → body look scale (between o t c inside) (token_at p (s ∷ code) ∷ ts) ≡ prepended (pin_events p (t * scale) high pins) (body look scale (between o t c inside) ts)
  unfolding body carried token_as item_step change_of
  body_change inside high s code pins q k = rw (item_scalar s high code q, k) refl

  body_value : (inside : Bool) (v : List ℕ) → item_of v ≡ item.Value → body look scale (between o t c inside) (token_at p v ∷ ts) ≡ body look scale (waiting p o t c inside) ts
  unfolding body carried token_as item_step
  body_value inside v e = rw e refl

  body_code : (inside : Bool) (m : ℕ) (code pins : List ℕ) → look code ≡ declared pins → body look scale (waiting m o t c inside) (token_at p code ∷ ts) ≡ body look scale (between o t c inside) ts
  unfolding body carried token_as code_of
  body_code inside m code pins k = rw k refl

  body_dump : (kw : List ℕ) → DumpWord kw → body look scale (between o t c false) (token_at p kw ∷ ts) ≡ body look scale (between p t c true) ts
  unfolding body carried token_as item_step dump_of
  body_dump kw d = rw (item_dump kw d) refl

  body_end : body look scale (between o t c true) (token_at p end_word ∷ ts) ≡ body look scale (between 0 t c false) ts
  unfolding body carried token_as item_step end_of
  body_end = rw item_end refl

  body_comment : body look scale (between o t c false) (token_at p comment_word ∷ ts) ≡ body look scale (passing p o t c) ts
  unfolding body carried token_as item_step comment_of
  body_comment = rw item_comment refl

  body_passed : (m : ℕ) (w : List ℕ) → same_bytes w end_word ≡ false → body look scale (passing m o t c) (token_at p w ∷ ts) ≡ body look scale (passing m o t c) ts
  unfolding body carried token_as commented
  body_passed m w e = rw e refl

  body_over : (m : ℕ) → body look scale (passing m o t c) (token_at p end_word ∷ ts) ≡ body look scale (between o t c false) ts
  unfolding body carried token_as commented same_bytes
  body_over m = refl

-- ---- a list of items

-- a token list with these bytes: its first token, and the others
record First (ts : List Token) (w : List ℕ) (ws : List (List ℕ)) : Type 0 where
  place : ℕ
  rest : List Token
  whole : ts ≡ token_at place w ∷ rest
  others : bytes_of rest ≡ ws

first_token : (ts : List Token) (w : List ℕ) (ws : List (List ℕ)) → bytes_of ts ≡ w ∷ ws → First ts w ws
unfolding bytes_of
first_token [] w ws e = absurd (let z : ◌≡◌ {A = ℕ} 0 1 = cc in omega arith)
first_token (t ∷ ts) w ws e = record {
  place = t.place;
  rest = ts;
  whole = let z : t.bytes ≡ w = cc in rw (← z) refl;
  others = cc;
}

no_token_lem : (ts : List Token) → bytes_of ts ≡ [] → ts ≡ []
unfolding bytes_of
no_token_lem [] e = refl
no_token_lem (t ∷ ts) e = absurd (let z : ◌≡◌ {A = ℕ} 0 1 = cc in omega arith)

module _ (look : List ℕ → Found) (scale : ℕ) (some-unit : 0 < scale) where
  -- a comment up to its end
  comment_read : (cs : List (List ℕ)) (ts : List Token) (rest : List (List ℕ)) (m o t c : ℕ) (ws : List ℕ) → NoEndWord cs → bytes_of ts ≡ cs ++ (end_word ∷ rest)
      → ((us : List Token) → bytes_of us ≡ rest → Accepted (body look scale (between o t c false) us) ws) → Accepted (body look scale (passing m o t c) ts) ws
  comment_read [] ts rest m o t c ws no_word e k =
      let f = first_token ts end_word rest e in
      rw (f.whole, body_over look scale some-unit f.rest f.place o t c m) (k f.rest f.others)
  comment_read (w ∷ cs) ts rest m o t c ws (one_word n ps) e k =
      let f = first_token ts w (cs ++ (end_word ∷ rest)) e in
      rw (f.whole, body_passed look scale some-unit f.rest f.place o t c m w n) (comment_read cs f.rest rest m o t c ws ps f.others k)

  pub items_read : (is : List Item) (ts : List Token) (o t c : ℕ) (inside : Bool) (ws : List ℕ) → bytes_of ts ≡ body_words is → Means look scale t c inside is ws
      → Accepted (body look scale (between o t c inside) ts) ws
  unfolding body_words item_words
  items_read [] ts o t c inside ws e m_none = rw (no_token_lem ts e) (unfold body ends_as words in record { same = refl; number = refl; place = refl })
  items_read (time n ds ∷ is) ts o t c inside ws e (m_time {ws = us} d h l m) =
      let f = first_token ts (35 ∷ ds) (body_words is) e in
      rw (f.whole, body_time look scale some-unit f.rest f.place o t c n ds d h l)
      (gives_more _ (clock_events f.place c (clocks_by n scale - c)) _ us (words_clocks f.place c (clocks_by n scale - c)) (items_read is f.rest o n (clocks_by n scale) false us f.others m))
  items_read (change s code ∷ is) ts o t c inside ws e (m_change {high = high} {pins = pins} {ws = us} q k m) =
      let f = first_token ts (s ∷ code) (body_words is) e in
      rw (f.whole, body_change look scale some-unit f.rest f.place o t c inside high s code pins q k)
      (gives_more _ (pin_events f.place (t * scale) high pins) _ us (words_pins f.place (t * scale) high pins) (items_read is f.rest o t c inside us f.others m))
  items_read (vector b v code ∷ is) ts o t c inside ws e (m_vector {pins = pins} q i k m) =
      let f = first_token ts (b ∷ v) (code ∷ body_words is) e in
      let g = first_token f.rest code (body_words is) f.others in
      rw (f.whole, body_value look scale some-unit f.rest f.place o t c inside (b ∷ v) (item_vector b v q i), g.whole, body_code look scale some-unit g.rest g.place o t c inside f.place code pins k)
      (items_read is g.rest o t c inside ws g.others m)
  items_read (real r v code ∷ is) ts o t c inside ws e (m_real {pins = pins} q i k m) =
      let f = first_token ts (r ∷ v) (code ∷ body_words is) e in
      let g = first_token f.rest code (body_words is) f.others in
      rw (f.whole, body_value look scale some-unit f.rest f.place o t c inside (r ∷ v) (item_real r v q i), g.whole, body_code look scale some-unit g.rest g.place o t c inside f.place code pins k)
      (items_read is g.rest o t c inside ws g.others m)
  items_read (dump kw ∷ is) ts o t c inside ws e (m_dump d m) =
      let f = first_token ts kw (body_words is) e in
      rw (f.whole, body_dump look scale some-unit f.rest f.place o t c kw d) (items_read is f.rest f.place t c true ws f.others m)
  items_read (end ∷ is) ts o t c inside ws e (m_end m) =
      let f = first_token ts end_word (body_words is) e in
      rw (f.whole, body_end look scale some-unit f.rest f.place o t c) (items_read is f.rest 0 t c false ws f.others m)
  items_read (comment cs ∷ is) ts o t c inside ws e (m_comment ps m) =
      let f = first_token ts comment_word (cs ++ (end_word ∷ body_words is)) e in
      rw (f.whole, body_comment look scale some-unit f.rest f.place o t c)
      (comment_read cs f.rest (body_words is) f.place o t c ws ps f.others (λ us x. items_read is us o t c false ws x m))

  -- a text that spells a body, wherever it stands in the file
  pub body_read : (is : List Item) (text : List ℕ) (p : ℕ) (ws : List ℕ) → Spells text (body_words is) → Means look scale 0 0 false is ws
      → Accepted (body look scale (between 0 0 0 false) (tokens false p text)) ws
  body_read is text p ws s m = items_read is (tokens false p text) 0 0 0 false ws (spelled s p) m
