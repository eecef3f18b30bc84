-- The reader's trace of a text that spells a dump is what the dump means: `dump-read`.
-- Assumes nothing.
use Rattle.vcd_text.specs.declared.NumberError.TheVariants.{Big}
use Rattle.std.specs.Prelude.{Ok, Err}
use mathlib.Core.Bool.{Bool, true, false}
use mathlib.Core.Path.{◌≡◌, refl, sym, ap, ◌∙◌}
use mathlib.Core.List.{List, [], ◌∷◌, ◌++◌}
use Prim.Native.Nat.{ℕ, zero, suc, ◌+◌, ◌-◌, ◌*◌, ◌<◌, ◌≤◌}
use native.Mathlib.Omega.{arith}
use lib.ListN.{length, take, drop, length-append}
use lib.Seq.{take-append_seam, drop-append_seam, drop-drop}
use lib.Dec.{ltb, eqb}
use borrow.Author.Tests.{lt-ltb, ne_eqb}
use Rattle.bits.specs.Byte.{pick}
use Rattle.vcd_text.specs.Token.{white, word_length, Token, tokens, same_bytes, end_word, decimal_of}
use Rattle.vcd_codes.specs.Codes.{Variable, find}
use Rattle.vcd_keywords.specs.declared.Keyword.TheVariants as keyword
use Rattle.vcd_keywords.specs.declared.Sort.TheVariants.{Digital, Real}
use Rattle.vcd_keywords.specs.Words.{keyword_of, count_of, letters_of, times_unit, joined_of, is_scope, sort_of, pin_of, index_by, index_state}
use Rattle.vcd_header.specs.declared.Section.{Section as Place}
use Rattle.vcd_header.specs.declared.Section.TheVariants as in-section
use Rattle.vcd_header.specs.declared.Pending.{Pending}
use Rattle.vcd_header.specs.declared.Unit.{Unit as Units}
use Rattle.vcd_header.specs.declared.Head.{Head}
use Rattle.vcd_header.specs.Header.{fresh_head, pending, closed_by, keyword_step, text_step, count_step, letters_step, unit_step, scope_step, is_name, scope_name_step, type_as, size_as, code_step, name_step, whole_step, index_step, ending_step, step_as}
use Rattle.vcd_body.specs.Trace.{Trace, stopped, body}
use Rattle.vcd_body.specs.Pieces.{fresh_state}
use Rattle.vcd.specs.Header.{Heading, heading, taken, one_more, declares, settled, head_token, header, header_of}
use Rattle.vcd.specs.Call.{body_tokens, trace_by, trace_of}
use Rattle.vcd_grammar_laws.specs.Words.{NonWhite, more, WordEnds, Spells, no_text, white_byte, word}
use Rattle.vcd_grammar_laws.specs.Body.{Item, body_words, NoEndWord, no_word, one_word, Means, Accepted}
use Rattle.vcd_grammar_laws.specs.Header.{Section, free_text, unit, joined_unit, scope, upscope, var, timescale_word, scope_word, upscope_word, var_word, enddefinitions_word, section_words, dump_words, TextKeyword, t_comment, t_date, t_version, UnitCount, c_one, c_ten, c_hundred, UnitLetters, l_ps, l_ns, l_us, VariableKind, k_scalar, k_vector, k_large, k_real, index_states, IndexWords, x_none, x_some, pin_driven, Declares, d_none, d_text, d_unit, d_joined, d_scope, d_upscope, d_var}
use Rattle.vcd_grammar_laws.proofs.Words.{token_first, skip}
use Rattle.vcd_grammar_laws.proofs.Body.{body_read}

abbrev token_at : ℕ → List ℕ → Token
token_at p b = record { place = p; bytes = b }

-- ---- the next word of a text, and where it stands in the file

record Next (file : List ℕ) (p : ℕ) (text w : List ℕ) (ws : List (List ℕ)) : Type 0 where
  place : ℕ
  rest : List ℕ
  split : tokens false p text ≡ token_at place w ∷ tokens false (place + length w) rest
  here : take (length w) (drop place file) ≡ w
  stands : drop (place + length w) file ≡ rest
  spells : Spells rest ws

drop_next : (file : List ℕ) (p b : ℕ) (text : List ℕ) → drop p file ≡ b ∷ text → drop (suc p) file ≡ text
drop_next file zero b text e = rw e refl
drop_next [] (suc p) b text e = absurd (let z : ◌≡◌ {A = ℕ} 0 1 = cc in omega arith)
drop_next (x ∷ file) (suc p) b text e = drop_next file p b text e

after_gap : (file : List ℕ) (p b : ℕ) (text w : List ℕ) (ws : List (List ℕ)) → white b ≡ true → Next file (suc p) text w ws → Next file p (b ∷ text) w ws
after_gap file p b text w ws v n = record {
  place = n.place;
  rest = n.rest;
  split = skip b text p v ∙ n.split;
  here = n.here;
  stands = n.stands;
  spells = n.spells;
}

next_word : (file : List ℕ) (p : ℕ) {text w : List ℕ} {ws : List (List ℕ)} → Spells text (w ∷ ws) → drop p file ≡ text → Next file p text w ws
next_word file p (white_byte {b} {text} v s) e = after_gap file p b text _ _ v (next_word file (suc p) s (drop_next file p b text e))
next_word file p (word {b} {bs} {rest} s a t r) e = record {
  place = p;
  rest = rest;
  split = let z : p + suc (length bs) ≡ suc p + length bs = omega arith in rw (t, z) (token_first b bs rest p s a);
  here = rw (e, t) (take-append_seam (b ∷ bs) rest);
  stands = sym (drop-drop (length (b ∷ bs)) p file) ∙ rw (e, t) (drop-append_seam (b ∷ bs) rest);
  spells = r;
}

-- ---- a token of the header

by_next : (file : List ℕ) (x g : Heading) (ts : List Token) → x ≡ g → g.head.close.stop ≡ false → pick x.head.close.stop x (header file x ts) ≡ header file g ts
by_next file x g ts e s = rw (e, s) refl

-- the section that the reader is in, and what it has of a variable or a unit
abbrev at : ℕ → ℕ → List Variable → Place → Pending → Units → Heading
at mark n vs place variable units = heading (record {
  mark = mark;
  entries = n;
  unit = units;
  variable = variable;
  close = record { place = 0; number = 0; stop = false };
  section = place;
}) vs

abbrev blank : Pending
blank = pending 0 0 0 0 false false

abbrev units : ℕ → Units
units u = record { first = 0; scale = 0; unit = u }

abbrev between : ℕ → ℕ → ℕ → List Variable → Heading
between mark u n vs = at mark n vs in-section.Outside blank (units u)

step_header : (file : List ℕ) (g h : Heading) (t : Token) (ts : List Token) → head_token file g t ≡ h → h.head.close.stop ≡ false → header file g (t ∷ ts) ≡ header file h ts
unfolding header
step_header file g h t ts e s = by_next file (head_token file g t) h ts e s

next_token : (file : List ℕ) (p : ℕ) {text w : List ℕ} {ws : List (List ℕ)} (x : Next file p text w ws) (g h : Heading) → head_token file g (token_at x.place w) ≡ h → h.head.close.stop ≡ false
    → header file g (tokens false p text) ≡ header file h (tokens false (x.place + length w) x.rest)
next_token file p {text} {w} {ws} x g h e s = rw x.split (step_header file g h (token_at x.place w) (tokens false (x.place + length w) x.rest) e s)

-- ---- what each word of a section does

key_text : (kw : List ℕ) → TextKeyword kw → keyword_of kw ≡ keyword.Text
unfolding keyword_of same_bytes
key_text kw t_comment = refl
key_text kw t_date = refl
key_text kw t_version = refl

key_unit : keyword_of timescale_word ≡ keyword.Timescale
unfolding keyword_of same_bytes
key_unit = refl

key_scope : keyword_of scope_word ≡ keyword.Scope
unfolding keyword_of same_bytes
key_scope = refl

key_upscope : keyword_of upscope_word ≡ keyword.Upscope
unfolding keyword_of same_bytes
key_upscope = refl

key_var : keyword_of var_word ≡ keyword.Var
unfolding keyword_of same_bytes
key_var = refl

key_last : keyword_of enddefinitions_word ≡ keyword.Enddefinitions
unfolding keyword_of same_bytes
key_last = refl

end_same : same_bytes end_word end_word ≡ true
unfolding same_bytes
end_same = refl

module _ (file : List ℕ) (p q u n : ℕ) (vs : List Variable) where
  open_text : (kw : List ℕ) → TextKeyword kw → head_token file (between q u n vs) (token_at p kw) ≡ at p n vs in-section.Text blank (units u)
  unfolding settled step_as keyword_step
  open_text kw t = rw (key_text kw t) refl

  in_text : (w : List ℕ) → same_bytes w end_word ≡ false → head_token file (at q n vs in-section.Text blank (units u)) (token_at p w) ≡ at q n vs in-section.Text blank (units u)
  unfolding settled step_as text_step
  in_text w e = rw e refl

  end_text_lem : head_token file (at q n vs in-section.Text blank (units u)) (token_at p end_word) ≡ between 0 u n vs
  unfolding settled step_as text_step
  end_text_lem = rw end_same refl

  open_unit : head_token file (between q u n vs) (token_at p timescale_word) ≡ at p n vs in-section.Count blank (units u)
  unfolding settled step_as keyword_step
  open_unit = rw key_unit refl

  in_count : (k : ℕ) (cw : List ℕ) → UnitCount k cw → head_token file (at q n vs in-section.Count blank (units u)) (token_at p cw) ≡ at q n vs in-section.Letters blank (record { first = p; scale = k; unit = u })
  unfolding settled step_as count_step same_bytes count_of
  in_count k cw c_one = refl
  in_count k cw c_ten = refl
  in_count k cw c_hundred = refl

  in_letters : (f k m : ℕ) (cw lw : List ℕ) → UnitCount k cw → UnitLetters m lw
      → head_token file (at q n vs in-section.Letters blank (record { first = f; scale = k; unit = u })) (token_at p lw) ≡ at q n vs in-section.UnitEnd blank (record { first = f; scale = k * m; unit = u })
  unfolding settled step_as letters_step same_bytes letters_of times_unit
  in_letters f k m cw lw c_one l_ps = refl
  in_letters f k m cw lw c_one l_ns = refl
  in_letters f k m cw lw c_one l_us = refl
  in_letters f k m cw lw c_ten l_ps = refl
  in_letters f k m cw lw c_ten l_ns = refl
  in_letters f k m cw lw c_ten l_us = refl
  in_letters f k m cw lw c_hundred l_ps = refl
  in_letters f k m cw lw c_hundred l_ns = refl
  in_letters f k m cw lw c_hundred l_us = refl

  in_joined : (k m : ℕ) (cw lw : List ℕ) → UnitCount k cw → UnitLetters m lw
      → head_token file (at q n vs in-section.Count blank (units u)) (token_at p (cw ++ lw)) ≡ at q n vs in-section.UnitEnd blank (record { first = p; scale = k * m; unit = u })
  unfolding settled step_as count_step same_bytes count_of joined_of letters_of times_unit
  in_joined k m cw lw c_one l_ps = refl
  in_joined k m cw lw c_one l_ns = refl
  in_joined k m cw lw c_one l_us = refl
  in_joined k m cw lw c_ten l_ps = refl
  in_joined k m cw lw c_ten l_ns = refl
  in_joined k m cw lw c_ten l_us = refl
  in_joined k m cw lw c_hundred l_ps = refl
  in_joined k m cw lw c_hundred l_ns = refl
  in_joined k m cw lw c_hundred l_us = refl

  joined_as : (k m : ℕ) (w cw lw : List ℕ) → w ≡ cw ++ lw → UnitCount k cw → UnitLetters m lw
      → head_token file (at q n vs in-section.Count blank (units u)) (token_at p w) ≡ at q n vs in-section.UnitEnd blank (record { first = p; scale = k * m; unit = u })
  joined_as k m w cw lw i x y = rw i (in_joined k m cw lw x y)

  end_unit : (f k : ℕ) → head_token file (at q n vs in-section.UnitEnd blank (record { first = f; scale = k; unit = u })) (token_at p end_word) ≡ between q k n vs
  unfolding settled step_as unit_step
  end_unit f k = rw end_same refl

  open_scope : head_token file (between q u n vs) (token_at p scope_word) ≡ at p n vs in-section.ScopeType blank (units u)
  unfolding settled step_as keyword_step
  open_scope = rw key_scope refl

  in_scope : (ty : List ℕ) → is_scope ty ≡ true → head_token file (at q n vs in-section.ScopeType blank (units u)) (token_at p ty) ≡ at q n vs in-section.ScopeName blank (units u)
  unfolding settled step_as scope_step
  in_scope ty e = rw e refl

  in_scope_name : (name : List ℕ) → is_name name ≡ true → head_token file (at q n vs in-section.ScopeName blank (units u)) (token_at p name) ≡ at q n vs in-section.Closing blank (units u)
  unfolding settled step_as scope_name_step
  in_scope_name name e = rw e refl

  closes : head_token file (at q n vs in-section.Closing blank (units u)) (token_at p end_word) ≡ between 0 u n vs
  unfolding settled step_as closed_by
  closes = rw end_same refl

  open_upscope : head_token file (between q u n vs) (token_at p upscope_word) ≡ at p n vs in-section.Closing blank (units u)
  unfolding settled step_as keyword_step
  open_upscope = rw key_upscope refl

  open_var : head_token file (between q u n vs) (token_at p var_word) ≡ at p n vs in-section.VarType blank (units u)
  unfolding settled step_as keyword_step
  open_var = rw key_var refl

  digital : (ty : List ℕ) → sort_of ty ≡ Digital → head_token file (at q n vs in-section.VarType blank (units u)) (token_at p ty) ≡ at q n vs in-section.VarSize (pending 0 0 0 0 true false) (units u)
  unfolding settled step_as type_as
  digital ty e = rw e refl

  analog : (ty : List ℕ) → sort_of ty ≡ Real → head_token file (at q n vs in-section.VarType blank (units u)) (token_at p ty) ≡ at q n vs in-section.VarSize (pending 0 0 0 0 false false) (units u)
  unfolding settled step_as type_as
  analog ty e = rw e refl

  sized : (size : List ℕ) (k : ℕ) (s : Bool) → decimal_of size ≡ Ok k
      → head_token file (at q n vs in-section.VarSize (pending 0 0 0 0 s false) (units u)) (token_at p size) ≡ at q n vs in-section.VarCode (pending 0 0 0 0 (pick (eqb k 1) s false) false) (units u)
  unfolding settled step_as size_as
  sized size k s e = rw e refl

  large : (size : List ℕ) (s : Bool) → decimal_of size ≡ (Err Big)
      → head_token file (at q n vs in-section.VarSize (pending 0 0 0 0 s false) (units u)) (token_at p size) ≡ at q n vs in-section.VarCode (pending 0 0 0 0 false false) (units u)
  unfolding settled step_as size_as
  large size s e = rw e refl

  in_code : (code : List ℕ) (s : Bool) → is_name code ≡ true
      → head_token file (at q n vs in-section.VarCode (pending 0 0 0 0 s false) (units u)) (token_at p code) ≡ at q n vs in-section.VarName (pending p (p + length code) 0 0 s false) (units u)
  unfolding settled step_as code_step
  in_code code s e = rw e refl

  in_name : (name : List ℕ) (f e : ℕ) (s : Bool) → is_name name ≡ true
      → head_token file (at q n vs in-section.VarName (pending f e 0 0 s false) (units u)) (token_at p name) ≡ at q n vs in-section.VarIndex (pending f e (pick s (pin_of name) 0) 0 s false) (units u)
  unfolding settled step_as name_step
  in_name name f e s h = rw h refl

  in_index : (w : List ℕ) (f e pin x : ℕ) (s : Bool) → same_bytes w end_word ≡ false → eqb (index_state x w) 9 ≡ false
      → head_token file (at q n vs in-section.VarIndex (pending f e pin x s false) (units u)) (token_at p w) ≡ at q n vs in-section.VarIndex (pending f e pin (index_state x w) s false) (units u)
  unfolding settled step_as index_step
  in_index w f e pin x s h k = rw (h, k) refl

  abbrev declared : ℕ → ℕ → ℕ → Heading
  declared f e pin = between q u (n + 1) (vs ++ (record { code = take (e - f) (drop f file); pin = pick (taken vs pin) 0 pin } ∷ []))

  end_plain : (f e pin : ℕ) (s : Bool) → n < 32 → head_token file (at q n vs in-section.VarIndex (pending f e pin 0 s false) (units u)) (token_at p end_word) ≡ declared f e pin
  unfolding settled step_as index_step whole_step declares
  end_plain f e pin s h = rw (end_same, lt-ltb n 32 h) refl

  end_indexed : (f e pin : ℕ) (s : Bool) → n < 32 → head_token file (at q n vs in-section.VarIndex (pending f e pin 7 s false) (units u)) (token_at p end_word) ≡ declared f e 0
  unfolding settled step_as index_step whole_step declares
  end_indexed f e pin s h = rw (end_same, lt-ltb n 32 h) refl

  open_last : head_token file (between q u n vs) (token_at p enddefinitions_word) ≡ at p n vs in-section.Ending blank (units u)
  unfolding settled step_as keyword_step
  open_last = rw key_last refl

-- ---- an index is whole only where no byte of it was wrong

wrong_stays : (c : ℕ) → index_by (72 + c) ≡ 9
unfolding index_by
wrong_stays c =
    simp (ne_eqb (72 + c) 3 (λ e. omega arith), ne_eqb (72 + c) 8 (λ e. omega arith), ne_eqb (72 + c) 9 (λ e. omega arith), ne_eqb (72 + c) 16 (λ e. omega arith), ne_eqb (72 + c) 24 (λ e. omega arith), ne_eqb (72 + c) 26 (λ e. omega arith), ne_eqb (72 + c) 28 (λ e. omega arith), ne_eqb (72 + c) 32 (λ e. omega arith), ne_eqb (72 + c) 33 (λ e. omega arith), ne_eqb (72 + c) 40 (λ e. omega arith), ne_eqb (72 + c) 48 (λ e. omega arith), ne_eqb (72 + c) 52 (λ e. omega arith))

wrong_word : (w : List ℕ) → index_state 9 w ≡ 9
unfolding index_state
wrong_word [] = refl
wrong_word (b ∷ rest) = rw (wrong_stays) (wrong_word rest)

wrong_run : (ws : List (List ℕ)) → index_states 9 ws ≡ 9
unfolding index_states
wrong_run [] = refl
wrong_run (w ∷ ws) = rw (wrong_word w) (wrong_run ws)

not_wrong : (x : ℕ) (ws : List (List ℕ)) → index_states x ws ≡ 7 → x ≡ 9 → ⊥
not_wrong x ws e z = omega (arith, wrong_run ws, rw z at e)

-- ---- words that are passed one by one

-- from one state to another, up to these words
record Passed (file : List ℕ) (g : Heading) (p : ℕ) (text : List ℕ) (h : Heading) (ws : List (List ℕ)) : Type 0 where
  place : ℕ
  rest : List ℕ
  same : header file g (tokens false p text) ≡ header file h (tokens false place rest)
  stands : drop place file ≡ rest
  spells : Spells rest ws

never_scalar : (q u n : ℕ) (vs : List Variable) (t : Bool) → at q n vs in-section.VarCode (pending 0 0 0 0 (pick t false false) false) (units u) ≡ at q n vs in-section.VarCode (pending 0 0 0 0 false false) (units u)
never_scalar q u n vs true = refl
never_scalar q u n vs false = refl

module _ (file : List ℕ) (q u n : ℕ) (vs : List Variable) where
  remark_read : (cs : List (List ℕ)) (p : ℕ) (text : List ℕ) (ws : List (List ℕ)) → NoEndWord cs → Spells text (cs ++ ws) → drop p file ≡ text
      → Passed file (at q n vs in-section.Text blank (units u)) p text (at q n vs in-section.Text blank (units u)) ws
  remark_read [] p text ws no_word s e = record { place = p; rest = text; same = refl; stands = e; spells = s }
  remark_read (w ∷ cs) p text ws (one_word k ps) s e =
      let x = next_word file p s e in
      let y = remark_read cs (x.place + length w) x.rest ws ps x.spells x.stands in
      record {
        place = y.place;
        rest = y.rest;
        same = next_token file p x _ _ (in_text file x.place q u n vs w k) refl ∙ y.same;
        stands = y.stands;
        spells = y.spells;
      }

  index_read : (ix : List (List ℕ)) (f e pin x : ℕ) (b : Bool) (p : ℕ) (text : List ℕ) (ws : List (List ℕ)) → NoEndWord ix → index_states x ix ≡ 7 → Spells text (ix ++ ws) → drop p file ≡ text
      → Passed file (at q n vs in-section.VarIndex (pending f e pin x b false) (units u)) p text (at q n vs in-section.VarIndex (pending f e pin 7 b false) (units u)) ws
  unfolding index_states
  index_read [] f e pin x b p text ws no_word r s d = record { place = p; rest = text; same = rw r refl; stands = d; spells = s }
  index_read (w ∷ ix) f e pin x b p text ws (one_word k ps) r s d =
      let t = next_word file p s d in
      let y = index_read ix f e pin (index_state x w) b (t.place + length w) t.rest ws ps r t.spells t.stands in
      record {
        place = y.place;
        rest = y.rest;
        same = next_token file p t _ _ (in_index file t.place q u n vs w f e pin x b k (ne_eqb (index_state x w) 9 (not_wrong (index_state x w) ix r))) refl ∙ y.same;
        stands = y.stands;
        spells = y.spells;
      }

  -- type and size
  kind_read : (ty size : List ℕ) (s : Bool) (p : ℕ) (text : List ℕ) (ws : List (List ℕ)) → VariableKind ty size s → Spells text (ty ∷ size ∷ ws) → drop p file ≡ text
      → Passed file (at q n vs in-section.VarType blank (units u)) p text (at q n vs in-section.VarCode (pending 0 0 0 0 s false) (units u)) ws
  kind_read ty size s p text ws (k_scalar i j) r d =
      let a = next_word file p r d in
      let b = next_word file (a.place + length ty) a.spells a.stands in
      record {
        place = b.place + length size;
        rest = b.rest;
        same = next_token file p a _ _ (digital file a.place q u n vs ty i) refl ∙ next_token file (a.place + length ty) b _ _ (sized file b.place q u n vs size 1 true j) refl;
        stands = b.stands;
        spells = b.spells;
      }
  kind_read ty size s p text ws (k_vector {n = m} i j other) r d =
      let a = next_word file p r d in
      let b = next_word file (a.place + length ty) a.spells a.stands in
      record {
        place = b.place + length size;
        rest = b.rest;
        same = next_token file p a _ _ (digital file a.place q u n vs ty i) refl ∙ next_token file (a.place + length ty) b _ _ (sized file b.place q u n vs size m true j ∙ rw (ne_eqb m 1 other) refl) refl;
        stands = b.stands;
        spells = b.spells;
      }
  kind_read ty size s p text ws (k_large i j) r d =
      let a = next_word file p r d in
      let b = next_word file (a.place + length ty) a.spells a.stands in
      record {
        place = b.place + length size;
        rest = b.rest;
        same = next_token file p a _ _ (digital file a.place q u n vs ty i) refl ∙ next_token file (a.place + length ty) b _ _ (large file b.place q u n vs size true j) refl;
        stands = b.stands;
        spells = b.spells;
      }
  kind_read ty size s p text ws (k_real {n = m} i j) r d =
      let a = next_word file p r d in
      let b = next_word file (a.place + length ty) a.spells a.stands in
      record {
        place = b.place + length size;
        rest = b.rest;
        same = next_token file p a _ _ (analog file a.place q u n vs ty i) refl ∙ next_token file (a.place + length ty) b _ _ (sized file b.place q u n vs size m false j ∙ never_scalar q u n vs (eqb m 1)) refl;
        stands = b.stands;
        spells = b.spells;
      }

-- ---- the sections one after the other

-- the header is read: no refusal, the unit, the variables, and the words of the body from a place on
record Headed (file : List ℕ) (g : Heading) (u : ℕ) (vs : List Variable) (ws : List (List ℕ)) : Type 0 where
  place : ℕ
  rest : List ℕ
  number : g.head.close.number ≡ 0
  begins : g.head.close.place ≡ place
  scale : g.head.unit.unit ≡ u
  vars : g.variables ≡ vs
  stands : drop place file ≡ rest
  spells : Spells rest ws

headed_by : {file : List ℕ} {g h : Heading} {u : ℕ} {vs : List Variable} {ws : List (List ℕ)} → g ≡ h → Headed file h u vs ws → Headed file g u vs ws
headed_by e x = rw e x

stops : (file : List ℕ) (p q u n : ℕ) (vs : List Variable) (ts : List Token)
    → header file (at q n vs in-section.Ending blank (units u)) (token_at p end_word ∷ ts)
    ≡ heading (record { mark = q; entries = n; unit = units u; variable = blank; close = record { place = p + 4; number = 0; stop = true }; section = in-section.Ending }) vs
unfolding header settled step_as ending_step
stops file p q u n vs ts = rw end_same refl

code_kept : (file code : List ℕ) (f : ℕ) → take (length code) (drop f file) ≡ code → take (f + length code - f) (drop f file) ≡ code
code_kept file code f e = let z : f + length code - f ≡ length code = omega arith in rw z e

one_longer : (vs : List Variable) (v : Variable) → length (vs ++ (v ∷ [])) ≡ length vs + 1
one_longer vs v = length-append vs (v ∷ [])

declared_as : (file : List ℕ) (q u f pin : ℕ) (vs : List Variable) (code : List ℕ) → take (length code) (drop f file) ≡ code
    → between q u (length vs + 1) (vs ++ (record { code = take (f + length code - f) (drop f file); pin = pin } ∷ []))
    ≡ between q u (length (vs ++ (record { code = code; pin = pin } ∷ []))) (vs ++ (record { code = code; pin = pin } ∷ []))
declared_as file q u f pin vs code e = rw (code_kept file code f e, one_longer vs (record { code = code; pin = pin })) refl

-- the end of a variable, with its index or without
module _ (file : List ℕ) (q u v : ℕ) (vs us : List Variable) (code name : List ℕ) (scalar : Bool) (ws rest : List (List ℕ)) (few : length vs < 32) where
  var_end : (ix : List (List ℕ)) (indexed : Bool) → IndexWords ix indexed
      → ((text : List ℕ) (p : ℕ) → Spells text rest → drop p file ≡ text
      → Headed file (header file (between q u (length (vs ++ (record { code = code; pin = pin_driven vs scalar indexed name } ∷ []))) (vs ++ (record { code = code; pin = pin_driven vs scalar indexed name } ∷ []))) (tokens false p text)) v us ws)
      → (text : List ℕ) (p f : ℕ) → Spells text (ix ++ (end_word ∷ rest)) → drop p file ≡ text → take (length code) (drop f file) ≡ code
      → Headed file (header file (at q (length vs) vs in-section.VarIndex (pending f (f + length code) (pick scalar (pin_of name) 0) 0 scalar false) (units u)) (tokens false p text)) v us ws
  var_end ix indexed x_none ih text p f s d here =
      let c = next_word file p s d in
      headed_by (next_token file p c _ _ (end_plain file c.place q u (length vs) vs f (f + length code) (pick scalar (pin_of name) 0) scalar few ∙ declared_as file q u f (pin_driven vs scalar false name) vs code here) refl)
      (ih c.rest (c.place + length end_word) c.spells c.stands)
  var_end ix indexed (x_some ps run) ih text p f s d here =
      let b = index_read file q u (length vs) vs ix f (f + length code) (pick scalar (pin_of name) 0) 0 scalar p text (end_word ∷ rest) ps run s d in
      let c = next_word file b.place b.spells b.stands in
      headed_by (b.same ∙ next_token file b.place c _ _ (end_indexed file c.place q u (length vs) vs f (f + length code) (pick scalar (pin_of name) 0) scalar few ∙ declared_as file q u f (pin_driven vs scalar true name) vs code here) refl)
      (ih c.rest (c.place + length end_word) c.spells c.stands)

sections_read : (ss : List Section) (file text : List ℕ) (p m u v : ℕ) (vs us : List Variable) (ws : List (List ℕ)) → Spells text (dump_words ss ws) → drop p file ≡ text → Declares u vs ss v us
    → Headed file (header file (between m u (length vs) vs) (tokens false p text)) v us ws
unfolding dump_words section_words
sections_read [] file text p m u v vs us ws s d d_none =
    let a = next_word file p s d in
    let b = next_word file (a.place + length enddefinitions_word) a.spells a.stands in
    headed_by (next_token file p a _ _ (open_last file a.place m u (length vs) vs) refl
    ∙ ap (header file (at a.place (length vs) vs in-section.Ending blank (units u))) b.split
    ∙ stops file b.place a.place u (length vs) vs (tokens false (b.place + length end_word) b.rest))
    (record { place = b.place + 4; rest = b.rest; number = refl; begins = refl; scale = refl; vars = refl; stands = b.stands; spells = b.spells })
sections_read (free_text kw cs ∷ ss) file text p m u v vs us ws s d (d_text t ps k) =
    let a = next_word file p s d in
    let b = remark_read file a.place u (length vs) vs cs (a.place + length kw) a.rest (end_word ∷ dump_words ss ws) ps a.spells a.stands in
    let c = next_word file b.place b.spells b.stands in
    headed_by (next_token file p a _ _ (open_text file a.place m u (length vs) vs kw t) refl ∙ b.same ∙ next_token file b.place c _ _ (end_text_lem file c.place a.place u (length vs) vs) refl)
    (sections_read ss file c.rest (c.place + length end_word) 0 u v vs us ws c.spells c.stands k)
sections_read (unit cw lw ∷ ss) file text p m u v vs us ws s d (d_unit {n = n} {m = o} x y k) =
    let a = next_word file p s d in
    let b = next_word file (a.place + length timescale_word) a.spells a.stands in
    let c = next_word file (b.place + length cw) b.spells b.stands in
    let e = next_word file (c.place + length lw) c.spells c.stands in
    headed_by (next_token file p a _ _ (open_unit file a.place m u (length vs) vs) refl
    ∙ next_token file (a.place + length timescale_word) b _ _ (in_count file b.place a.place u (length vs) vs n cw x) refl
    ∙ next_token file (b.place + length cw) c _ _ (in_letters file c.place a.place u (length vs) vs b.place n o cw lw x y) refl
    ∙ next_token file (c.place + length lw) e _ _ (end_unit file e.place a.place u (length vs) vs b.place (n * o)) refl)
    (sections_read ss file e.rest (e.place + length end_word) a.place (n * o) v vs us ws e.spells e.stands k)
sections_read (joined_unit w ∷ ss) file text p m u v vs us ws s d (d_joined {n = n} {m = o} {cw = cw} {lw = lw} i x y k) =
    let a = next_word file p s d in
    let b = next_word file (a.place + length timescale_word) a.spells a.stands in
    let e = next_word file (b.place + length w) b.spells b.stands in
    headed_by (next_token file p a _ _ (open_unit file a.place m u (length vs) vs) refl
    ∙ next_token file (a.place + length timescale_word) b _ _ (joined_as file b.place a.place u (length vs) vs n o w cw lw i x y) refl
    ∙ next_token file (b.place + length w) e _ _ (end_unit file e.place a.place u (length vs) vs b.place (n * o)) refl)
    (sections_read ss file e.rest (e.place + length end_word) a.place (n * o) v vs us ws e.spells e.stands k)
sections_read (scope ty name ∷ ss) file text p m u v vs us ws s d (d_scope x y k) =
    let a = next_word file p s d in
    let b = next_word file (a.place + length scope_word) a.spells a.stands in
    let c = next_word file (b.place + length ty) b.spells b.stands in
    let e = next_word file (c.place + length name) c.spells c.stands in
    headed_by (next_token file p a _ _ (open_scope file a.place m u (length vs) vs) refl
    ∙ next_token file (a.place + length scope_word) b _ _ (in_scope file b.place a.place u (length vs) vs ty x) refl
    ∙ next_token file (b.place + length ty) c _ _ (in_scope_name file c.place a.place u (length vs) vs name y) refl
    ∙ next_token file (c.place + length name) e _ _ (closes file e.place a.place u (length vs) vs) refl)
    (sections_read ss file e.rest (e.place + length end_word) 0 u v vs us ws e.spells e.stands k)
sections_read (upscope ∷ ss) file text p m u v vs us ws s d (d_upscope k) =
    let a = next_word file p s d in
    let e = next_word file (a.place + length upscope_word) a.spells a.stands in
    headed_by (next_token file p a _ _ (open_upscope file a.place m u (length vs) vs) refl
    ∙ next_token file (a.place + length upscope_word) e _ _ (closes file e.place a.place u (length vs) vs) refl)
    (sections_read ss file e.rest (e.place + length end_word) 0 u v vs us ws e.spells e.stands k)
sections_read (var ty size code name ix ∷ ss) file text p m u v vs us ws s d (d_var {scalar = scalar} {indexed = indexed} kind x y index few k) =
    let a = next_word file p s d in
    let b = kind_read file a.place u (length vs) vs ty size scalar (a.place + length var_word) a.rest _ kind a.spells a.stands in
    let c = next_word file b.place b.spells b.stands in
    let e = next_word file (c.place + length code) c.spells c.stands in
    headed_by (next_token file p a _ _ (open_var file a.place m u (length vs) vs) refl
    ∙ b.same
    ∙ next_token file b.place c _ _ (in_code file c.place a.place u (length vs) vs code scalar x) refl
    ∙ next_token file (c.place + length code) e _ _ (in_name file e.place a.place u (length vs) vs name c.place (c.place + length code) scalar y) refl)
    (var_end file a.place u v vs us code name scalar ws (dump_words ss ws) few ix indexed index
    (λ t o z r. sections_read ss file t o a.place u v (vs ++ (record { code = code; pin = pin_driven vs scalar indexed name } ∷ [])) us ws z r k)
    e.rest (e.place + length name) c.place e.spells e.stands c.here)

-- ---- the whole file

record Opened (file : List ℕ) (u : ℕ) (vs : List Variable) (ws : List (List ℕ)) : Type 0 where
  place : ℕ
  rest : List ℕ
  same : trace_of file ≡ body (find vs) u fresh_state (tokens false place rest)
  spells : Spells rest ws

by_heading : (file rest : List ℕ) (g : Heading) (place u : ℕ) (vs : List Variable) → g.head.close.number ≡ 0 → g.head.close.place ≡ place → g.head.unit.unit ≡ u → g.variables ≡ vs → drop place file ≡ rest
    → trace_by file g ≡ body (find vs) u fresh_state (tokens false place rest)
unfolding trace_by
by_heading file rest g place u vs a b c d e = rw (a, b, c, d, e) refl

opened : (ss : List Section) (file : List ℕ) (u : ℕ) (vs : List Variable) (ws : List (List ℕ)) → Spells file (dump_words ss ws) → Declares 0 [] ss u vs → Opened file u vs ws
unfolding trace_of header_of
opened ss file u vs ws s d =
    let h = sections_read ss file file 0 0 0 u [] vs ws s refl d in
    record {
      place = h.place;
      rest = h.rest;
      same = by_heading file h.rest (header file (heading fresh_head []) (tokens false 0 file)) h.place u vs h.number h.begins h.scale h.vars h.stands;
      spells = h.spells;
    }

-- a file that spells sections and a body: number 0, and the event words that the body means under the unit and the variables that the sections declare
pub dump_read : (ss : List Section) (is : List Item) (file : List ℕ) (u : ℕ) (vs : List Variable) (ws : List ℕ) → Spells file (dump_words ss (body_words is)) → Declares 0 [] ss u vs → 0 < u
    → Means (find vs) u 0 0 false is ws → Accepted (trace_of file) ws
dump_read ss is file u vs ws s d some_byte m =
    let o = opened ss file u vs (body_words is) s d in
    rw o.same (body_read (find vs) u some_byte is o.rest o.place ws o.spells m)
