-- The converse: a body that the reader does not refuse spells items that mean something: `body-accepts`.
-- Assumes nothing.
use Rattle.vcd_text.specs.declared.NumberError.TheVariants.{Bad, Big}
use Rattle.std.specs.Prelude.{Ok, Err}
use Rattle.vcd_text.specs.Token.{Number}
use mathlib.Core.Bool.{Bool, true, false}
use mathlib.Core.Path.{◌≡◌, refl, sym, ap, ◌∙◌}
use mathlib.Core.List.{List, [], ◌∷◌, ◌++◌}
use Prim.Native.Nat.{ℕ, zero, suc, ◌+◌, ◌-◌, ◌*◌, ◌<◌, ◌≤◌}
use native.Mathlib.Omega.{arith}
use lib.ListN.{length, drop, get_or}
use lib.Dec.{ltb, eqb}
use borrow.Author.Tests.{ltb-true, ltb-false, eqb-true, ne_eqb}
use Rattle.bits.specs.Byte.{pick}
use Rattle.vcd_text.specs.Token.{Token, tokens, same_bytes, end_word, decimal_of}
use Rattle.vcd_codes.specs.Codes.{Found, undeclared, declared}
use Rattle.vcd_items.specs.declared.Kind.{Kind}
use Rattle.vcd_items.specs.declared.Kind.TheVariants as kind
use Rattle.vcd_items.specs.declared.Item.{Item as Read}
use Rattle.vcd_items.specs.declared.Item.TheVariants as item
use Rattle.vcd_items.specs.Items.{is_vector, is_real, is_dump, comment_word, kind_of, keyword_of, item_as, item_of}
use Rattle.vcd_steps.specs.declared.State.{State as Reader}
use Rattle.vcd_steps.specs.Events.{clocks_by}
use Rattle.vcd_steps.specs.Steps.{Effect, refuse, proceed, advanced, time_as, time_of, change_of, code_of, dump_of, end_of, comment_of, commented, item_step, ends_as}
use Rattle.vcd_body.specs.Trace.{Trace, stopped, prepended, carried, token_as, body}
use Rattle.vcd_grammar_laws.specs.Words.{Spells, bytes_of}
use Rattle.vcd_grammar_laws.specs.Body.{Item, time, change, vector, real, dump, end, comment, item_words, body_words, State, s_zero, s_one, s_x, s_X, s_z, s_Z, NoEndWord, no_word, one_word, VectorLetter, l_b, l_B, RealLetter, l_r, l_R, DumpWord, d_vars, d_all, d_on, d_off, Means, m_none, m_time, m_change, m_vector, m_real, m_end, m_comment, m_dump, Accepted}
use Rattle.vcd_grammar_laws.proofs.Words.{spells_all}
use Rattle.vcd_grammar_laws.proofs.Body.{between, waiting, passing, token_at, body_read}

-- ---- what a token is, by its bytes

byte_test : {A : Type 0} (b k : ℕ) (x y : A) (P : A → Type 0) → (b ≡ k → P x) → P y → P (pick (eqb b k) x y)
byte_test b k x y P f z = by (eqb b k) refl
  where
    by : (t : Bool) → eqb b k ≡ t → P (pick t x y)
    by true e = f (eqb-true b k e)
    by false e = z

data KindView : ℕ → Kind → Type 0 where
  kv_scalar : {b : ℕ} → State b false → KindView b kind.Low
  kv_high : {b : ℕ} → State b true → KindView b kind.High
  kv_vector : {b : ℕ} → VectorLetter b → KindView b kind.Vector
  kv_real : {b : ℕ} → RealLetter b → KindView b kind.Real
  kv_hash : {b : ℕ} → b ≡ 35 → KindView b kind.Hash
  kv_dollar : {b : ℕ} → KindView b kind.Dollar
  kv_other : {b : ℕ} → KindView b kind.Other

kind_view : (b : ℕ) → KindView b (kind_of b)
unfolding kind_of
kind_view b =
    byte_test b 48 _ _ (KindView b) (λ e. kv_scalar (rw e s_zero))
    (byte_test b 49 _ _ (KindView b) (λ e. kv_high (rw e s_one))
    (byte_test b 120 _ _ (KindView b) (λ e. kv_high (rw e s_x))
    (byte_test b 88 _ _ (KindView b) (λ e. kv_high (rw e s_X))
    (byte_test b 122 _ _ (KindView b) (λ e. kv_high (rw e s_z))
    (byte_test b 90 _ _ (KindView b) (λ e. kv_high (rw e s_Z))
    (byte_test b 35 _ _ (KindView b) (λ e. kv_hash e)
    (byte_test b 36 _ _ (KindView b) (λ e. kv_dollar)
    (byte_test b 98 _ _ (KindView b) (λ e. kv_vector (rw e l_b))
    (byte_test b 66 _ _ (KindView b) (λ e. kv_vector (rw e l_B))
    (byte_test b 114 _ _ (KindView b) (λ e. kv_real (rw e l_r))
    (byte_test b 82 _ _ (KindView b) (λ e. kv_real (rw e l_R)) kv_other)))))))))))

same_eq : (a b : List ℕ) → same_bytes a b ≡ true → a ≡ b
unfolding same_bytes
same_eq [] [] e = refl
same_eq [] (b ∷ bs) e = absurd (let z : ◌≡◌ {A = ℕ} 0 1 = cc in omega arith)
same_eq (a ∷ l) [] e = absurd (let z : ◌≡◌ {A = ℕ} 0 1 = cc in omega arith)
same_eq (a ∷ l) (b ∷ bs) e = by (eqb a b) refl (same_eq l bs) e
  where
    by : (t : Bool) → eqb a b ≡ t → (same_bytes l bs ≡ true → l ≡ bs) → pick t (same_bytes l bs) false ≡ true → (a ∷ l) ≡ (b ∷ bs)
    by true q ih x = let h = eqb-true a b q in let k = ih x in cc
    by false q ih x = absurd (let z : ◌≡◌ {A = ℕ} 0 1 = cc in omega arith)

same_test : {A : Type 0} (t w : List ℕ) (x y : A) (P : A → Type 0) → (t ≡ w → P x) → (same_bytes t w ≡ false → P y) → P (pick (same_bytes t w) x y)
same_test t w x y P f z = by (same_bytes t w) refl
  where
    by : (s : Bool) → same_bytes t w ≡ s → P (pick s x y)
    by true e = f (same_eq t w e)
    by false e = z e

data View : List ℕ → Read → Type 0 where
  v_scalar : {s : ℕ} {high : Bool} {code : List ℕ} → State s high → View (s ∷ code) (item.Scalar high)
  v_vector : {b : ℕ} {v : List ℕ} → VectorLetter b → is_vector v ≡ true → View (b ∷ v) item.Value
  v_real : {r : ℕ} {v : List ℕ} → RealLetter r → is_real v ≡ true → View (r ∷ v) item.Value
  v_time : {w ds : List ℕ} {n : Number} → w ≡ 35 ∷ ds → n ≡ decimal_of ds → View w (item.Time n)
  v_dump : {w : List ℕ} → DumpWord w → View w item.Dump
  v_end : {w : List ℕ} → w ≡ end_word → View w item.End
  v_comment : {w : List ℕ} → w ≡ comment_word → View w item.Comment
  v_bad : {w : List ℕ} → View w item.Bad

dump_view : (w : List ℕ) → View w (pick (is_dump w) item.Dump item.Bad)
unfolding is_dump
dump_view w =
    same_test w _ _ _ (λ (t : Bool). View w (pick t item.Dump item.Bad)) (λ e. v_dump {w = w} (rw e d_vars))
    (λ a. same_test w _ _ _ (λ (t : Bool). View w (pick t item.Dump item.Bad)) (λ e. v_dump {w = w} (rw e d_all))
    (λ b. same_test w _ _ _ (λ (t : Bool). View w (pick t item.Dump item.Bad)) (λ e. v_dump {w = w} (rw e d_on))
    (λ c. last (same_bytes w (36 ∷ 100 ∷ 117 ∷ 109 ∷ 112 ∷ 111 ∷ 102 ∷ 102 ∷ [])) refl)))
  where
    last : (s : Bool) → same_bytes w (36 ∷ 100 ∷ 117 ∷ 109 ∷ 112 ∷ 111 ∷ 102 ∷ 102 ∷ []) ≡ s → View w (pick s item.Dump item.Bad)
    last true e = v_dump {w = w} (rw (same_eq w (36 ∷ 100 ∷ 117 ∷ 109 ∷ 112 ∷ 111 ∷ 102 ∷ 102 ∷ []) e) d_off)
    last false e = v_bad

keyword_view : (w : List ℕ) → View w (keyword_of w)
unfolding keyword_of
keyword_view w = same_test w end_word _ _ (View w) v_end (λ a. same_test w comment_word _ _ (View w) v_comment (λ b. dump_view w))

value_view : (w : List ℕ) (t : Bool) → (t ≡ true → View w item.Value) → View w (pick t item.Value item.Bad)
value_view w true f = f refl
value_view w false f = v_bad

view_by : (b : ℕ) (bs : List ℕ) (k : Kind) → KindView b k → View (b ∷ bs) (item_as k (b ∷ bs))
unfolding item_as
view_by b bs k (kv_scalar s) = v_scalar s
view_by b bs k (kv_high s) = v_scalar s
view_by b bs k (kv_vector l) = value_view (b ∷ bs) (is_vector bs) (λ e. v_vector l e)
view_by b bs k (kv_real l) = value_view (b ∷ bs) (is_real bs) (λ e. v_real l e)
view_by b bs k (kv_hash e) = v_time {w = b ∷ bs} {ds = bs} (rw e refl) refl
view_by b bs k kv_dollar = keyword_view (b ∷ bs)
view_by b bs k kv_other = v_bad

view_of : (w : List ℕ) → View w (item_of w)
unfolding item_of
view_of [] = v_bad
view_of (b ∷ bs) = rw (ne_eqb (suc (length bs)) 0 (λ e. omega arith)) (view_by b bs (kind_of b) (kind_view b))

-- ---- what is accepted

module _ (look : List ℕ → Found) (scale : ℕ) where
  -- a token list from between two items on; from a value on, before its code; from within a comment on
  record Plainly (t c : ℕ) (inside : Bool) (ts : List Token) : Type 0 where
    is : List Item
    ws : List ℕ
    same : bytes_of ts ≡ body_words is
    means : Means look scale t c inside is ws

  record Coded (t c : ℕ) (inside : Bool) (ts : List Token) : Type 0 where
    code : List ℕ
    pins : List ℕ
    is : List Item
    ws : List ℕ
    known : look code ≡ declared pins
    same : bytes_of ts ≡ code ∷ body_words is
    means : Means look scale t c inside is ws

  record Remarked (t c : ℕ) (ts : List Token) : Type 0 where
    cs : List (List ℕ)
    is : List Item
    ws : List ℕ
    no_end_word : NoEndWord cs
    same : bytes_of ts ≡ cs ++ (end_word ∷ body_words is)
    means : Means look scale t c false is ws

  record Accepts (ts : List Token) : Type 0 where
    plainly : (o t c : ℕ) (inside : Bool) → (body look scale (between o t c inside) ts).number ≡ 0 → Plainly t c inside ts
    coded : (m o t c : ℕ) (inside : Bool) → (body look scale (waiting m o t c inside) ts).number ≡ 0 → Coded t c inside ts
    remarked : (m o t c : ℕ) → (body look scale (passing m o t c) ts).number ≡ 0 → Remarked t c ts

  none_inside : (inside : Bool) (o t c : ℕ) → (body look scale (between o t c inside) []).number ≡ 0 → Plainly t c inside []
  unfolding body ends_as bytes_of body_words
  none_inside true o t c e = absurd (let z : ◌≡◌ {A = ℕ} 40 0 = e in omega arith)
  none_inside false o t c e = record { is = []; ws = []; same = refl; means = m_none }

  none_accepted : Accepts []
  none_accepted = record {
    plainly = λ o t c inside e. none_inside inside o t c e;
    coded = λ m o t c inside e. absurd (unfold body ends_as in (let z : ◌≡◌ {A = ℕ} 40 0 = e in omega arith));
    remarked = λ m o t c e. absurd (unfold body ends_as in (let z : ◌≡◌ {A = ℕ} 40 0 = e in omega arith));
  }

  module _ (ts : List Token) (p : ℕ) (ih : Accepts ts) where
    -- a change
    change_by : (s : ℕ) (high : Bool) (code : List ℕ) (f : Found) (o t c : ℕ) (inside : Bool) → State s high → look code ≡ f
        → (carried (change_of f high scale (between o t c inside) p) (λ (n : Reader). body look scale n ts)).number ≡ 0 → Plainly t c inside (token_at p (s ∷ code) ∷ ts)
    unfolding change_of carried bytes_of body_words item_words
    change_by s high code undeclared o t c inside q k e = absurd (let z : ◌≡◌ {A = ℕ} 40 0 = e in omega arith)
    change_by s high code (declared pins) o t c inside q k e =
        let x = ih.plainly o t c inside e in
        record { is = change s code ∷ x.is; ws = _; same = ap (λ (l : List (List ℕ)). (s ∷ code) ∷ l) x.same; means = m_change q k x.means }

    -- a time
    advance_by : (n : ℕ) (ds : List ℕ) (late fits : Bool) (o t c : ℕ) → decimal_of ds ≡ Ok n → ltb n t ≡ late → ltb (n * scale) 18446744073709551616 ≡ fits
        → (carried (pick late (refuse 41 p) (pick fits (proceed (between o n (clocks_by n scale) false) (Rattle.vcd_steps.specs.Events.clock_events p c (clocks_by n scale - c))) (refuse 44 p))) (λ (n : Reader). body look scale n ts)).number ≡ 0
        → Plainly t c false (token_at p (35 ∷ ds) ∷ ts)
    unfolding carried bytes_of body_words item_words
    advance_by n ds true fits o t c d a b e = absurd (let z : ◌≡◌ {A = ℕ} 41 0 = e in omega arith)
    advance_by n ds false false o t c d a b e = absurd (let z : ◌≡◌ {A = ℕ} 44 0 = e in omega arith)
    advance_by n ds false true o t c d a b e =
        let x = ih.plainly o n (clocks_by n scale) false e in
        record {
          is = time n ds ∷ x.is;
          ws = _;
          same = ap (λ (l : List (List ℕ)). (35 ∷ ds) ∷ l) x.same;
          means = m_time d (ltb-false n t a) (ltb-true (n * scale) 18446744073709551616 b) x.means;
        }

    number_by : (number : Number) (ds : List ℕ) (o t c : ℕ) → number ≡ decimal_of ds → (carried (time_as number scale (between o t c false) p) (λ (n : Reader). body look scale n ts)).number ≡ 0
        → Plainly t c false (token_at p (35 ∷ ds) ∷ ts)
    unfolding time_as advanced
    number_by (Err Bad) ds o t c d e = absurd (unfold carried in (let z : ◌≡◌ {A = ℕ} 40 0 = e in omega arith))
    number_by (Err Big) ds o t c d e = absurd (unfold carried in (let z : ◌≡◌ {A = ℕ} 44 0 = e in omega arith))
    number_by (Ok n) ds o t c d e = advance_by n ds (ltb n t) (ltb (n * scale) 18446744073709551616) o t c (sym d) refl refl e

    time_by : (number : Number) (ds : List ℕ) (inside unitless : Bool) (o t c : ℕ) → number ≡ decimal_of ds
        → (carried (pick inside (refuse 40 p) (pick unitless (refuse 40 p) (time_as number scale (between o t c inside) p))) (λ (n : Reader). body look scale n ts)).number ≡ 0
        → Plainly t c inside (token_at p (35 ∷ ds) ∷ ts)
    unfolding carried
    time_by number ds true unitless o t c d e = absurd (let z : ◌≡◌ {A = ℕ} 40 0 = e in omega arith)
    time_by number ds false true o t c d e = absurd (let z : ◌≡◌ {A = ℕ} 40 0 = e in omega arith)
    time_by number ds false false o t c d e = number_by number ds o t c d e

    -- keywords
    dump_by : (w : List ℕ) (inside : Bool) (o t c : ℕ) → DumpWord w → (carried (dump_of (between o t c inside) p) (λ (n : Reader). body look scale n ts)).number ≡ 0 → Plainly t c inside (token_at p w ∷ ts)
    unfolding dump_of carried bytes_of body_words item_words
    dump_by w true o t c d e = absurd (let z : ◌≡◌ {A = ℕ} 40 0 = e in omega arith)
    dump_by w false o t c d e =
        let x = ih.plainly p t c true e in
        record { is = dump w ∷ x.is; ws = x.ws; same = ap (λ (l : List (List ℕ)). w ∷ l) x.same; means = m_dump d x.means }

    end_by : (inside : Bool) (o t c : ℕ) → (carried (end_of (between o t c inside) p) (λ (n : Reader). body look scale n ts)).number ≡ 0 → Plainly t c inside (token_at p end_word ∷ ts)
    unfolding end_of carried bytes_of body_words item_words
    end_by true o t c e =
        let x = ih.plainly 0 t c false e in
        record { is = end ∷ x.is; ws = x.ws; same = ap (λ (l : List (List ℕ)). end_word ∷ l) x.same; means = m_end x.means }
    end_by false o t c e = absurd (let z : ◌≡◌ {A = ℕ} 40 0 = e in omega arith)

    comment_by : (inside : Bool) (o t c : ℕ) → (carried (comment_of (between o t c inside) p) (λ (n : Reader). body look scale n ts)).number ≡ 0 → Plainly t c inside (token_at p comment_word ∷ ts)
    unfolding comment_of carried bytes_of body_words item_words
    comment_by true o t c e = absurd (let z : ◌≡◌ {A = ℕ} 40 0 = e in omega arith)
    comment_by false o t c e =
        let x = ih.remarked p o t c e in
        record { is = comment x.cs ∷ x.is; ws = x.ws; same = ap (λ (l : List (List ℕ)). comment_word ∷ l) x.same; means = m_comment x.no_end_word x.means }

    plain_by : (w : List ℕ) (i : Read) → View w i → (o t c : ℕ) (inside : Bool)
        → (carried (item_step i (look (drop 1 w)) scale (between o t c inside) p) (λ (n : Reader). body look scale n ts)).number ≡ 0 → Plainly t c inside (token_at p w ∷ ts)
    unfolding item_step time_of bytes_of body_words item_words carried
    plain_by w i (v_scalar {s} {high} {code} q) o t c inside e = change_by s high code (look code) o t c inside q refl e
    plain_by w i (v_vector {b} {v} l k) o t c inside e =
        let x = ih.coded p o t c inside e in
        record { is = vector b v x.code ∷ x.is; ws = x.ws; same = ap (λ (z : List (List ℕ)). (b ∷ v) ∷ z) x.same; means = m_vector l k x.known x.means }
    plain_by w i (v_real {r} {v} l k) o t c inside e =
        let x = ih.coded p o t c inside e in
        record { is = real r v x.code ∷ x.is; ws = x.ws; same = ap (λ (z : List (List ℕ)). (r ∷ v) ∷ z) x.same; means = m_real l k x.known x.means }
    plain_by w i (v_time {ds = ds} {n = n} q d) o t c inside e = rw q (time_by n ds inside (eqb scale 0) o t c d e)
    plain_by w i (v_dump d) o t c inside e = dump_by w inside o t c d e
    plain_by w i (v_end q) o t c inside e = rw q (end_by inside o t c e)
    plain_by w i (v_comment q) o t c inside e = rw q (comment_by inside o t c e)
    plain_by w i v_bad o t c inside e = absurd (let z : ◌≡◌ {A = ℕ} 40 0 = e in omega arith)

    -- the code of a value
    code_by : (w : List ℕ) (f : Found) (m o t c : ℕ) (inside : Bool) → look w ≡ f → (carried (code_of f (waiting m o t c inside)) (λ (n : Reader). body look scale n ts)).number ≡ 0 → Coded t c inside (token_at p w ∷ ts)
    unfolding code_of carried bytes_of
    code_by w undeclared m o t c inside k e = absurd (let z : ◌≡◌ {A = ℕ} 40 0 = e in omega arith)
    code_by w (declared pins) m o t c inside k e =
        let x = ih.plainly o t c inside e in
        record { code = w; pins = pins; is = x.is; ws = x.ws; known = k; same = ap (λ (l : List (List ℕ)). w ∷ l) x.same; means = x.means }

    -- a word of a comment
    word_by : (w : List ℕ) (ends : Bool) (m o t c : ℕ) → same_bytes w end_word ≡ ends → (carried (commented ends (passing m o t c)) (λ (n : Reader). body look scale n ts)).number ≡ 0 → Remarked t c (token_at p w ∷ ts)
    unfolding commented carried bytes_of
    word_by w true m o t c k e =
        let x = ih.plainly o t c false e in
        let q = same_eq w end_word k in
        record { cs = []; is = x.is; ws = x.ws; no_end_word = no_word; same = rw q (ap (λ (l : List (List ℕ)). end_word ∷ l) x.same); means = x.means }
    word_by w false m o t c k e =
        let x = ih.remarked m o t c e in
        record { cs = w ∷ x.cs; is = x.is; ws = x.ws; no_end_word = one_word k x.no_end_word; same = ap (λ (l : List (List ℕ)). w ∷ l) x.same; means = x.means }

    one_more : (w : List ℕ) → Accepts (token_at p w ∷ ts)
    unfolding body token_as
    one_more w = record {
      plainly = λ o t c inside e. plain_by w (item_of w) (view_of w) o t c inside e;
      coded = λ m o t c inside e. code_by w (look w) m o t c inside refl e;
      remarked = λ m o t c e. word_by w (same_bytes w end_word) m o t c refl e;
    }

  accepts : (ts : List Token) → Accepts ts
  accepts [] = none_accepted
  accepts (t ∷ ts) = one_more ts t.place (accepts ts) t.bytes

  -- a body that is not refused spells items, and they mean words (those that the reader gives, by `body-read`)
  pub record SpelledBody (text : List ℕ) : Type 0 where
    pub is : List Item
    pub ws : List ℕ
    pub spells : Spells text (body_words is)
    pub means : Means look scale 0 0 false is ws

  pub body_accepts : (text : List ℕ) (p : ℕ) → (body look scale (between 0 0 0 false) (tokens false p text)).number ≡ 0 → SpelledBody text
  body_accepts text p e =
      let x = (accepts (tokens false p text)).plainly 0 0 0 false e in
      record { is = x.is; ws = x.ws; spells = rw x.same at (spells_all text p); means = x.means }

  -- its words are those that the reader gives
  pub accepted_gives : 0 < scale → (text : List ℕ) (p : ℕ) (e : (body look scale (between 0 0 0 false) (tokens false p text)).number ≡ 0)
      → Accepted (body look scale (between 0 0 0 false) (tokens false p text)) (body_accepts text p e).ws
  accepted_gives some_byte text p e =
      let x = body_accepts text p e in
      body_read look scale some_byte x.is text p x.ws x.spells x.means
