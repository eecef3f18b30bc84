-- Runs of changes and times, token by token.
-- Assumes nothing.
use Rattle.std.specs.Prelude.{Ok}
use Rattle.vcd_text.specs.Token.{Number}
use mathlib.Core.Bool.{Bool, true, false}
use mathlib.Core.Path.{◌≡◌, refl, sym, ap, ◌∙◌}
use mathlib.Core.List.{List, [], ◌∷◌}
use Prim.Native.Nat.{ℕ, zero, suc, ◌+◌, ◌-◌, ◌*◌, ◌/◌, ◌%◌, ◌<◌, ◌≤◌}
use native.Mathlib.Omega.{arith}
use native.Mathlib.Numerals.{add-one}
use lib.ListN.{length, take, drop, get_or, set, replicate, length-set, length-take, length-drop}
use lib.Seq.{drop-cons, get_or-take, get_or-drop}
use lib.Dec.{eqb}
use borrow.Author.Tests.{eqb-true, eqb-false, lt-ltb, le-ltb, ne_eqb}
use Rattle.bits.specs.Byte.{num}
use Rattle.vcd_text.specs.Token.{white, white_length, word_length, number_of, grown_by, longer_by, digits_from, decimal_of}
use Rattle.vcd_text.proofs.Laws.{word_some, word_more, word_stops, some_byte, decimal_some}
use Rattle.vcd_output.specs.declared.Put.{Put}
use Rattle.vcd_output.specs.Room.{Written, put, wrote, clock_word, pin_word, unpacked, pin_words}
use Rattle.vcd_codes.specs.Codes.{Found, meant}
use Rattle.vcd_items.specs.declared.Item.TheVariants.{Scalar, Time}
use Rattle.vcd_items.specs.Items.{kind_of, item_as, item_of}
use Rattle.vcd_steps.specs.declared.Mode.{Mode}
use Rattle.vcd_steps.specs.declared.Mode.TheVariants.{Plain}
use Rattle.vcd_steps.specs.declared.State.{State}
use Rattle.vcd_steps.specs.Events.{Event, clock_events, pin_events, words}
use Rattle.vcd_steps.specs.Steps.{proceed, at_time, item_step, change_of, time_of, time_as, advanced}
use Rattle.vcd_steps.proofs.Times.{fits_of}
use Rattle.vcd_body.specs.declared.Run.{Run}
use Rattle.vcd_body.specs.declared.Turn.TheVariants.{On}
use Rattle.vcd_body.specs.Trace.{token_as}
use Rattle.vcd_body.specs.Pieces.{turned, turn_by, placed}
use Rattle.vcd_body.specs.Runs.{NextToken, Advances, Leads, ran}
use Rattle.vcd_body.proofs.Placing.{clocks_left, pin_words_lem}
use Rattle.vcd_body.proofs.Reading.{token_goes_on}

pub never : false ≡ true → ⊥
never h = let z : ◌≡◌ {A = ℕ} 0 1 = cc in omega arith

-- ---- numbers

-- a digit more of a word
pub digit_on : (text : List ℕ) (i v : ℕ) → i < length text → white (get_or text i 0) ≡ false → 47 < get_or text i 0 → get_or text i 0 < 58 → v < 1844674407370955161
    → digits_from (Ok (v * 10 + (get_or text i 0 - 48))) (take (word_length (drop (i + 1) text)) (drop (i + 1) text)) ≡ digits_from (Ok v) (take (word_length (drop i text)) (drop i text))
unfolding digits_from longer_by grown_by number_of
digit_on text i v h w l u f =
    let z : v * 10 + (get_or text i 0 - 48) < 18446744073709551616 = omega arith in
    let n : word_length (drop i text) ≡ suc (word_length (drop (i + 1) text)) = omega (arith, word_more text i h w) in
    let more : longer_by (Ok v) (get_or text i 0) ≡ Ok (v * 10 + (get_or text i 0 - 48)) = simp (le-ltb _ _ l, lt-ltb _ _ u, lt-ltb _ _ z) in
    let bytes : take (word_length (drop i text)) (drop i text) ≡ get_or text i 0 ∷ take (word_length (drop (i + 1) text)) (drop (i + 1) text) = rw (n, drop-cons text i 0 h, add-one) refl in
    sym (ap (digits_from (Ok v)) bytes ∙ ap (λ (m : Number). digits_from m (take (word_length (drop (i + 1) text)) (drop (i + 1) text))) more)

-- no byte more
pub digits_done : (text : List ℕ) (i v : ℕ) → i ≡ i + word_length (drop i text) → digits_from (Ok v) (take (word_length (drop i text)) (drop i text)) ≡ Ok v
unfolding digits_from
digits_done text i v h = let z : word_length (drop i text) ≡ 0 = omega arith in rw z refl

-- the number that a word is
pub digits_whole : (text : List ℕ) (from i v : ℕ) → from < i → i ≡ from + word_length (drop from text) → i ≤ length text
    → digits_from (Ok 0) (take (word_length (drop from text)) (drop from text)) ≡ Ok v → decimal_of (take (i - from) (drop from text)) ≡ Ok v
digits_whole text from i v h e l d =
    let z : i - from ≡ word_length (drop from text) = omega arith in
    rw z (sym (decimal_some (take (word_length (drop from text)) (drop from text)) (λ y. absurd (omega (arith, simp (length-take, length-drop) at y)))) ∙ d)

-- ---- tokens

-- a token without its first byte
pub tail_of : (text : List ℕ) (p e : ℕ) → p < length text → p < e → drop 1 (take (e - p) (drop p text)) ≡ take (e - (p + 1)) (drop (p + 1) text)
tail_of text p e h k = let z : e - p ≡ suc (e - (p + 1)) = omega arith in rw (z, drop-cons text p 0 h, add-one) refl

-- a code of one byte
pub single_code : (text : List ℕ) (p : ℕ) → p + 2 < length text → drop 1 (take (p + 2 - p) (drop p text)) ≡ get_or text (p + 1) 0 ∷ []
single_code text p h =
    tail_of text p (p + 2) (omega arith) (omega arith) ∙ (let z : p + 2 - (p + 1) ≡ 1 = omega arith in rw (z, drop-cons text (p + 1) 0 (let y : p + 1 < length text = omega arith in y)) refl)

-- the first byte of a token is one of its word
pub after_first : (text : List ℕ) (at p : ℕ) → p ≡ at + white_length (drop at text) → p < length text → (p + 1) + word_length (drop (p + 1) text) ≡ p + word_length (drop p text)
after_first text at p from h = by (white (get_or text p 0)) refl
  where
    by : (q : Bool) → white (get_or text p 0) ≡ q → (p + 1) + word_length (drop (p + 1) text) ≡ p + word_length (drop p text)
    by true e = absurd (omega (arith, word_stops text p h e, word_some text at p from (p + word_length (drop p text)) refl h))
    by false e = word_more text p h e

head_of : (text : List ℕ) (p e : ℕ) → p < e → get_or (take (e - p) (drop p text)) 0 0 ≡ get_or text p 0
head_of text p e h = get_or-take (e - p) (drop p text) 0 0 (omega arith) ∙ get_or-drop p text 0 0 ∙ rw (let z : p + 0 ≡ p = omega arith in z) refl

-- a token that begins with 0 or 1
change_item : (t : List ℕ) (b : ℕ) (high : Bool) → eqb b 49 ≡ high → get_or t 0 0 ≡ b → 0 < length t → 47 < b → b < 50 → item_of t ≡ Scalar high
unfolding item_of kind_of item_as
change_item t b true e g h l u =
    let z : b ≡ 49 = eqb-true b 49 e in
    let y : (length t ≡ 0 → ⊥) = λ v. absurd (omega arith) in
    rw (g, z) (simp (ne_eqb _ _ y))
change_item t b false e g h l u =
    let x : (b ≡ 49 → ⊥) = eqb-false b 49 e in
    let z : b ≡ 48 = omega arith in
    let y : (length t ≡ 0 → ⊥) = λ v. absurd (omega arith) in
    rw (g, z) (simp (ne_eqb _ _ y))

-- a token that begins with #
time_item : (t : List ℕ) (v : ℕ) → get_or t 0 0 ≡ 35 → 0 < length t → decimal_of (drop 1 t) ≡ Ok v → item_of t ≡ Time (Ok v)
unfolding item_of kind_of item_as
time_item t v g h d = let y : (length t ≡ 0 → ⊥) = λ v. absurd (omega arith) in rw g (simp (ne_eqb _ _ y, d))

-- ---- words

-- the word of a change
level_of_lem : (b : ℕ) (high : Bool) → eqb b 49 ≡ high → 47 < b → b < 50 → b - 48 ≡ num high
level_of_lem b true e l u = let z : b ≡ 49 = eqb-true b 49 e in rw z refl
level_of_lem b false e l u = let x : (b ≡ 49 → ⊥) = eqb-false b 49 e in let z : b ≡ 48 = omega arith in rw z refl

one_word : (list : ℕ) (high : Bool) → 0 < list → list < 256 → pin_words 4 list high ≡ pin_word high list ∷ []
unfolding pin_words
one_word list high h k =
    let z : list % 256 ≡ list = omega arith in
    let y : list / 256 ≡ 0 = omega arith in
    let x : (list ≡ 0 → ⊥) = λ v. absurd (omega arith) in
    rw (z, y) (simp (ne_eqb _ _ x))

put_one : (w : ℕ) (room : List ℕ) (count : ℕ) → count < length room → wrote (set room count w) (record { count = count + 1; done = 0; full = false }) ≡ put (w ∷ []) room count 0
unfolding put
put_one w room count h = simp (lt-ltb _ _ h)

-- words that all find a place
put_fits : (n : ℕ) (room : List ℕ) (count done : ℕ) → (0 < n → count + n ≤ length room)
    → (put (replicate n clock_word) room count done).told ≡ record { count = (put (replicate n clock_word) room count done).told.count; done = 0; full = false }
unfolding put
put_fits zero room count done h = refl
put_fits (suc n) room count done h =
    let k : count < length room = omega (arith, h (omega arith)) in
    simp (lt-ltb _ _ k) (put_fits n (set room count clock_word) (count + 1) (done + 1) (λ l. simp length-set (omega (arith, h (omega arith)))))

-- ---- what is left to read

written_turn : (s : State) (events : List Event) (room after : List ℕ) (from count : ℕ) → wrote after (record { count = count; done = 0; full = false }) ≡ put (words events) room from 0
    → turned after (On s count) ≡ placed (proceed s events) 0 from room
unfolding placed turn_by
written_turn s events room after from count w = rw (← w) refl

module _ (find : List ℕ → Found) (scale : ℕ) (text : List ℕ) where
  pub leads_nowhere : (a : Run) (room : List ℕ) → Leads find scale text a room a room
  leads_nowhere a room = record { onward = omega arith; same = λ s m i. refl }

  pub leads_on : (a b d : Run) (room mid after : List ℕ) → Leads find scale text a room b mid → Leads find scale text b mid d after → Leads find scale text a room d after
  leads_on a b d room mid after h k = record { onward = omega (arith, h.onward, k.onward); same = λ s m i. k.same s m i ∙ h.same s m i }

  -- by a token all of whose words find places
  leads_by : (a : Run) (room after : List ℕ) (p e count time clocks : ℕ) (events : List Event) → NextToken text a.at p e
      → ((s : State) → s.mode ≡ Plain → s.inside ≡ false → token_as find scale Plain (ran s a) (take (e - p) (drop p text)) p ≡ proceed (at_time s time clocks) events)
      → wrote after (record { count = count; done = 0; full = false }) ≡ put (words events) room a.count 0
      → Leads find scale text a room (record { at = e; count = count; time = time; clocks = clocks }) after
  leads_by a room after p e count time clocks events next f w = record {
    onward = omega (arith, next.from, word_some text a.at p next.from e next.to next.some);
    same =
        λ s m i.
        token_goes_on find scale text a.at p e next.from next.to next.some (ran s a) 0 a.count room after (proceed (at_time s time clocks) events) (On (at_time s time clocks) count)
        (sym (f s m i) ∙ ap (λ (mode : Mode). token_as find scale mode (ran s a) (take (e - p) (drop p text)) p) (sym m))
        (written_turn (at_time s time clocks) events room after a.count count w) (at_time s time clocks) count refl;
  }

  -- ---- changes

  change_effect : (s : State) (t : List ℕ) (p b list : ℕ) → get_or t 0 0 ≡ b → 0 < length t → 47 < b → b < 50 → list < 256 → meant list ≡ find (drop 1 t)
      → token_as find scale Plain s t p ≡ proceed s (pin_events p (s.time * scale) (eqb b 49) (unpacked 4 list))
  unfolding token_as item_step change_of meant
  change_effect s t p b list g h l u k f =
      let z : list < 4294967296 = omega arith in
      rw (change_item t b (eqb b 49) refl g h l u, ← f) (simp (lt-ltb _ _ z))

  module _ (a : Run) (room : List ℕ) (p e b list : ℕ) (next : NextToken text a.at p e) (g : b ≡ get_or text p 0) (l : 47 < b) (u : b < 50)
      (f : meant list ≡ find (drop 1 (take (e - p) (drop p text)))) where
    some : p < e
    some = word_some text a.at p next.from e next.to next.some

    effect : list < 256 → (s : State) → s.mode ≡ Plain → s.inside ≡ false
        → token_as find scale Plain (ran s a) (take (e - p) (drop p text)) p ≡ proceed (at_time s a.time a.clocks) (pin_events p (a.time * scale) (eqb b 49) (unpacked 4 list))
    effect k s m i =
        change_effect (ran s a) (take (e - p) (drop p text)) p b list (head_of text p e some ∙ sym g) (some_byte text a.at p e next.from next.to next.some) l u k f

    pub leads_silent : list ≡ 0 → Leads find scale text a room (record { at = e; count = a.count; time = a.time; clocks = a.clocks }) room
    unfolding put pin_words
    leads_silent z =
        leads_by a room room p e a.count a.time a.clocks (pin_events p (a.time * scale) (eqb b 49) (unpacked 4 list)) next (effect (omega arith))
        (rw (pin_words_lem p (a.time * scale) (eqb b 49) 4 list, z) refl)

    pub leads_pin : 0 < list → list < 256 → a.count < length room
        → Leads find scale text a room (record { at = e; count = a.count + 1; time = a.time; clocks = a.clocks }) (set room a.count (50331648 + (b - 48) + list * 256))
    leads_pin h k n =
        leads_by a room (set room a.count (50331648 + (b - 48) + list * 256)) p e (a.count + 1) a.time a.clocks (pin_events p (a.time * scale) (eqb b 49) (unpacked 4 list)) next (effect k)
        (rw (pin_words_lem p (a.time * scale) (eqb b 49) 4 list, one_word list (eqb b 49) h k, level_of_lem b (eqb b 49) refl l u) (put_one (pin_word (eqb b 49) list) room a.count n))

  -- ---- times

  pub clocks_lead : (a : Run) (room after : List ℕ) (p e time due n : ℕ) (told : Put) → Advances find scale text a p e time due → n ≡ due - a.clocks → (0 < n → a.count + n ≤ length room)
      → wrote after told ≡ put (replicate (n - 0) clock_word) room a.count 0 → Leads find scale text a room (record { at = e; count = told.count; time = time; clocks = due }) after
  clocks_lead a room after p e time due n told k z h w =
      leads_by a room after p e told.count time due (clock_events p a.clocks (due - a.clocks)) k.next k.effect (rw (clocks_left p a.clocks (due - a.clocks) 0, ← z) (ap (λ (t : Put). wrote after t) (sym full) ∙ w))
    where
      full : told ≡ record { count = told.count; done = 0; full = false }
      full = rw (ap (λ (v : Written). v.told) w) (put_fits (n - 0) room a.count 0 (λ l. omega (arith, h (omega arith))))

  time_effect : (s : State) (t : List ℕ) (p v : ℕ) → get_or t 0 0 ≡ 35 → 0 < length t → decimal_of (drop 1 t) ≡ Ok v → s.inside ≡ false → 0 < scale → s.time ≤ v → v ≤ 18446744073709551615 / scale
      → token_as find scale Plain s t p ≡ proceed (at_time s v (v * scale / 8000000)) (clock_events p s.clocks (v * scale / 8000000 - s.clocks))
  unfolding token_as item_step time_of time_as advanced
  time_effect s t p v g h d i k l u =
      let y : (scale ≡ 0 → ⊥) = λ v. absurd (omega arith) in
      rw (time_item t v g h d) (simp (i, ne_eqb _ _ y, le-ltb _ _ l, lt-ltb _ _ (fits_of v scale k u)))

  pub time_advances : (a : Run) (p e v : ℕ) → p ≡ a.at + white_length (drop a.at text) → p < length text → get_or text p 0 ≡ 35 → p + 1 < e → e ≡ (p + 1) + word_length (drop (p + 1) text)
      → decimal_of (take (e - (p + 1)) (drop (p + 1) text)) ≡ Ok v → 0 < scale → a.time ≤ v → v ≤ 18446744073709551615 / scale → Advances find scale text a p e v (v * scale / 8000000)
  time_advances a p e v from h g some to d k l u =
      let next : NextToken text a.at p e = record { from = from; to = to ∙ after_first text a.at p from h; some = h } in
      record {
        next = next;
        effect =
            λ s m i.
            time_effect (ran s a) (take (e - p) (drop p text)) p v (head_of text p e (omega arith) ∙ g) (some_byte text a.at p e next.from next.to h) (ap decimal_of (tail_of text p e h (omega arith)) ∙ d) i k l u;
      }
