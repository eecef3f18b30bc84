-- A replay that is written as a dump and read gives its 8 µs clocks and the levels of its four pins, in their order: `read_back`.
-- Assumes nothing.
use mathlib.Core.Bool.{Bool, true, false, ◌||◌}
use mathlib.Core.Path.{◌≡◌, refl, sym, ap, ◌∙◌}
use mathlib.Core.List.{List, [], ◌∷◌, ◌++◌, append_assoc}
use Prim.Native.Nat.{ℕ, zero, suc, ◌+◌, ◌-◌, ◌*◌, ◌/◌, ◌%◌, ◌<◌, ◌≤◌}
use native.Mathlib.Omega.{arith}
use lib.ListN.{length, replicate}
use lib.Dec.{ltb, eqb}
use borrow.Author.Tests.{ltb-true, ltb-false, eqb-true, eqb-false, ne_eqb}
use Rattle.bits.specs.Byte.{pick, num}
use Rattle.vcd_output.specs.Room.{pin_word}
use Rattle.vcd_items.specs.Items.{four_state, all_states, is_vector}
use Rattle.vcd_steps.specs.Events.{clocks_by}
use Rattle.vcd_codes.specs.Codes.{find}
use Rattle.vcd.specs.Call.{trace_of}
use Rattle.vcd_grammar_laws.specs.Body.{State, s_zero, s_one, level_words, l_b, Means, m_none, m_time, m_change, m_vector, Accepted}
use Rattle.vcd_grammar_laws.proofs.Header.{dump_read}
use Rattle.wave_write.specs.declared.Watch.{Watch}
use Rattle.wave_write.specs.declared.Writer.{Writer}
use Rattle.wave_write.specs.Decimal.{binary}
use Rattle.wave_write.specs.Watch.{width_of, aligned}
use Rattle.wave_write.specs.Lines.{Line, time, pin, level, vector, first, first_lines, text, clock_word, is_pin, pin_lines, is_kept, kept, level_lines, vector_lines, watch_lines, same_watch, at_most, time_of, writer_at, moved, Event, words_of, change_lines, event_lines, lines, after, fresh, opposite, begin_lines, end_lines, dump_lines}
use Rattle.wave_write.specs.Header.{header_text, dump}
use Rattle.wave_write.proofs.Laws.{binary_length}
use Rattle.wave_laws.proofs.Decimal.{decimal_read}
use Rattle.wave_laws.proofs.Spelling.{items_of, header, variables, dump_spells, header_declares, pins_known, levels_known, vectors_known}

-- lines that mean these words from time t on, after c clocks
abbrev Says : ℕ → ℕ → List Line → List ℕ → Type 0
Says t c ls ws = Means (find variables) 1000 t c false (items_of ls) ws

state : (high : Bool) → State (48 + num high) high
state true = s_one
state false = s_zero

pick_append : (b : Bool) (xs ys zs : List Line) → pick b xs ys ++ zs ≡ pick b (xs ++ zs) (ys ++ zs)
pick_append true xs ys zs = refl
pick_append false xs ys zs = refl

-- ---- what is watched

levels_by : (b : Bool) (high : Bool) (k t c : ℕ) (ls : List Line) (ws : List ℕ) → k < 10 → Says t c ls ws → Says t c (pick b ls (level high k ∷ ls)) ws
unfolding items_of level_words
levels_by true high k t c ls ws h s = s
levels_by false high k t c ls ws h s = m_change (state high) (levels_known k h) s

levels_say : (n k old new t c : ℕ) (ls : List Line) (ws : List ℕ) → k + n ≤ 10 → Says t c ls ws → Says t c (level_lines n k old new ++ ls) ws
unfolding level_lines
levels_say zero k old new t c ls ws h s = s
levels_say (suc n) k old new t c ls ws h s =
    rw (pick_append (eqb (old % 2) (new % 2)))
    (levels_by (eqb (old % 2) (new % 2)) (eqb (new % 2) 1) k t c (level_lines n (k + 1) (old / 2) (new / 2) ++ ls) ws (omega arith)
    (levels_say n (k + 1) (old / 2) (new / 2) t c ls ws (omega arith) s))

state_digit : (x : ℕ) → x < 2 → four_state (48 + x) ≡ true
unfolding four_state
state_digit zero h = refl
state_digit (suc zero) h = refl
state_digit (suc (suc x)) h = absurd (omega arith)

binary_states : (n v : ℕ) → all_states (binary n v) ≡ true
unfolding binary all_states
binary_states zero v = refl
binary_states (suc n) v = simp (state_digit (v / 2048 % 2) (omega arith), binary_states n (v % 2048 * 2))

binary_vector : (n m v : ℕ) → n ≡ suc m → is_vector (binary n v) ≡ true
unfolding is_vector
binary_vector n m v e =
    let some : eqb (length (binary n v)) 0 ≡ false = rw (binary_length n v) (ne_eqb n 0 (λ z. omega arith)) in
    simp (some, binary_states n v)

width_by : (a b : Bool) → 1 ≤ pick a 8 (pick b 12 3)
width_by true b = omega arith
width_by false true = omega arith
width_by false false = omega arith

width_some : (k : ℕ) → 1 ≤ width_of k
unfolding width_of
width_some k = width_by (ltb k 3) (ltb k 5)

vectors_by : (b : Bool) (n v k t c : ℕ) (ls : List Line) (ws : List ℕ) → 1 ≤ n → k < 6 → Says t c ls ws → Says t c (pick b ls (vector n v k ∷ ls)) ws
unfolding items_of
vectors_by true n v k t c ls ws i h s = s
vectors_by false n v k t c ls ws i h s = m_vector l_b (binary_vector n (n - 1) v (omega arith)) (vectors_known k h) s

vectors_say : (n k old new t c : ℕ) (ls : List Line) (ws : List ℕ) → k + n ≤ 6 → Says t c ls ws → Says t c (vector_lines n k old new ++ ls) ws
unfolding vector_lines
vectors_say zero k old new t c ls ws h s = s
vectors_say (suc n) k old new t c ls ws h s =
    rw (pick_append (eqb (old % 4096) (new % 4096)))
    (vectors_by (eqb (old % 4096) (new % 4096)) (width_of k) (aligned k (new % 4096)) k t c (vector_lines n (k + 1) (old / 4096) (new / 4096) ++ ls) ws (width_some k) (omega arith)
    (vectors_say n (k + 1) (old / 4096) (new / 4096) t c ls ws (omega arith) s))

watch_says : (old new : Watch) (t c : ℕ) (ls : List Line) (ws : List ℕ) → Says t c ls ws → Says t c (watch_lines old new ++ ls) ws
watch_says old new t c ls ws s =
    rw (append_assoc (level_lines 10 0 old.levels new.levels) (vector_lines 6 0 old.vectors new.vectors) ls)
    (levels_say 10 0 old.levels new.levels t c _ ws (omega arith) (vectors_say 6 0 old.vectors new.vectors t c ls ws (omega arith) s))

-- ---- pins

pub record PinWord (word : ℕ) : Type 0 where
  pub low : 24 ≤ word / 256 - 196608
  pub high : word / 256 - 196608 < 28
  pub same : pin_word (eqb (word % 256) 1) (word / 256 - 196608) ≡ word

num_level : (x : ℕ) → x < 2 → num (eqb x 1) ≡ x
num_level zero h = refl
num_level (suc zero) h = refl
num_level (suc (suc x)) h = absurd (omega arith)

pin_by : (a b c : Bool) (word : ℕ) → ltb (word / 256) 196632 ≡ a → ltb (word / 256) 196636 ≡ b → ltb (word % 256) 2 ≡ c → pick a false (pick b c false) ≡ true → PinWord word
pin_by true b c word x y z e = absurd (let o : ◌≡◌ {A = ℕ} 0 1 = cc in omega arith)
pin_by false false c word x y z e = absurd (let o : ◌≡◌ {A = ℕ} 0 1 = cc in omega arith)
pin_by false true false word x y z e = absurd (let o : ◌≡◌ {A = ℕ} 0 1 = cc in omega arith)
pin_by false true true word x y z e =
    let low = ltb-false (word / 256) 196632 x in
    let high = ltb-true (word / 256) 196636 y in
    let small = ltb-true (word % 256) 2 z in
    record { low = omega arith; high = omega arith; same = rw (num_level (word % 256) small) (omega arith) }

pin_word_lem : (word : ℕ) → is_pin word ≡ true → PinWord word
unfolding is_pin
pin_word_lem word e = pin_by _ _ _ word refl refl refl e

abbrev pin_words : Bool → ℕ → List ℕ
pin_words b word = pick b (word ∷ []) []

pins_by : (b : Bool) (word t c : ℕ) (ls : List Line) (ws : List ℕ) → is_pin word ≡ b → Says t c ls ws
    → Says t c (pick b (pin (eqb (word % 256) 1) (word / 256 - 196608) ∷ []) [] ++ ls) (pin_words b word ++ ws)
unfolding items_of level_words
pins_by true word t c ls ws e s =
    let w = pin_word_lem word e in
    rw w.same at (m_change (state (eqb (word % 256) 1)) (pins_known (word / 256 - 196608) w.low w.high) s)
pins_by false word t c ls ws e s = s

pins_say : (word t c : ℕ) (ls : List Line) (ws : List ℕ) → Says t c ls ws → Says t c (pin_lines word ++ ls) (pin_words (is_pin word) word ++ ws)
unfolding pin_lines
pins_say word t c ls ws s = pins_by (is_pin word) word t c ls ws refl s

-- ---- clocks

at_most_by : (b : Bool) (top x : ℕ) → ltb x top ≡ b → x ≤ top → pick b x top ≡ x
at_most_by true top x e h = refl
at_most_by false top x e h = let far = ltb-false x top e in omega arith

at_most_lem : (top x : ℕ) → x ≤ top → at_most top x ≡ x
unfolding at_most
at_most_lem top x h = at_most_by (ltb x top) top x refl h

-- a number one too large, and one more
at_most_next : (top x : ℕ) → x ≤ top + 1 → x ≤ at_most top x + 1
unfolding at_most
at_most_next top x h = next_by (ltb x top) refl
  where
    next_by : (b : Bool) → ltb x top ≡ b → x ≤ pick b x top + 1
    next_by true e = omega arith
    next_by false e = omega arith

at_most_top : (top x : ℕ) → at_most top x ≤ top
unfolding at_most
at_most_top top x = top_by (ltb x top) refl
  where
    top_by : (b : Bool) → ltb x top ≡ b → pick b x top ≤ top
    top_by true e = let less = ltb-true x top e in omega arith
    top_by false e = omega arith

-- where the time is that of the clocks
record Held (w : Writer) : Type 0 where
  since : w.since ≤ 7999
  clocks : w.clocks ≤ 2305843009212

time_held : (w : Writer) → Held w → time_of w ≡ w.clocks * 8000 + w.since
unfolding time_of
time_held w h = rw (at_most_lem 2305843009212 w.clocks h.clocks, at_most_lem 7999 w.since h.since) refl

clocks_of_lem : (w : Writer) → Held w → clocks_by (time_of w) 1000 ≡ w.clocks
clocks_of_lem w h = rw (time_held w h) (omega (arith, h.since))

fits : (w : Writer) → Held w → time_of w * 1000 < 18446744073709551616
fits w h = rw (time_held w h) (omega (arith, h.since, h.clocks))

time_said : (n k t c : ℕ) (ls : List Line) (ws : List ℕ) → clocks_by n 1000 ≡ k → n < 18446744073709551616 → t ≤ n → n * 1000 < 18446744073709551616 → Says n k ls ws
    → Says t c (time n ∷ ls) (replicate (k - c) clock_word ++ ws)
unfolding items_of
time_said n k t c ls ws e b l f s =
    let rest : Says n (clocks_by n 1000) ls ws = rw e s in
    let all : Says t c (time n ∷ ls) (replicate (clocks_by n 1000 - c) clock_word ++ ws) = m_time (decimal_read n b) l f rest in
    rw e at all

time_says : (w : Writer) (t c : ℕ) (ls : List Line) (ws : List ℕ) → Held w → t ≤ time_of w → Says (time_of w) w.clocks ls ws
    → Says t c (time (time_of w) ∷ ls) (replicate (w.clocks - c) clock_word ++ ws)
time_says w t c ls ws h l s = time_said (time_of w) w.clocks t c ls ws (clocks_of_lem w h) (omega (arith, fits w h)) l (fits w h) s

one_more : (n : ℕ) (ws : List ℕ) → replicate (suc n) clock_word ++ ws ≡ replicate n clock_word ++ (clock_word ∷ ws)
one_more zero ws = refl
one_more (suc n) ws = ap (λ (l : List ℕ). clock_word ∷ l) (one_more n ws)

-- ---- an event

-- what a reader that is to give ws after the writer's last event gives from any earlier moment on
abbrev Ahead : Writer → List Line → List ℕ → Type 0
Ahead w ls ws = (t c : ℕ) → c ≤ w.clocks → t ≤ time_of w → Says t c ls (replicate (w.clocks - c) clock_word ++ ws)

changes_say : (w : Writer) (word : ℕ) (old new : Watch) (t c : ℕ) (ls : List Line) (ws : List ℕ) → Held w → t ≤ time_of w → Ahead w ls ws
    → Says t c (change_lines (time_of w) word old new ++ ls) (replicate (w.clocks - c) clock_word ++ (pin_words (is_pin word) word ++ ws))
changes_say w word old new t c ls ws h l a =
    let z : w.clocks - w.clocks ≡ 0 = omega arith in
    rw (append_assoc (pin_lines word) (watch_lines old new) ls)
    (time_says w t c _ _ h l
    (pins_say word (time_of w) w.clocks _ ws (watch_says old new (time_of w) w.clocks ls ws (rw z at (a (time_of w) w.clocks (omega arith) (omega arith))))))

either : (p q : Bool) (w : Writer) (word : ℕ) (old new : Watch) (t c : ℕ) (ls : List Line) (ws : List ℕ) → is_pin word ≡ p → Held w → c ≤ w.clocks → t ≤ time_of w → Ahead w ls ws
    → Says t c (pick p (change_lines (time_of w) word old new) (pick q [] (change_lines (time_of w) word old new)) ++ ls)
    (replicate (w.clocks - c) clock_word ++ (pin_words p word ++ ws))
either true q w word old new t c ls ws e h k l a = rw e at (changes_say w word old new t c ls ws h l a)
either false true w word old new t c ls ws e h k l a = a t c k l
either false false w word old new t c ls ws e h k l a = rw e at (changes_say w word old new t c ls ws h l a)

-- what a word does to the writer
record Moves (w next : Writer) (word : ℕ) (ws : List ℕ) : Type 0 where
  since : next.since ≤ 7999
  up : w.clocks ≤ next.clocks
  most : next.clocks ≤ w.clocks + 1
  later : w.clocks * 8000 + w.since ≤ next.clocks * 8000 + next.since
  told : (c : ℕ) → c ≤ w.clocks → replicate (next.clocks - c) clock_word ++ (pin_words (is_pin word) word ++ ws) ≡ replicate (w.clocks - c) clock_word ++ pick (is_kept word) (word ∷ ws) ws

no_pin : is_pin clock_word ≡ false
unfolding is_pin
no_pin = refl

pin_told : (b : Bool) (word : ℕ) (ws : List ℕ) → pin_words b word ++ ws ≡ pick b (word ∷ ws) ws
pin_told true word ws = refl
pin_told false word ws = refl

moves_by_lem : (b : Bool) (w : Writer) (word : ℕ) (watch : Watch) (ws : List ℕ) (n s : ℕ) → eqb word clock_word ≡ b → w.since ≤ 7999 → n ≡ w.clocks + 1 → w.since ≤ s → s ≤ 7999
    → Moves w (pick b (writer_at n 0 watch) (writer_at w.clocks s watch)) word ws
moves_by_lem true w word watch ws n s e h i j k =
    let v = eqb-true word clock_word e in
    record {
      since = omega arith;
      up = omega arith;
      most = omega arith;
      later = omega arith;
      told = λ c o.
          let z : n - c ≡ suc (w.clocks - c) = omega arith in
          rw (v, no_pin, z) (one_more (w.clocks - c) ws);
    }
moves_by_lem false w word watch ws n s e h i j k =
    record { since = omega arith; up = omega arith; most = omega arith; later = omega arith; told = λ c o. rw (e, pin_told (is_pin word) word ws) refl }

moves : (w : Writer) (word : ℕ) (watch : Watch) (ws : List ℕ) → w.since ≤ 7999 → w.clocks < 2305843009212 → Moves w (moved w word watch) word ws
unfolding moved
moves w word watch ws h l =
    moves_by_lem (eqb word clock_word) w word watch ws (at_most 2305843009211 w.clocks + 1) (at_most 7998 w.since + 1) refl h
    (rw (at_most_lem 2305843009211 w.clocks (omega arith)) refl) (at_most_next 7998 w.since h) (omega (arith, at_most_top 7998 w.since))

event_says : (w next : Writer) (word : ℕ) (watch : Watch) (t c : ℕ) (ls : List Line) (ws : List ℕ) → next ≡ moved w word watch → Moves w next word ws → Held w → Held next → c ≤ w.clocks → t ≤ time_of w → Ahead next ls ws
    → Says t c (event_lines w word watch ++ ls) (replicate (w.clocks - c) clock_word ++ pick (is_kept word) (word ∷ ws) ws)
unfolding event_lines
event_says w next word watch t c ls ws e m g h k l a =
    rw (← (m.told c k), ← e)
    (either (is_pin word) (same_watch w.watch watch) next word w.watch watch t c ls ws refl h (omega (arith, m.up)) (omega (arith, m.later, time_held w g, time_held next h)) a)

-- ---- a list of events

none_said : {t c : ℕ} → Says t c [] []
unfolding items_of
none_said = m_none

all_say : (es : List Event) (w : Writer) → w.since ≤ 7999 → w.clocks + length es ≤ 2305843009212 → Ahead w (lines w es ++ end_lines (after w es)) (kept (words_of es))
unfolding lines after words_of kept
all_say [] w h n t c k l = time_says w t c [] [] (record { since = h; clocks = omega arith }) l none_said
all_say (e ∷ es) w h n t c k l =
    let m = moves w e.word e.watch (kept (words_of es)) h (omega arith) in
    rw (append_assoc (event_lines w e.word e.watch))
    (event_says w (moved w e.word e.watch) e.word e.watch t c _ (kept (words_of es)) refl m (record { since = h; clocks = omega arith })
    (record { since = m.since; clocks = omega (arith, m.most) }) k l
    (all_say es (moved w e.word e.watch) m.since (omega (arith, m.most))))

-- ---- the dump

one_bit : (high : Bool) → is_vector ((48 + num high) ∷ []) ≡ true
unfolding is_vector all_states four_state
one_bit true = refl
one_bit false = refl

first_one : (high : Bool) (p t c : ℕ) (ls : List Line) (ws : List ℕ) → 24 ≤ p → p < 28 → Says t c ls ws → Says t c (first high p ∷ ls) ws
unfolding items_of
first_one high p t c ls ws h l s = m_vector l_b (one_bit high) (pins_known p h l) s

first_say : (pins : ℕ) (ls : List Line) (ws : List ℕ) → Says 0 0 ls ws → Says 0 0 (first_lines pins ++ ls) ws
unfolding first_lines
first_say pins ls ws s =
    first_one _ 24 0 0 _ ws (omega arith) (omega arith) (first_one _ 25 0 0 _ ws (omega arith) (omega arith)
    (first_one _ 26 0 0 _ ws (omega arith) (omega arith) (first_one _ 27 0 0 _ ws (omega arith) (omega arith) s)))

begin_says : (pins : ℕ) (watch : Watch) (ls : List Line) (ws : List ℕ) → Says 0 0 ls ws → Says 0 0 (begin_lines pins watch ++ ls) ws
unfolding begin_lines
begin_says pins watch ls ws s =
    rw (append_assoc (first_lines pins) (watch_lines (opposite watch) watch) ls)
    (time_said 0 0 0 0 (first_lines pins ++ (watch_lines (opposite watch) watch ++ ls)) ws (omega arith) (omega arith) (omega arith) (omega arith)
    (first_say pins _ ws (watch_says (opposite watch) watch 0 0 ls ws s)))

whole : (pins : ℕ) (watch : Watch) (es : List Event) → length es ≤ 2305843009212 → Says 0 0 (dump_lines pins watch es) (kept (words_of es))
unfolding dump_lines
whole pins watch es n = begin_says pins watch _ _ (all_say es (fresh watch) (omega arith) (omega arith) 0 0 (omega arith) (omega arith))

-- the trace of the written dump refuses nothing, and its words are the clocks and the pins' levels of the replay, in their order
pub read_back : (pins : ℕ) (watch : Watch) (es : List Event) → length es ≤ 2305843009212 → Accepted (trace_of (dump pins watch es)) (kept (words_of es))
unfolding dump
read_back pins watch es n =
    dump_read header (items_of (dump_lines pins watch es)) (header_text ++ (10 ∷ text (dump_lines pins watch es))) 1000 variables (kept (words_of es)) (dump_spells (dump_lines pins watch es)) header_declares (omega arith) (whole pins watch es n)
