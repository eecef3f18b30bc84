-- Clocks and changes come in the order of time, a clock before the changes of its time, and in the file's order: `trace-ordered`.
-- Assumes nothing.
use Rattle.vcd_text.specs.declared.NumberError.TheVariants.{Bad, Big}
use Rattle.std.specs.Prelude.{Ok, Err}
use Rattle.vcd_text.specs.Token.{Number}
use mathlib.Core.Bool.{Bool, true, false}
use mathlib.Core.Path.{◌≡◌, refl, sym, ap, ◌∙◌}
use mathlib.Core.List.{List, [], ◌∷◌, ◌++◌}
use Prim.Native.Nat.{ℕ, zero, suc, ◌+◌, ◌-◌, ◌*◌, ◌/◌, ◌<◌, ◌≤◌}
use native.Mathlib.Omega.{arith}
use native.Mathlib.Nat.{mul-le-mul_right}
use lib.ListN.{length, take, drop}
use lib.Dec.{ltb, eqb}
use borrow.Author.Tests.{ltb-false}
use Rattle.bits.specs.Byte.{pick}
use Rattle.vcd_text.specs.Token.{Token, white, word_length, tokens, same_bytes, end_word}
use Rattle.vcd_output.specs.Room.{clock_word, pin_word}
use Rattle.vcd_codes.specs.Codes.{Found, undeclared, declared, find}
use Rattle.vcd_items.specs.declared.Item.{Item}
use Rattle.vcd_items.specs.declared.Item.TheVariants as item
use Rattle.vcd_items.specs.Items.{item_of}
use Rattle.vcd_steps.specs.declared.Mode.{Mode}
use Rattle.vcd_steps.specs.declared.Mode.TheVariants.{Plain, Code, Comment}
use Rattle.vcd_steps.specs.declared.State.{State}
use Rattle.vcd_steps.specs.Events.{Event, event, clocks_by, clock_events, pin_events}
use Rattle.vcd_steps.specs.Steps.{Effect, refuse, proceed, at_time, advanced, time_as, time_of, change_of, code_of, dump_of, end_of, comment_of, commented, item_step}
use Rattle.vcd_body.specs.Trace.{Trace, stopped, carried, token_as, token, body}
use Rattle.vcd_body.specs.Pieces.{fresh_state}
use Rattle.vcd.specs.Header.{Heading, header_of}
use Rattle.vcd.specs.Call.{body_tokens, trace_by, trace_of}
use Rattle.vcd_laws.specs.Order.{rank, Ordered, none, next}

-- ---- tokens come in the order of their places

pub data Rising : ℕ → List Token → Type 0 where
  rising_none : {p : ℕ} → Rising p []
  rising_more : {p : ℕ} {t : Token} {ts : List Token} → p ≤ t.place → Rising t.place ts → Rising p (t ∷ ts)

rising_step : (p i : ℕ) (b : ℕ) (rest : List ℕ) (within w : Bool) → p ≤ i → Rising p (tokens false (suc i) rest) → Rising p (tokens true (suc i) rest) → Rising i (tokens true (suc i) rest)
    → Rising p (pick w (tokens false (suc i) rest) (pick within (tokens true (suc i) rest) (record { place = i; bytes = b ∷ take (word_length rest) rest } ∷ tokens true (suc i) rest)))
rising_step p i b rest within true h x y z = x
rising_step p i b rest true false h x y z = y
rising_step p i b rest false false h x y z = rising_more h z

pub tokens_rise : (bs : List ℕ) (p i : ℕ) (within : Bool) → p ≤ i → Rising p (tokens within i bs)
unfolding tokens
tokens_rise [] p i within h = rising_none
tokens_rise (b ∷ rest) p i within h =
    rising_step p i b rest within (white b) h (tokens_rise rest p (suc i) false (omega arith)) (tokens_rise rest p (suc i) true (omega arith)) (tokens_rise rest i (suc i) true (omega arith))

-- ---- the events of one token

module _ (scale : ℕ) where
  -- no event up to the state's time has a higher rank
  abbrev top : State → ℕ
  top s = s.time * scale * 2 + 1

  -- the clocks given are those up to the state's time
  abbrev Counted : State → Type 0
  Counted s = s.clocks ≡ s.time * scale / 8000000

  -- what may follow the events of a token at p that lead to the state s
  abbrev Follows : State → ℕ → List Event → Type 0
  Follows s p rest = (r q : ℕ) → r ≤ top s → q ≤ p → Ordered r q rest

  pub data Leads (s : State) (p : ℕ) : Effect → Type 0 where
    leads_refuse : {n q : ℕ} → Leads s p (refuse n q)
    leads_on : {after : State} {events : List Event} → Counted after
        → ((rest : List Event) (r q : ℕ) → r ≤ top s → q ≤ p → Follows after p rest → Ordered r q (events ++ rest)) → Leads s p (proceed after events)

  -- as many clocks as there are up to a time
  clocks_lead : (p k n limit : ℕ) (rest : List Event) (r q : ℕ) → (k + n) * 8000000 ≤ limit → r ≤ (k + 1) * 8000000 * 2 → r ≤ limit * 2 + 1 → q ≤ p
      → ((r' q' : ℕ) → r' ≤ limit * 2 + 1 → q' ≤ p → Ordered r' q' rest) → Ordered r q (clock_events p k n ++ rest)
  unfolding clock_events
  clocks_lead p k zero limit rest r q h a b c f = f r q b c
  clocks_lead p k (suc n) limit rest r q h a b c f =
      next {r = r} {p = q} {e = event true p ((k + 1) * 8000000) clock_word} (omega arith) c (clocks_lead p (k + 1) n limit rest (rank (event true p ((k + 1) * 8000000) clock_word)) p (omega arith) (omega arith) (omega arith) (omega arith) f)

  pins_lead : (p t : ℕ) (high : Bool) (pins : List ℕ) (rest : List Event) (r q : ℕ) → r ≤ t * 2 + 1 → q ≤ p
      → ((r' q' : ℕ) → r' ≤ t * 2 + 1 → q' ≤ p → Ordered r' q' rest) → Ordered r q (pin_events p t high pins ++ rest)
  unfolding pin_events
  pins_lead p t high [] rest r q a b f = f r q a b
  pins_lead p t high (pin ∷ pins) rest r q a b f = next {r = r} {p = q} {e = event false p t (pin_word high pin)} a b (pins_lead p t high pins rest (t * 2 + 1) p (omega arith) (omega arith) f)

  module _ (s : State) (p : ℕ) (counted : Counted s) where
    silent : (after : State) → after.time ≡ s.time → after.clocks ≡ s.clocks → Leads s p (proceed after [])
    silent after t k = leads_on {after = after} {events = []} (rw (t, k) counted) (λ rest r q a b f. f r q (rw t a) b)

    either_leads : (b : Bool) (x y : Effect) → Leads s p x → Leads s p y → Leads s p (pick b x y)
    either_leads true x y a b = a
    either_leads false x y a b = b

    later_leads : (time : ℕ) → s.time ≤ time → Leads s p (proceed (at_time s time (clocks_by time scale)) (clock_events p s.clocks (clocks_by time scale - s.clocks)))
    later_leads time h =
        let grows : s.time * scale ≤ time * scale = mul-le-mul_right scale h in
        leads_on refl
        (λ rest r q a b f.
        clocks_lead p s.clocks (clocks_by time scale - s.clocks) (time * scale) rest r q (omega (arith, grows, counted)) (omega (arith, counted)) (omega (arith, grows)) b f)

    advance_leads : (time : ℕ) (b : Bool) → ltb time s.time ≡ b
        → Leads s p (pick b (refuse 41 p)
        (pick (ltb (time * scale) 18446744073709551616) (proceed (at_time s time (clocks_by time scale)) (clock_events p s.clocks (clocks_by time scale - s.clocks))) (refuse 44 p)))
    advance_leads time true e = leads_refuse
    advance_leads time false e =
        let h : s.time ≤ time = ltb-false time s.time e in
        either_leads (ltb (time * scale) 18446744073709551616) _ _ (later_leads time h) leads_refuse

    number_leads : (n : Number) → Leads s p (time_as n scale s p)
    unfolding time_as advanced
    number_leads (Err Bad) = leads_refuse
    number_leads (Err Big) = leads_refuse
    number_leads (Ok n) = advance_leads n (ltb n s.time) refl

    change_leads : (f : Found) (high : Bool) → Leads s p (change_of f high scale s p)
    unfolding change_of
    change_leads undeclared high = leads_refuse
    change_leads (declared pins) high = leads_on counted (λ rest r q a b f. pins_lead p (s.time * scale) high pins rest r q a b f)

    item_leads : (i : Item) (f : Found) → Leads s p (item_step i f scale s p)
    unfolding item_step time_of dump_of end_of comment_of
    item_leads (item.Scalar high) f = change_leads f high
    item_leads item.Value f = silent _ refl refl
    item_leads (item.Time n) f = either_leads s.inside _ _ leads_refuse (either_leads (eqb scale 0) _ _ leads_refuse (number_leads n))
    item_leads item.Dump f = either_leads s.inside _ _ leads_refuse (silent _ refl refl)
    item_leads item.End f = either_leads s.inside _ _ (silent _ refl refl) leads_refuse
    item_leads item.Comment f = either_leads s.inside _ _ leads_refuse (silent _ refl refl)
    item_leads item.Bad f = leads_refuse

    code_leads : (f : Found) → Leads s p (code_of f s)
    unfolding code_of
    code_leads undeclared = leads_refuse
    code_leads (declared pins) = silent _ refl refl

    comment_leads : (b : Bool) → Leads s p (commented b s)
    unfolding commented
    comment_leads true = silent _ refl refl
    comment_leads false = silent _ refl refl

    token_leads : (look : List ℕ → Found) (m : Mode) (t : List ℕ) → Leads s p (token_as look scale m s t p)
    unfolding token_as
    token_leads look Plain t = item_leads (item_of t) (look (drop 1 t))
    token_leads look Code t = code_leads (look t)
    token_leads look Comment t = comment_leads (same_bytes t end_word)

  -- ---- the tokens one after the other

  effect_ordered : (look : List ℕ → Found) (s : State) (p : ℕ) (ts : List Token) (e : Effect) → Leads s p e
      → ((n : State) (r q : ℕ) → Counted n → r ≤ top n → q ≤ p → Ordered r q (body look scale n ts).events)
      → (r q : ℕ) → r ≤ top s → q ≤ p → Ordered r q (carried e (λ (n : State). body look scale n ts)).events
  unfolding carried
  effect_ordered look s p ts (refuse n q) leads_refuse ih r q' a b = none
  effect_ordered look s p ts (proceed after events) (leads_on c f) ih r q a b = f (body look scale after ts).events r q a b (λ r' q' a' b'. ih after r' q' c a' b')

  pub body_ordered : (look : List ℕ → Found) (ts : List Token) (s : State) (r q p : ℕ) → Rising p ts → Counted s → r ≤ top s → q ≤ p → Ordered r q (body look scale s ts).events
  unfolding body
  body_ordered look [] s r q p u c a b = none
  body_ordered look (t ∷ ts) s r q p (rising_more l u) c a b =
      effect_ordered look s t.place ts (token look scale s t) (token_leads s t.place c look s.mode t.bytes)
      (λ n r' q' c' a' b'. body_ordered look ts n r' q' t.place u c' a' b') r q a (omega arith)

-- ---- the trace of a file

no_time : (scale : ℕ) → 0 ≡ 0 * scale / 8000000
no_time scale = let z : 0 * scale ≡ 0 = omega arith in rw z refl

trace_by_lem : (text : List ℕ) (g : Heading) (b : Bool)
    → Ordered 0 0 (pick b (stopped g.head.close.number g.head.close.place) (body (find g.variables) g.head.unit.unit fresh_state (body_tokens text g.head.close.place))).events
trace_by_lem text g true = none
trace_by_lem text g false =
    body_ordered g.head.unit.unit (find g.variables) (body_tokens text g.head.close.place) fresh_state 0 0 0
    (tokens_rise (drop g.head.close.place text) 0 g.head.close.place false (omega arith)) (no_time g.head.unit.unit) (omega arith) (omega arith)

pub trace_ordered : (text : List ℕ) → Ordered 0 0 (trace_of text).events
unfolding trace_of trace_by
trace_ordered text = trace_by_lem text (header_of text) (ltb 0 (header_of text).head.close.number)
