-- The premises one by one are those of `several-transfers`: where none fails the runs agree.
use Prim.Native.Nat.{ℕ}
use mathlib.Core.Path.{◌≡◌, refl, ap, sym}
use mathlib.Core.List.{List, [], ◌∷◌}
use mathlib.Core.Bool.{Bool, true, false, not, ◌&&◌, ◌||◌, beq, true≢false}
use native.Mathlib.Omega.{arith}
use lib.Dec.{eqb}
use lib.ListN.{length}
use borrow.Author.Tests.{eqb-true}
use Rattle.bits.specs.Byte.{pick}
use Rattle.bits.proofs.Finite.{both}
use Rattle.std.specs.Prelude.{Ok, Err}
use Rattle.events.specs.Pins as pin
use Rattle.events.specs.Decoded.{Decoded}
use Rattle.events.specs.declared.Event.TheVariants.{Read, Write, Pin, Clock, Polarity}
use Rattle.events.specs.Word.{decode}
use Rattle.bus.specs.declared.Mode.{Mode}
use Rattle.bus.specs.declared.Mode.TheVariants.{Off, Ddc1, Ddc2b}
use Rattle.bus.specs.declared.Phase.{Phase}
use Rattle.bus.specs.declared.Phase.TheVariants.{Idle, Address, Addressed, Ignoring, Receive, Transmit, Held}
use Rattle.chip.specs.declared.Chip.{Chip}
use Rattle.chip.specs.State.{mode_of}
use Rattle.chip_well_formed.specs.WellFormed.{is_idle}
use Rattle.isolation_laws.specs.Foreign.{same_but_sda, alike, Trace, Observer, observer_of, accepted, turns_off, asks_ddc1, scl_rises, completes_match, reset_falls, observe, permitted, untouched, throughout, equal_at_high, equal_throughout, SeveralTransfers, CallsAgree, Begun, start_seen, bus_idle}
use Rattle.list_call.specs.Run.{run}
use Rattle.isolation_laws.proofs.Theorems.{several_transfers, several_transfers_called}
use Rattle.isolation_cases.specs.Premises.{Pair, Premise, is_ddc2b, begun, trace_at, observer_at, equally_long, same_words, keeps_on, keeps_ddc2b, matches_none, keeps_reset, watchdog_waits, in_both, alongside, same_event, equal_before, premises, holds, failing_of, failing, Agreeing, in_ddc2b_lem, start_or_idle, equal_lengths, equal_words, ddc_on_lem, no_ddc1, no_match, no_reset, no_watchdog, same_events, equal_sda}

-- ---- the first state

ddc2b_of : (m : Mode) → is_ddc2b m ≡ true → m ≡ Ddc2b
ddc2b_of Off h = absurd (true≢false (sym h))
ddc2b_of Ddc1 h = absurd (true≢false (sym h))
ddc2b_of Ddc2b h = refl

start_of : (count bits : ℕ) → count ≡ 0 → bits ≡ 0 → Begun (Address count bits) (trace_at (Address count bits))
unfolding is_idle
start_of count bits e e' = rw (e, e') start_seen

begun_of_lem : (q : Phase) → begun q ≡ true → Begun q (trace_at q)
unfolding is_idle
begun_of_lem Idle h = bus_idle
begun_of_lem (Address count bits) h = start_of count bits (eqb-true count 0 (both (eqb count 0) _ h).0) (eqb-true bits 0 (both (eqb count 0) _ h).1)
begun_of_lem (Addressed matched bits ninth) h = absurd (true≢false (sym h))
begun_of_lem Ignoring h = absurd (true≢false (sym h))
begun_of_lem (Receive matched count bits) h = absurd (true≢false (sym h))
begun_of_lem (Transmit matched count byte) h = absurd (true≢false (sym h))
begun_of_lem (Held matched clocks) h = absurd (true≢false (sym h))

-- ---- the two lists

alike_of : (ws vs : List ℕ) → equally_long ws vs ≡ true → same_words ws vs ≡ true → alike ws vs ≡ true
alike_of [] [] h k = refl
alike_of [] (v ∷ vs) h k = h
alike_of (w ∷ ws) [] h k = h
alike_of (w ∷ ws) (v ∷ vs) h k = rw (both (same_but_sda w v) _ k).0 (alike_of ws vs h (both (same_but_sda w v) _ k).1)

-- ---- each run by itself

-- the five tests at an event
record Kept (o : Observer) (e : Decoded) : Type 0 where
  on : keeps_on o e ≡ true
  ddc2b : keeps_ddc2b o e ≡ true
  foreign : matches_none o e ≡ true
  reset : keeps_reset o e ≡ true
  watchdog : watchdog_waits o e ≡ true

pins_permitted : (scl reset match falls : Bool) → not (scl && match) ≡ true → not (reset && falls) ≡ true → pick scl (not match) (pick reset (not falls) true) ≡ true
pins_permitted true reset match falls h k = h
pins_permitted false true match falls h k = k
pins_permitted false false match falls h k = refl

permitted_of : (o : Observer) (e : Decoded) → Kept o e → permitted o e ≡ true
unfolding permitted keeps_on keeps_ddc2b matches_none keeps_reset watchdog_waits
permitted_of o (Ok (Read a)) k = refl
permitted_of o (Ok (Write a b)) k = rw (k.on, k.ddc2b)
permitted_of o (Ok (Pin p level)) k = pins_permitted (eqb p pin.SCL) (eqb p pin.RESET) _ _ k.foreign k.reset
permitted_of o (Ok (Clock n)) k = k.watchdog
permitted_of o (Ok (Polarity vertical level)) k = refl
permitted_of o (Err r) k = refl

-- the five tests through a run
record KeptThroughout (o : Observer) (ws : List ℕ) : Type 0 where
  on : throughout keeps_on o ws ≡ true
  ddc2b : throughout keeps_ddc2b o ws ≡ true
  foreign : throughout matches_none o ws ≡ true
  reset : throughout keeps_reset o ws ≡ true
  watchdog : throughout watchdog_waits o ws ≡ true

kept_first : (o : Observer) (w : ℕ) (ws : List ℕ) → KeptThroughout o (w ∷ ws) → Kept o (decode w)
kept_first o w ws k =
    record {
      on = (both (keeps_on o (decode w)) _ k.on).0;
      ddc2b = (both (keeps_ddc2b o (decode w)) _ k.ddc2b).0;
      foreign = (both (matches_none o (decode w)) _ k.foreign).0;
      reset = (both (keeps_reset o (decode w)) _ k.reset).0;
      watchdog = (both (watchdog_waits o (decode w)) _ k.watchdog).0;
    }

kept_rest : (o : Observer) (w : ℕ) (ws : List ℕ) → KeptThroughout o (w ∷ ws) → KeptThroughout (observe o (decode w)) ws
kept_rest o w ws k =
    record {
      on = (both (keeps_on o (decode w)) _ k.on).1;
      ddc2b = (both (keeps_ddc2b o (decode w)) _ k.ddc2b).1;
      foreign = (both (matches_none o (decode w)) _ k.foreign).1;
      reset = (both (keeps_reset o (decode w)) _ k.reset).1;
      watchdog = (both (watchdog_waits o (decode w)) _ k.watchdog).1;
    }

permitted_throughout : (o : Observer) (ws : List ℕ) → KeptThroughout o ws → throughout permitted o ws ≡ true
permitted_throughout o [] k = refl
permitted_throughout o (w ∷ ws) k = rw (permitted_of o (decode w) (kept_first o w ws k)) (permitted_throughout (observe o (decode w)) ws (kept_rest o w ws k))

-- ---- SDA while SCL is high

high_by : (free same equal : Bool) → (free || same) ≡ true → (free || equal) ≡ true → (free || (same && equal)) ≡ true
high_by true same equal h k = refl
high_by false same equal h k = rw (h, k)

equal_throughout_lem : (o p : Observer) (ws vs : List ℕ) → alongside same_event o p ws vs ≡ true → alongside equal_before o p ws vs ≡ true → equal_throughout o p ws vs ≡ true
equal_throughout_lem o p [] vs h k = refl
equal_throughout_lem o p (w ∷ ws) [] h k = refl
equal_throughout_lem o p (w ∷ ws) (v ∷ vs) h k =
    let here : equal_at_high o p w v ≡ true = high_by (untouched o (decode w)) (eqb w v) (beq o.sda p.sda) (both (same_event o p w v) _ h).0 (both (equal_before o p w v) _ k).0 in
    rw here (equal_throughout_lem (observe o (decode w)) (observe p (decode v)) ws vs (both (same_event o p w v) _ h).1 (both (equal_before o p w v) _ k).1)

-- ---- none fails

none_by : (k : Premise) (rest : List Premise) (t : Bool) → pick t rest (k ∷ rest) ≡ [] → (t ≡ true) × (rest ≡ [])
none_by k rest true h = (refl, h)
none_by k rest false h = absurd (let e : ◌≡◌ {A = ℕ} (length (k ∷ rest)) 0 = ap length h in omega arith)

-- the list has every premise
data Among : Premise → List Premise → Type 0 where
  here : {k : Premise} {ks : List Premise} → Among k (k ∷ ks)
  there : {k j : Premise} {ks : List Premise} → Among k ks → Among k (j ∷ ks)

among : (k : Premise) → Among k premises
among in_ddc2b_lem = here
among start_or_idle = there here
among equal_lengths = there (there here)
among equal_words = there (there (there here))
among ddc_on_lem = there (there (there (there here)))
among no_ddc1 = there (there (there (there (there here))))
among no_match = there (there (there (there (there (there here)))))
among no_reset = there (there (there (there (there (there (there here))))))
among no_watchdog = there (there (there (there (there (there (there (there here)))))))
among same_events = there (there (there (there (there (there (there (there (there here))))))))
among equal_sda = there (there (there (there (there (there (there (there (there (there here)))))))))

holds_of : {k : Premise} {ks : List Premise} (p : Pair) → Among k ks → failing_of p ks ≡ [] → holds p k ≡ true
holds_of p (here {k} {ks}) h = (none_by k (failing_of p ks) (holds p k) h).0
holds_of p (there {k} {j} {ks} a) h = holds_of p a (none_by j (failing_of p ks) (holds p j) h).1

pub every_holds : (p : Pair) → failing p ≡ [] → (k : Premise) → holds p k ≡ true
every_holds p h k = holds_of p (among k) h

-- the five tests in both runs
permitted_both : (p : Pair) → in_both keeps_on p ≡ true → in_both keeps_ddc2b p ≡ true → in_both matches_none p ≡ true → in_both keeps_reset p ≡ true → in_both watchdog_waits p ≡ true
    → (throughout permitted (observer_at p.first) p.left ≡ true) × (throughout permitted (observer_at p.first) p.right ≡ true)
permitted_both p a b c d e =
    let o : Observer = observer_at p.first in
    let on = both (throughout keeps_on o p.left) (throughout keeps_on o p.right) a in
    let ddc2b = both (throughout keeps_ddc2b o p.left) (throughout keeps_ddc2b o p.right) b in
    let foreign = both (throughout matches_none o p.left) (throughout matches_none o p.right) c in
    let reset = both (throughout keeps_reset o p.left) (throughout keeps_reset o p.right) d in
    let watchdog = both (throughout watchdog_waits o p.left) (throughout watchdog_waits o p.right) e in (
      permitted_throughout o p.left (record { on = on.0; ddc2b = ddc2b.0; foreign = foreign.0; reset = reset.0; watchdog = watchdog.0 }),
      permitted_throughout o p.right (record { on = on.1; ddc2b = ddc2b.1; foreign = foreign.1; reset = reset.1; watchdog = watchdog.1 }),
    )

-- the premises of `several-transfers`
record Presumed (p : Pair) : Type 0 where
  mode : mode_of p.first.core ≡ Ddc2b
  begin : Begun p.first.core.bus.phase (trace_at p.first.core.bus.phase)
  transfers : SeveralTransfers (observer_at p.first) (observer_at p.first) p.left p.right

presumed : (p : Pair) → ((k : Premise) → holds p k ≡ true) → Presumed p
presumed p h =
    let o : Observer = observer_at p.first in
    let runs = permitted_both p (h ddc_on_lem) (h no_ddc1) (h no_match) (h no_reset) (h no_watchdog) in
    record {
      mode = ddc2b_of (mode_of p.first.core) (h in_ddc2b_lem);
      begin = begun_of_lem p.first.core.bus.phase (h start_or_idle);
      transfers = record {
        words = alike_of p.left p.right (h equal_lengths) (h equal_words);
        left = runs.0;
        right = runs.1;
        sda = equal_throughout_lem o o p.left p.right (h same_events) (h equal_sda);
      };
    }

-- ---- and no more than those

reset_kept : (reset falls : Bool) → pick reset (not falls) true ≡ true → not (reset && falls) ≡ true
reset_kept true falls h = h
reset_kept false falls h = refl

pins_kept : (p : ℕ) (scl match falls : Bool) → eqb p pin.SCL ≡ scl → pick scl (not match) (pick (eqb p pin.RESET) (not falls) true) ≡ true
    → (not (scl && match) ≡ true) × (not (eqb p pin.RESET && falls) ≡ true)
pins_kept p true match falls e h = (h, rw (eqb-true p pin.SCL e) refl)
pins_kept p false match falls e h = (refl, reset_kept (eqb p pin.RESET) falls h)

kept_of : (o : Observer) (e : Decoded) → permitted o e ≡ true → Kept o e
unfolding permitted keeps_on keeps_ddc2b matches_none keeps_reset watchdog_waits
kept_of o (Ok (Read a)) h = record { on = refl; ddc2b = refl; foreign = refl; reset = refl; watchdog = refl }
kept_of o (Ok (Write a b)) h =
    let two = both (not (accepted o a && turns_off a b)) (not (accepted o a && asks_ddc1 a b)) h in
    record { on = two.0; ddc2b = two.1; foreign = refl; reset = refl; watchdog = refl }
kept_of o (Ok (Pin p level)) h =
    let two = pins_kept p (eqb p pin.SCL) (scl_rises o level && completes_match o.own o.sda o.trace) (reset_falls o level) refl h in
    record { on = refl; ddc2b = refl; foreign = two.0; reset = two.1; watchdog = refl }
kept_of o (Ok (Clock n)) h = record { on = refl; ddc2b = refl; foreign = refl; reset = refl; watchdog = h }
kept_of o (Ok (Polarity vertical level)) h = record { on = refl; ddc2b = refl; foreign = refl; reset = refl; watchdog = refl }
kept_of o (Err r) h = record { on = refl; ddc2b = refl; foreign = refl; reset = refl; watchdog = refl }

kept_throughout : (o : Observer) (ws : List ℕ) → throughout permitted o ws ≡ true → KeptThroughout o ws
kept_throughout o [] h = record { on = refl; ddc2b = refl; foreign = refl; reset = refl; watchdog = refl }
kept_throughout o (w ∷ ws) h =
    let one = kept_of o (decode w) (both (permitted o (decode w)) _ h).0 in
    let rest = kept_throughout (observe o (decode w)) ws (both (permitted o (decode w)) _ h).1 in
    record {
      on = rw one.on rest.on;
      ddc2b = rw one.ddc2b rest.ddc2b;
      foreign = rw one.foreign rest.foreign;
      reset = rw one.reset rest.reset;
      watchdog = rw one.watchdog rest.watchdog;
    }

alike_long : (ws vs : List ℕ) → alike ws vs ≡ true → equally_long ws vs ≡ true
alike_long [] [] h = refl
alike_long [] (v ∷ vs) h = h
alike_long (w ∷ ws) [] h = h
alike_long (w ∷ ws) (v ∷ vs) h = alike_long ws vs (both (same_but_sda w v) _ h).1

alike_same : (ws vs : List ℕ) → alike ws vs ≡ true → same_words ws vs ≡ true
alike_same [] vs h = refl
alike_same (w ∷ ws) [] h = refl
alike_same (w ∷ ws) (v ∷ vs) h = rw (both (same_but_sda w v) _ h).0 (alike_same ws vs (both (same_but_sda w v) _ h).1)

high_apart : (free same equal : Bool) → (free || (same && equal)) ≡ true → ((free || same) ≡ true) × ((free || equal) ≡ true)
high_apart true same equal h = (refl, refl)
high_apart false same equal h = both same equal h

high_throughout : (o p : Observer) (ws vs : List ℕ) → equal_throughout o p ws vs ≡ true → (alongside same_event o p ws vs ≡ true) × (alongside equal_before o p ws vs ≡ true)
high_throughout o p [] vs h = (refl, refl)
high_throughout o p (w ∷ ws) [] h = (refl, refl)
high_throughout o p (w ∷ ws) (v ∷ vs) h =
    let here = high_apart (untouched o (decode w)) (eqb w v) (beq o.sda p.sda) (both (equal_at_high o p w v) _ h).0 in
    let rest = high_throughout (observe o (decode w)) (observe p (decode v)) ws vs (both (equal_at_high o p w v) _ h).1 in
    (rw here.0 rest.0, rw here.1 rest.1)

begun_is : {q : Phase} {t : Trace} → Begun q t → begun q ≡ true
begun_is start_seen = refl
begun_is bus_idle = refl

begun_trace : {q : Phase} {t : Trace} → Begun q t → trace_at q ≡ t
unfolding is_idle
begun_trace start_seen = refl
begun_trace bus_idle = refl

-- by the step
pub none_failing : (p : Pair) → failing p ≡ [] → Agreeing p
none_failing p h = let k = presumed p (every_holds p h) in several_transfers p.first k.mode k.begin p.left p.right k.transfers

-- by two list calls that return 0, with the answer places xs and ys
pub none_failing_called : (p : Pair) → failing p ≡ [] → (xs ys : List ℕ) → (run p.first p.left xs).number ≡ 0 → (run p.first p.right ys).number ≡ 0
    → CallsAgree p.first p.left p.right xs ys
none_failing_called p h xs ys n n' = let k = presumed p (every_holds p h) in several_transfers_called p.first k.mode k.begin p.left p.right xs ys k.transfers n n'

-- the premises of `several-transfers` fail none of these
pub none_failing_of : (c : Chip) → mode_of c.core ≡ Ddc2b → {t : Trace} → Begun c.core.bus.phase t → (ws vs : List ℕ) → SeveralTransfers (observer_of c t) (observer_of c t) ws vs
    → failing (record { first = c; left = ws; right = vs }) ≡ []
none_failing_of c h {t} b ws vs p =
    let o : Observer = observer_of c t in
    let left = kept_throughout o ws p.left in
    let right = kept_throughout o vs p.right in
    let sda = high_throughout o o ws vs p.sda in
    rw (h, begun_is b, begun_trace b, alike_long ws vs p.words, alike_same ws vs p.words, left.on, left.ddc2b, left.foreign, left.reset, left.watchdog, right.on, right.ddc2b, right.foreign, right.reset, right.watchdog, sda.0, sda.1) refl
