-- Transfers that are not for this chip (document 01, "How tight each statement is"), by the step and by the list call.
use Prim.Native.Nat.{ℕ, ◌<◌}
use mathlib.Core.Path.{◌≡◌, refl, ap, sym, ◌∙◌}
use mathlib.Core.List.{List, [], ◌∷◌, ◌++◌}
use mathlib.Core.Bool.{Bool, true, false, and-false, true≢false}
use native.Mathlib.Omega.{arith}
use lib.Dec.{ltb}
use borrow.Author.Tests.{ltb-true}
use lib.ListN.{length, drop}
use Rattle.bits.specs.Byte.{pick}
use Rattle.bits.proofs.Finite.{both}
use Rattle.events.specs.Word.{decode}
use Rattle.bus.specs.declared.Mode.TheVariants.{Ddc2b}
use Rattle.bus.specs.declared.Phase.{Phase}
use Rattle.bus_ddc2b.specs.Ddc2b.{start_phase}
use Rattle.chip.specs.declared.Chip.{Chip}
use Rattle.chip.specs.State.{mode_of}
use Rattle.chip_well_formed.specs.WellFormed.{reserved_apart, well_formed}
use Rattle.step.specs.Step.{advance}
use Rattle.list_call.specs.Run.{advanced, advanced_answers, run_result, run, run_answers}
use Rattle.isolation_laws.specs.Foreign.{alike, Trace, since, Observer, observer_of, observe, untouched, throughout, equal_throughout, compared_answer, compared_answers, compared_state, OneTransfer, SeveralTransfers, RunsAgree, CallsAgree, Begun, start_seen, bus_idle}
use Rattle.isolation_laws.specs.Related.{Apart, idle, address, related, RelatedChips, chips}
use Rattle.isolation_laws.proofs.Runs.{advanced_agree, ill_formed_runs, run_agree}

-- ---- the first state

apart : {q : Phase} {t : Trace} → Begun q t → Apart q q t t
apart start_seen = address [] [] refl refl
apart bus_idle = idle

pub self_related : (c : Chip) → mode_of c.core ≡ Ddc2b → c.core.irqx < 256 → {t : Trace} → Begun c.core.bus.phase t → RelatedChips c c (observer_of c t) (observer_of c t)
self_related c h f b =
    let r = c.core in
    chips c.registers (related r r.reset r.scl r.sda r.sda r.bus.iidat r.bus.iidat (apart b) (record { ddc2b = h; address_bits_lem = refl; flags = f }))

-- ---- by the step

-- from an ill formed state no word is carried out: the lists need only be alike
pub ill_formed_transfer : (c : Chip) → well_formed c ≡ false → (ws vs : List ℕ) → alike ws vs ≡ true → RunsAgree c ws vs
ill_formed_transfer c k ws vs a =
    let ill = ill_formed_runs c c k k ws vs a in
    record { answers_agree = ill.0; states_agree = ap compared_state ill.1 ∙ sym (ap compared_state ill.2) }

-- IRQX of a well formed state is a byte
flags_by : (c : Chip) (t : Bool) → ltb c.core.irqx 64 ≡ t → well_formed c ≡ true → c.core.irqx < 256
unfolding well_formed reserved_apart
flags_by c true e k = omega (arith, ltb-true c.core.irqx 64 e)
flags_by c false e k = absurd (true≢false (sym (simp (e, and-false) at k)))

pub flags_lt : (c : Chip) → well_formed c ≡ true → c.core.irqx < 256
flags_lt c k = flags_by c _ refl k

several_by : (c : Chip) → mode_of c.core ≡ Ddc2b → {t : Trace} → Begun c.core.bus.phase t → (ws vs : List ℕ) → SeveralTransfers (observer_of c t) (observer_of c t) ws vs
    → (well : Bool) → well_formed c ≡ well → RunsAgree c ws vs
several_by c h b ws vs p true k = run_agree (self_related c h (flags_lt c k) b) ws vs p
several_by c h b ws vs p false k = ill_formed_transfer c k ws vs p.words

-- any number of transfers, from a START just seen or an idle bus
pub several_transfers : (c : Chip) → mode_of c.core ≡ Ddc2b → {t : Trace} → Begun c.core.bus.phase t → (ws vs : List ℕ) → SeveralTransfers (observer_of c t) (observer_of c t) ws vs
    → RunsAgree c ws vs
several_transfers c h b ws vs p = several_by c h b ws vs p (well_formed c) refl

-- SDA left alone while SCL is high is SDA moved equally there
untouched_equal : (o o' : Observer) (ws vs : List ℕ) → throughout untouched o ws ≡ true → equal_throughout o o' ws vs ≡ true
untouched_equal o o' [] vs h = refl
untouched_equal o o' (w ∷ ws) [] h = refl
untouched_equal o o' (w ∷ ws) (v ∷ vs) h =
    rw (both (untouched o (decode w)) _ h).0 (untouched_equal (observe o (decode w)) (observe o' (decode v)) ws vs (both (untouched o (decode w)) _ h).1)

several_of : {o : Observer} {ws vs : List ℕ} → OneTransfer o ws vs → SeveralTransfers o o ws vs
several_of {o} {ws} {vs} p = record { words = p.words; left = p.left; right = p.right; sda = untouched_equal o o ws vs p.sda }

started_at : {q : Phase} → q ≡ start_phase → Begun q (since [])
started_at h = rw h start_seen

-- a START just seen, and SDA left alone while SCL is high; SCL and RESET may have any level at the start
pub one_transfer : (c : Chip) → mode_of c.core ≡ Ddc2b → c.core.bus.phase ≡ start_phase → (ws vs : List ℕ) → OneTransfer (observer_of c (since [])) ws vs
    → RunsAgree c ws vs
one_transfer c h b ws vs p = several_transfers c h (started_at b) ws vs (several_of p)

-- ---- by the list call

-- answer places past the words are not compared
compared_append : (c : Chip) (ws xs : List ℕ) → compared_answers ws (advanced_answers c ws ++ xs) ≡ compared_answers ws (advanced_answers c ws)
compared_append c [] xs = refl
compared_append c (w ∷ ws) xs = ap (λ (l : List ℕ). compared_answer (decode w) (advance c (decode w)).answer ∷ l) (compared_append (advance c (decode w)).chip ws xs)

-- a list call that returns 0 leaves the run's state and answers
record Called (c d : Chip) (ws xs : List ℕ) : Type 0 where
  formed : well_formed c ≡ true
  state : d ≡ advanced c ws
  answer : compared_answers ws xs ≡ compared_answers ws (advanced_answers c ws)

called_by_lem : (c : Chip) (ws xs : List ℕ) (well short : Bool) → well_formed c ≡ well
    → (pick well (pick short (run_result c 7) (run_result (advanced c ws) 0)) (run_result c 8)).number ≡ 0
    → Called c (pick well (pick short (run_result c 7) (run_result (advanced c ws) 0)) (run_result c 8)).chip ws (pick well (pick short xs (advanced_answers c ws ++ drop (length ws) xs)) xs)
called_by_lem c ws xs true true k h = absurd (omega arith)
called_by_lem c ws xs true false k h = record { formed = k; state = refl; answer = compared_append c ws (drop (length ws) xs) }
called_by_lem c ws xs false short k h = absurd (omega arith)

called : (c : Chip) (ws xs : List ℕ) → (run c ws xs).number ≡ 0 → Called c (run c ws xs).chip ws (run_answers c ws xs)
unfolding run run_answers
called c ws xs h = called_by_lem c ws xs (well_formed c) (ltb (length xs) (length ws)) refl h

-- two list calls that return 0, with the answer places xs and ys
pub several_transfers_called : (c : Chip) → mode_of c.core ≡ Ddc2b → {t : Trace} → Begun c.core.bus.phase t → (ws vs xs ys : List ℕ) → SeveralTransfers (observer_of c t) (observer_of c t) ws vs
    → (run c ws xs).number ≡ 0 → (run c vs ys).number ≡ 0 → CallsAgree c ws vs xs ys
several_transfers_called c h b ws vs xs ys p n n' =
    let one = called c ws xs n in
    let other = called c vs ys n' in
    let both = advanced_agree (self_related c h (flags_lt c one.formed) b) ws vs p in
    record {
      answers_agree = one.answer ∙ both.answers_agree ∙ sym other.answer;
      states_agree = ap compared_state one.state ∙ both.states_agree ∙ sym (ap compared_state other.state);
    }

pub one_transfer_called : (c : Chip) → mode_of c.core ≡ Ddc2b → c.core.bus.phase ≡ start_phase → (ws vs xs ys : List ℕ) → OneTransfer (observer_of c (since [])) ws vs
    → (run c ws xs).number ≡ 0 → (run c vs ys).number ≡ 0 → CallsAgree c ws vs xs ys
one_transfer_called c h b ws vs xs ys p n n' = several_transfers_called c h (started_at b) ws vs xs ys (several_of p) n n'
