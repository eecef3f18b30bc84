-- Demand 3 for firmware by the words of the two lists alone, where the first run's CPU does not write II ADR.
use Prim.Native.Nat.{ℕ, ◌+◌}
use mathlib.Core.Path.{◌≡◌, refl, ap, sym, ◌∙◌}
use mathlib.Core.Bool.{Bool, true, false, not, true≢false, ◌&&◌}
use mathlib.Core.List.{List, [], ◌∷◌, ◌++◌}
use native.Mathlib.Omega.{arith}
use lib.Dec.{eqb, ltb}
use lib.ListN.{length, drop}
use borrow.Author.Tests.{not-true, eqb-true}
use Rattle.bits.specs.Byte.{pick}
use Rattle.bits.proofs.Finite.{both as both_true}
use Rattle.registers.specs.Names.{IIADR}
use Rattle.std.specs.Prelude.{Ok, Err}
use Rattle.events.specs.Word.{decode}
use Rattle.events.specs.Decoded.{Decoded}
use Rattle.events.specs.declared.Event.TheVariants.{Read, Write, Pin, Clock, Polarity}
use Rattle.bus.specs.declared.Mode.TheVariants.{Ddc2b}
use Rattle.chip.specs.declared.Chip.{Chip}
use Rattle.chip.specs.State.{mode_of}
use Rattle.chip_well_formed.specs.WellFormed.{well_formed}
use Rattle.cpu_operations.specs.declared.Cpu.{Cpu}
use Rattle.isolation_laws.specs.Foreign as words
use Rattle.isolation_laws.specs.Foreign.{Trace, Observer, observer_of, observe, permitted, touches_sda, same_but_sda, equal_at_high, Begun, reads_data, compared_answer, compared_answers}
use Rattle.cpu_instruction.specs.Program.{read_at, write_at}
use Rattle.firmware_machine.specs.Machine.{Machine, machine}
use Rattle.firmware_machine.specs.Run.{runs, number_of, word_of, firmware, is_well_formed}
use Rattle.firmware_isolation_laws.specs.Trace.{Entry, given, made, trace, events_of, words_of, answers_of}
use Rattle.firmware_isolation_laws.specs.Transfers.{same_event, alike_events, throughout, may_be_listed, equal_throughout, RunsAgree, CallsAgree}
use Rattle.firmware_isolation_laws.specs.Words.{exchanged, is_unaddressed, is_foreign_along, keeps_address, words_in, is_foreign_list, lists_no_data}
use Rattle.firmware_isolation_laws.proofs.Listed.{alike_within}
use Rattle.firmware_isolation_laws.proofs.Runs.{trace_answers, calling}
use Rattle.firmware_isolation_laws.proofs.Parts.{events_given}
use Rattle.firmware_isolation_laws.proofs.Along.{firmware_runs_along}
use Rattle.firmware_isolation_laws.proofs.Cleared.{throughout_cleared, equal_cleared, write_cleared}

-- ---- the tests of the words are those along the first run

permitted_along : (s : List Entry) (fs : List ℕ) (o : Observer) → keeps_address s ≡ true → words.throughout permitted o (words_in fs) ≡ true → throughout may_be_listed o (exchanged s fs) ≡ true
unfolding observe
permitted_along [] fs o u h = refl
permitted_along (given e x ∷ s) [] o u h = refl
permitted_along (given e x ∷ s) (f ∷ fs) o u h =
    let z = both_true (permitted o (decode (word_of f))) _ h in
    rw z.0 (permitted_along s fs (observe o (decode (word_of f))) u z.1)
permitted_along (made (read_at a l) ∷ s) fs o u h = permitted_along s fs o u h
permitted_along (made (write_at a b) ∷ s) fs o u h =
    let z = both_true (not (eqb a IIADR)) _ u in
    permitted_along s fs (observe o (Ok (Write a b))) z.1 (throughout_cleared (words_in fs) (write_cleared o a b (not-true (eqb a IIADR) z.0)) h)

equal_along : (s : List Entry) (fs : List ℕ) (o p : Observer) → keeps_address s ≡ true → words.equal_throughout o p (words_in (events_of s)) (words_in fs) ≡ true → equal_throughout o p s (exchanged s fs) ≡ true
unfolding observe
equal_along [] fs o p u h = refl
equal_along (given e x ∷ s) [] o p u h = refl
equal_along (given e x ∷ s) (f ∷ fs) o p u h =
    let z = both_true (equal_at_high o p (word_of e) (word_of f)) _ h in
    rw z.0 (equal_along s fs (observe o (decode (word_of e))) (observe p (decode (word_of f))) u z.1)
equal_along (made (read_at a l) ∷ s) fs o p u h = equal_along s fs o p u h
equal_along (made (write_at a b) ∷ s) fs o p u h =
    let z = both_true (not (eqb a IIADR)) _ u in
    let g = not-true (eqb a IIADR) z.0 in
    equal_along s fs (observe o (Ok (Write a b))) (observe p (Ok (Write a b))) z.1 (equal_cleared (words_in (events_of s)) (words_in fs) (write_cleared o a b g) (write_cleared p a b g) h)

-- the events of the first run are all given
pub foreign_along : (n : ℕ) (es fs : List ℕ) (o : Observer) (s : List Entry) → events_of s ≡ es → keeps_address s ≡ true → is_foreign_list es o fs ≡ true → is_foreign_along n es o s fs ≡ true
foreign_along n es fs o s e u h =
    let y = both_true (alike_events es fs) _ h in
    let z = both_true (words.throughout permitted o (words_in fs)) _ y.1 in
    rw (alike_within n es fs y.0, permitted_along s fs o u z.0, equal_along s fs o o u (rw (← e) at z.1))

-- ---- demand 3 by the words: n instructions from number i on

pub firmware_runs_words : (n i : ℕ) (rom : List ℕ) (m : Machine) → well_formed m.chip ≡ true → mode_of m.chip.core ≡ Ddc2b → {b : Trace} → Begun m.chip.core.bus.phase b → (es fs : List ℕ)
    → is_unaddressed (observer_of m.chip b) (trace n i rom es m) ≡ true → events_of (trace n i rom es m) ≡ es → keeps_address (trace n i rom es m) ≡ true
    → is_foreign_list es (observer_of m.chip b) fs ≡ true → RunsAgree (runs n i rom es m) (runs n i rom fs m) (trace n i rom es m) (trace n i rom fs m)
firmware_runs_words n i rom m well ddc2b {b} begun es fs q g u h =
    firmware_runs_along n i rom m well ddc2b begun es fs q (foreign_along (i + n) es fs (observer_of m.chip b) (trace n i rom es m) g u h)

-- two calls that are run, with the answer places xs and ys
pub firmware_calls_words : (c : Cpu) (ram rom : List ℕ) (k : Chip) (n : ℕ) → is_well_formed c k ≡ true → length rom ≡ 24576 → mode_of k.core ≡ Ddc2b → {b : Trace} → Begun k.core.bus.phase b
    → (es fs xs ys : List ℕ) → ltb (length xs) (length es) ≡ false → ltb (length ys) (length fs) ≡ false
    → is_unaddressed (observer_of k b) (trace n 0 rom es (machine c ram k)) ≡ true → events_of (trace n 0 rom es (machine c ram k)) ≡ es
    → keeps_address (trace n 0 rom es (machine c ram k)) ≡ true → is_foreign_list es (observer_of k b) fs ≡ true
    → CallsAgree (firmware c ram rom k es xs n) (firmware c ram rom k fs ys n) (trace n 0 rom es (machine c ram k)) (trace n 0 rom fs (machine c ram k))
firmware_calls_words c ram rom k n well whole ddc2b {b} begun es fs xs ys p p' q g u h =
    let chip_well = (both_true (ltb c.over 32) (well_formed k) well).1 in
    calling c ram rom k n well whole es fs xs ys p p' (firmware_runs_words n 0 rom (machine c ram k) chip_well ddc2b begun es fs q g u h)

-- ---- where no listed event reads II DAT, the answers are the same, whole

pub alike_length : (es fs : List ℕ) → alike_events es fs ≡ true → length es ≡ length fs
alike_length [] [] h = refl
alike_length [] (f ∷ fs) h = absurd (true≢false (sym h))
alike_length (e ∷ es) [] h = absurd (true≢false (sym h))
alike_length (e ∷ es) (f ∷ fs) h = let z = alike_length es fs (both_true (same_event e f) _ h).1 in omega (arith, z)

-- a word that touches SDA reads nothing
sda_unread : (e : Decoded) → touches_sda e ≡ true → reads_data e ≡ false
sda_unread (Ok (Read a)) h = absurd (true≢false (sym h))
sda_unread (Ok (Write a b)) h = refl
sda_unread (Ok (Pin a b)) h = refl
sda_unread (Ok (Clock a)) h = refl
sda_unread (Ok (Polarity a b)) h = refl
sda_unread (Err r) h = refl

word_unread : (w v : ℕ) (b : Bool) → eqb w v ≡ b → same_but_sda w v ≡ true → not (reads_data (decode w)) ≡ true → not (reads_data (decode v)) ≡ true
word_unread w v true e h g = rw (← (eqb-true w v e)) g
word_unread w v false e h g =
    let z : touches_sda (decode w) && touches_sda (decode v) ≡ true = rw e at h in
    rw (sda_unread (decode v) (both_true (touches_sda (decode w)) _ z).1)

alike_unread : (es fs : List ℕ) → alike_events es fs ≡ true → lists_no_data es ≡ true → lists_no_data fs ≡ true
alike_unread [] [] h g = refl
alike_unread [] (f ∷ fs) h g = absurd (true≢false (sym h))
alike_unread (e ∷ es) [] h g = refl
alike_unread (e ∷ es) (f ∷ fs) h g =
    let z = both_true (same_event e f) _ h in
    let w = both_true (eqb (number_of e) (number_of f)) (same_but_sda (word_of e) (word_of f)) z.0 in
    let y = both_true (not (reads_data (decode (word_of e)))) _ g in
    rw (word_unread (word_of e) (word_of f) (eqb (word_of e) (word_of f)) refl w.1 y.0) (alike_unread es fs z.1 y.1)

first_unread : (es fs : List ℕ) → lists_no_data (es ++ fs) ≡ true → lists_no_data es ≡ true
first_unread [] fs h = refl
first_unread (e ∷ es) fs h =
    let z = both_true (not (reads_data (decode (word_of e)))) _ h in
    rw z.0 (first_unread es fs z.1)

whole_answer : (e : Decoded) (x : ℕ) → not (reads_data e) ≡ true → compared_answer e x ≡ x
whole_answer e x h = rw (not-true (reads_data e) h)

whole_answers : (s : List Entry) → lists_no_data (events_of s) ≡ true → compared_answers (words_of s) (answers_of s) ≡ answers_of s
whole_answers [] h = refl
whole_answers (given e x ∷ s) h =
    let z = both_true (not (reads_data (decode (word_of e)))) _ h in
    rw (whole_answer (decode (word_of e)) x z.0) (ap (◌∷◌ x) (whole_answers s z.1))
whole_answers (made a ∷ s) h = whole_answers s h

answers_whole : (n i : ℕ) (rom es : List ℕ) (m : Machine) → eqb (runs n i rom es m).number 0 ≡ true → lists_no_data es ≡ true
    → compared_answers (words_of (trace n i rom es m)) (runs n i rom es m).answers ≡ (runs n i rom es m).answers
answers_whole n i rom es m h g =
    let s = trace n i rom es m in
    let l : lists_no_data (events_of s ++ drop (length (runs n i rom es m).answers) es) ≡ true = ap lists_no_data (events_given n i rom es m h) ∙ g in
    rw (← (trace_answers n i rom es m)) (whole_answers s (first_unread (events_of s) _ l))

pub answers_same : (n i : ℕ) (rom es fs : List ℕ) (m : Machine) → RunsAgree (runs n i rom es m) (runs n i rom fs m) (trace n i rom es m) (trace n i rom fs m)
    → (runs n i rom es m).number ≡ 0 → alike_events es fs ≡ true → lists_no_data es ≡ true → (runs n i rom es m).answers ≡ (runs n i rom fs m).answers
answers_same n i rom es fs m z e h g =
    let u : eqb (runs n i rom es m).number 0 ≡ true = ap (λ (x : ℕ). eqb x 0) e in
    let v : eqb (runs n i rom fs m).number 0 ≡ true = ap (λ (x : ℕ). eqb x 0) (sym z.number ∙ e) in
    sym (answers_whole n i rom es m u g) ∙ z.answers ∙ answers_whole n i rom fs m v (alike_unread es fs h g)
