-- A case agrees exactly where each of its lines can be read and the answers that it expects are those of the list call.
-- Assumes nothing.
use mathlib.Core.Path.{◌≡◌, refl, sym, ap, ◌∙◌}
use mathlib.Core.Bool.{Bool, true, false, not, ◌&&◌, true≢false}
use mathlib.Core.List.{List, [], ◌∷◌, ◌++◌}
use Prim.Native.Nat.{ℕ, zero, suc}
use lib.Dec.{eqb}
use lib.ListN.{drop, replicate}
use Rattle.bits.specs.Byte.{pick}
use Rattle.events.specs.Word.{decode}
use Rattle.chip.specs.declared.Chip.{Chip}
use Rattle.chip.specs.State.{fresh}
use Rattle.step.specs.Step.{advance}
use Rattle.list_call.specs.Run.{advanced_answers}
use Rattle.case_lines.specs.declared.Reader.{Reader}
use Rattle.case_lines.specs.declared.Given.{Given}
use Rattle.case_lines.specs.Line.{Entry, line_start, next, line_end}
use Rattle.case_run.specs.declared.Progress.{Progress}
use Rattle.std.specs.Prelude.{Option, Some, None, Result, Ok, Err}
use Rattle.case_run.specs.declared.Failure.{Failure}
use Rattle.case_run.specs.declared.Failure.TheVariants.{Malformed, Differs, Empty}
use Rattle.case_run.specs.Run.{goes, opened, stopped, meets, answered_as, given as give, given_at, repeated, next_line, line_done, entered, within, byte_taken, byte_read, read, concluded, closed}
use Rattle.case_run.proofs.Reading.{stays}
use Rattle.case_laws.specs.Cases.{entries_from, entries, given, meet_all, holds}

-- ---- a word given several times

-- how the repeated word ends: whether its answers meet what is expected, and if they do, what the answers after them are
abbrev Ends : ℕ → ℕ → Option ℕ → List ℕ → Progress → Progress → Type 0
Ends n word expected ws p q =
    (meet_all n expected (advanced_answers p.chip (replicate n word ++ ws)) ≡ goes q.failure)
    × (goes q.failure ≡ true → drop n (advanced_answers p.chip (replicate n word ++ ws)) ≡ advanced_answers q.chip ws)

agrees : goes None ≡ true
unfolding goes
agrees = refl

halts : (f : Failure) → goes (Some f) ≡ false
unfolding goes
halts f = refl

-- reading has stopped, and nothing else has changed
record Stops (p q : Progress) : Type 0 where
  failure : Failure
  same : q ≡ stopped p failure

meets_as : (p : Progress) (word : ℕ) (expected : Option ℕ) → meets expected (advance p.chip (decode word)).answer ≡ true
    → give p word expected ≡ answered_as p (advance p.chip (decode word))
unfolding give meets
meets_as p word None e = refl
meets_as p word (Some x) e = rw e refl

differs_as : (p : Progress) (word : ℕ) (expected : Option ℕ) → meets expected (advance p.chip (decode word)).answer ≡ false
    → Stops p (give p word expected)
unfolding give meets
differs_as p word None e = absurd (true≢false e)
differs_as p word (Some x) e = record { failure = Differs word x (advance p.chip (decode word)).answer; same = rw e refl }

module _ (word : ℕ) (expected : Option ℕ) where
  given_at_lem : (p : Progress) → goes p.failure ≡ true → given_at p word expected ≡ give p word expected
  unfolding given_at
  given_at_lem p g = rw (g) refl

  module _ (ws : List ℕ) where
    moved : (n : ℕ) (p q r : Progress) → q ≡ r → Ends n word expected ws p r → Ends n word expected ws p q
    moved n p q r e h = rw (e) h

    -- the first of them: its answer is as it must be, or not
    met : (n : ℕ) (p : Progress) → ((q : Progress) → goes q.failure ≡ true → Ends n word expected ws q (repeated n q word expected))
        → (t : Bool) → meets expected (advance p.chip (decode word)).answer ≡ t
        → Ends (suc n) word expected ws p (repeated n (give p word expected) word expected)
    unfolding meet_all
    met n p again true e =
        let q = answered_as p (advance p.chip (decode word)) in
        let h = again q agrees in
        moved (suc n) p _ _ (ap (λ (r : Progress). repeated n r word expected) (meets_as p word expected e)) (rw (e) h.0, h.1)
    met n p again false e =
        let s = differs_as p word expected e in
        let q = stopped p s.failure in
        let g = halts s.failure in
        moved (suc n) p _ q
        (ap (λ (r : Progress). repeated n r word expected) s.same ∙ sym (stays n q word expected g))
        (rw (e) (sym g), λ h. absurd (true≢false (sym h ∙ g)))

    pub ends : (n : ℕ) (p : Progress) → goes p.failure ≡ true → Ends n word expected ws p (repeated n p word expected)
    unfolding repeated meet_all
    ends zero p g = (sym g, λ _. refl)
    ends (suc n) p g =
        moved (suc n) p _ _ (ap (λ (r : Progress). repeated n r word expected) (given_at_lem p g))
        (met n p (ends n) (meets expected (advance p.chip (decode word)).answer) refl)

-- ---- a line

-- how a line ends: whether it holds, and if it does, what is left to hold
abbrev Says : Entry → List Entry → Progress → Progress → Type 0
Says e rest p q =
    (goes q.failure ≡ false → holds (e ∷ rest) (advanced_answers p.chip (given (e ∷ rest))) ≡ false)
    × (goes q.failure ≡ true
    → (q.reader ≡ line_start) × (holds (e ∷ rest) (advanced_answers p.chip (given (e ∷ rest))) ≡ holds rest (advanced_answers q.chip (given rest))))

shown : (e : Entry) (rest : List Entry) (p q r : Progress) → q ≡ r → Says e rest p r → Says e rest p q
shown e rest p q r h s = rw (h) s

goes_next : (q : Progress) → goes q.failure ≡ true → line_done q ≡ next_line q
unfolding line_done
goes_next q g = rw (g) refl

stops_there : (q : Progress) → goes q.failure ≡ false → line_done q ≡ q
unfolding line_done
stops_there q g = rw (g) refl

-- the words of a line that are given, and what their verdict says of the line
done : (g : Given) (rest : List Entry) (p q : Progress) (t : Bool) → goes q.failure ≡ t
    → Ends g.times g.word g.expected (given rest) p q → Says (Ok (Some g)) rest p (line_done q)
unfolding holds given
done g rest p q true e h =
    shown (Ok (Some g)) rest p (line_done q) (next_line q) (goes_next q e)
    (λ k. absurd (true≢false (sym e ∙ k)), λ _. (refl, rw (h.0 ∙ e, h.1 e) refl))
done g rest p q false e h =
    shown (Ok (Some g)) rest p (line_done q) q (stops_there q e)
    (λ _. rw (h.0 ∙ e) refl, λ k. absurd (true≢false (sym k ∙ e)))

says : (e : Entry) (rest : List Entry) (p : Progress) → goes p.failure ≡ true → Says e rest p (entered p e)
unfolding entered holds given
says (Ok None) rest p g = (λ k. absurd (true≢false (sym g ∙ k)), λ _. (refl, refl))
says (Ok (Some e)) rest p g =
    let q = repeated e.times p e.word e.expected in
    done e rest p q (goes q.failure) refl (ends e.word e.expected (given rest) e.times p g)
says (Err bad) rest p g = (λ _. refl, λ k. absurd (true≢false (sym k ∙ halts (Malformed bad))))

-- ---- the text

-- where reading has stopped, no byte changes anything
unread : (p : Progress) (b : ℕ) → goes p.failure ≡ false → byte_read p b ≡ p
unfolding byte_read
unread p b g = rw (g) refl

still : (p : Progress) (text : List ℕ) → goes p.failure ≡ false → read p text ≡ p
unfolding read
still p [] g = refl
still p (b ∷ rest) g = rw (unread p b g) (still p rest g)

-- where it goes on, a byte is taken
taken_byte : (p : Progress) (b : ℕ) → goes p.failure ≡ true → byte_read p b ≡ byte_taken p b
unfolding byte_read
taken_byte p b g = rw (g) refl

abbrev Agreed : Progress → List ℕ → Type 0
Agreed p text =
    goes (byte_read (read p text) 10).failure
    ≡ holds (entries_from p.reader text) (advanced_answers p.chip (given (entries_from p.reader text)))

-- the end of the text
last : (p q : Progress) (e : Entry) (t : Bool) → goes q.failure ≡ t → Says e [] p q
    → goes q.failure ≡ holds (e ∷ []) (advanced_answers p.chip (given (e ∷ [])))
unfolding holds given
last p q e true g s = g ∙ sym (s.1 g).1
last p q e false g s = g ∙ sym (s.0 g)

-- a newline
line : (p q : Progress) (e : Entry) (rest : List ℕ) → ((r : Progress) → goes r.failure ≡ true → Agreed r rest) → (t : Bool) → goes q.failure ≡ t
    → Says e (entries_from line_start rest) p q
    → goes (byte_read (read q rest) 10).failure
    ≡ holds (e ∷ entries_from line_start rest) (advanced_answers p.chip (given (e ∷ entries_from line_start rest)))
line p q e rest again true g s =
    again q g
    ∙ ap (λ (r : Reader). holds (entries_from r rest) (advanced_answers q.chip (given (entries_from r rest)))) (s.1 g).0
    ∙ sym (s.1 g).1
line p q e rest again false g s =
    ap (λ (r : Progress). goes (byte_read r 10).failure) (still q rest g)
    ∙ ap (λ (r : Progress). goes r.failure) (unread q 10 g)
    ∙ g
    ∙ sym (s.0 g)

-- a byte
by_byte : (p : Progress) (b : ℕ) (rest : List ℕ) → ((r : Progress) → goes r.failure ≡ true → Agreed r rest) → goes p.failure ≡ true
    → (t : Bool) → eqb b 10 ≡ t
    → goes (byte_read (read (pick t (entered p (line_end p.reader)) (within p (next p.reader b))) rest) 10).failure
    ≡ holds
    (pick t (line_end p.reader ∷ entries_from line_start rest) (entries_from (next p.reader b) rest))
    (advanced_answers p.chip (given (pick t (line_end p.reader ∷ entries_from line_start rest) (entries_from (next p.reader b) rest))))
by_byte p b rest again g true u =
    let e = line_end p.reader in
    let q = entered p e in
    line p q e rest again (goes q.failure) refl (says e (entries_from line_start rest) p g)
by_byte p b rest again g false u = again (within p (next p.reader b)) g

agreed : (text : List ℕ) (p : Progress) → goes p.failure ≡ true → Agreed p text
unfolding read byte_taken entries_from
agreed [] p g =
    let e = line_end p.reader in
    let q = entered p e in
    ap (λ (r : Progress). goes r.failure) (taken_byte p 10 g) ∙ last p q e (goes q.failure) refl (says e [] p g)
agreed (b ∷ rest) p g =
    ap (λ (r : Progress). goes (byte_read (read r rest) 10).failure) (taken_byte p b g) ∙ by_byte p b rest (agreed rest) g (eqb b 10) refl

-- a text agrees exactly where each of its lines can be read and every answer that it expects is that of the list call at that word
pub agrees_exactly : (text : List ℕ)
    → goes (byte_read (read opened text) 10).failure ≡ holds (entries text) (advanced_answers fresh (given (entries text)))
unfolding opened
agrees_exactly text = agreed text opened agrees

-- ---- the end of a case

-- a case without a word is empty, any other one ends as it is
concluded_empty : (q : Progress) → goes q.failure ≡ true → eqb q.words 0 ≡ true → concluded q ≡ stopped q Empty
unfolding concluded
concluded_empty q g e = rw (g, e) refl

concluded_some : (q : Progress) → goes q.failure ≡ true → eqb q.words 0 ≡ false → concluded q ≡ q
unfolding concluded
concluded_some q g e = rw (g, e) refl

concluded_stopped : (q : Progress) → goes q.failure ≡ false → concluded q ≡ q
unfolding concluded
concluded_stopped q g = rw (g) refl

concluded_goes : (q : Progress) (t u : Bool) → goes q.failure ≡ t → eqb q.words 0 ≡ u → goes (concluded q).failure ≡ (t && not u)
concluded_goes q true true g e = ap (λ (r : Progress). goes r.failure) (concluded_empty q g e) ∙ halts Empty
concluded_goes q true false g e = ap (λ (r : Progress). goes r.failure) (concluded_some q g e) ∙ g
concluded_goes q false u g e = ap (λ (r : Progress). goes r.failure) (concluded_stopped q g) ∙ g

-- a case passes exactly where its text agrees and a word of it was answered
pub passes_exactly : (text : List ℕ)
    → goes (closed (read opened text)).failure
    ≡ (holds (entries text) (advanced_answers fresh (given (entries text))) && not (eqb (byte_read (read opened text) 10).words 0))
unfolding closed
passes_exactly text =
    let q = byte_read (read opened text) 10 in
    concluded_goes q (goes q.failure) (eqb q.words 0) refl refl ∙ ap (λ (t : Bool). t && not (eqb q.words 0)) (agrees_exactly text)
