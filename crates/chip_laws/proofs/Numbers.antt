-- Each number is given back exactly when document 01's table says, and a number other than 0 leaves the state as it was.
-- Assumes nothing.
use mathlib.Core.Path.{◌≡◌, refl, sym, ap, ◌∙◌}
use mathlib.Core.Bool.{Bool, true, false, not, ◌&&◌, ◌||◌}
use mathlib.Core.List.{[], ◌∷◌}
use Prim.Native.Nat.{ℕ, ◌<◌}
use native.Mathlib.Omega.{arith}
use lib.Bits.{bit_and, and_le_l}
use lib.Dec.{eqb}
use borrow.Author.Tests.{eqb-true, ne_eqb}
use Rattle.bits.specs.Byte.{pick}
use Rattle.bits.proofs.Finite.{both}
use Rattle.registers.specs.Table.{is_readable, is_writable, read_mask}
use Rattle.answers.specs.declared.AnswerFields.{AnswerFields}
use Rattle.std.specs.Prelude.{Ok, Err}
use Rattle.events.specs.Decoded.{Decoded}
use Rattle.events.specs.declared.Event.TheVariants.{Read, Write, Pin, Clock, Polarity}
use Rattle.events.specs.declared.Refusal.TheVariants.{NoEvent, NoPlace, BadByte}
use Rattle.events.specs.Word.{kind, field_a, field_b, event, no_event, no_place, bad_byte, decode}
use Rattle.answers.specs.Answer.{answer_fields}
use Rattle.answers.proofs.AnswerWord.{fields_of_answer}
use Rattle.chip.specs.declared.Core.{Core}
use Rattle.chip.specs.declared.Chip.{Chip}
use Rattle.chip.specs.declared.Kept.{Kept}
use Rattle.chip.specs.declared.Kept.TheVariants.{Same}
use Rattle.chip.specs.State.{chip_of, keep, requested, requests, register_at}
use Rattle.chip_reads.specs.Reads.{shown, reading_of, reading}
use Rattle.chip_well_formed.specs.WellFormed.{well_formed}
use Rattle.chip_writes.specs.Writes.{write_number, written, stored_by, write_register, write_kept}
use Rattle.step.specs.declared.Stepped.{Stepped}
use Rattle.step.specs.Step.{answered, advance, step}
use Rattle.chip_events.specs.Outcome.{core_after, kept_after, next, number_given, byte_given, watchdog_reset}
use Rattle.chip_events.proofs.Byte.{byte_lt}
use Rattle.chip_laws.specs.Numbers.{is_read, is_write, is_event, ill_formed, while_reset, write_only, read_only, first_of, number_of01, answer_number, refusal, ill_formed_answer}
use Rattle.chip_laws.proofs.Formed.{impossible, formed}
use Rattle.chip_laws.proofs.WellFormed.{advance_well_formed}

-- ---- the number that the step gives

-- the rows 4, 5, 6 over their tests
abbrev access : Bool → Bool → Bool → Bool → Bool → ℕ
access read write reset readable writable =
    first_of ((4, (read || write) && not reset) ∷ (5, read && not readable) ∷ (6, write && not writable) ∷ [])

read_number : (reset readable writable : Bool) (byte : ℕ) →
    (pick reset (pick readable (reading_of 0 byte) (reading_of 5 0)) (reading_of 4 0)).number ≡ access true false reset readable writable
read_number true true writable byte = refl
read_number true false writable byte = refl
read_number false readable writable byte = refl

write_number_lem : (reset readable writable : Bool) → pick reset (pick writable 0 6) 4 ≡ access false true reset readable writable
write_number_lem true readable true = refl
write_number_lem true readable false = refl
write_number_lem false readable writable = refl

-- the event of a kind, over the tests of its kind, of which one holds at most
kind_number : (c : Chip) (one two three four : Bool) (a b : ℕ) → (one ≡ true → two ≡ false) →
    number_given c (Ok (pick one (Read a) (pick two (Write a b) (pick three (Pin a (eqb b 1)) (pick four (Clock a) (Polarity (eqb a 1) (eqb b 1)))))))
    ≡ access one two c.core.reset (is_readable a) (is_writable a)
unfolding number_given reading write_number
kind_number c true true three four a b h = absurd (impossible (sym (h refl)))
kind_number c true false three four a b h = read_number c.core.reset (is_readable a) (is_writable a) _
kind_number c false true three four a b h = write_number_lem c.core.reset (is_readable a) (is_writable a)
kind_number c false false true four a b h = refl
kind_number c false false false true a b h = refl
kind_number c false false false false a b h = refl

decoded_number : (c : Chip) (s t u : Bool) (e : Decoded) (n : ℕ) → number_given c e ≡ n →
    number_given c (pick s (Err NoEvent) (pick t (Err NoPlace) (pick u (Err BadByte) e))) ≡ pick s 1 (pick t 2 (pick u 3 n))
unfolding number_given
decoded_number c true t u e n h = refl
decoded_number c false true u e n h = refl
decoded_number c false false true e n h = refl
decoded_number c false false false e n h = h

-- a kind is not both 1 and 2
one_kind : (w : ℕ) → is_read w ≡ true → is_write w ≡ false
one_kind w e = ne_eqb (kind w) 2 (λ q. let p = eqb-true (kind w) 1 e in omega arith)

-- at a well formed state
pub decode_number : (c : Chip) (w : ℕ) → well_formed c ≡ true → number_given c (decode w) ≡ number_of01 c w
unfolding decode event number_of01
decode_number c w t =
    rw t
    (decoded_number c (no_event w) (no_place w) (bad_byte w) (Ok (event w)) _
    (kind_number c (is_read w) (is_write w) (eqb (kind w) 3) (eqb (kind w) 4) (field_a w) (field_b w) (one_kind w)))

-- ---- the parts of an answer

-- six request lines
pub requests_lt : (c : Chip) → well_formed c ≡ true → requests c < 64
unfolding requested
requests_lt c t = let f = formed c t in omega (arith, f.core.irqx, and_le_l c.core.irqx (register_at c.registers 0x0f))

-- of a well formed state's answer: the number, whether the watchdog reset the chip, the requests after the step, the byte read
pub answer_fields_lem : (c : Chip) (w : ℕ) → well_formed c ≡ true →
    answer_fields (step c w).answer
    ≡ record { number = number_of01 c w; watchdog = watchdog_reset c (decode w); requests = requests (step c w).chip; byte = byte_given c (decode w) }
unfolding step advance answered
answer_fields_lem c w t =
    let e : Decoded = decode w in
    let small = requests_lt (next c e) (advance_well_formed c w t) in
    rw (t, ← (decode_number c w t)) (fields_of_answer (number_given c e) (watchdog_reset c e) (requests (next c e)) (byte_given c e) (omega arith) (byte_lt c e))

-- ---- number 8

pub ill_formed_step : (c : Chip) (w : ℕ) → well_formed c ≡ false → step c w ≡ ill_formed_answer c
unfolding step
ill_formed_step c w t = rw t

-- ---- the number of every answer, at every state and word

number_by : (c : Chip) (w : ℕ) (t : Bool) → well_formed c ≡ t → answer_number c w ≡ number_of01 c w
unfolding number_of01
number_by c w true t = ap (λ (f : AnswerFields). f.number) (answer_fields_lem c w t)
number_by c w false t = rw (t, ill_formed_step c w t)

pub number_given_lem : (c : Chip) (w : ℕ) → answer_number c w ≡ number_of01 c w
number_given_lem c w = number_by c w (well_formed c) refl

-- ---- each number then and not otherwise

-- the first number of the table, over the tests of its rows
abbrev first : Bool → Bool → Bool → Bool → Bool → Bool → Bool → ℕ
first ill one two three four five six =
    first_of ((8, ill) ∷ (1, one) ∷ (2, two) ∷ (3, three) ∷ (4, four) ∷ (5, five) ∷ (6, six) ∷ [])

-- none of the numbers 1 to 3
abbrev event_by : Bool → Bool → Bool → Bool
event_by one two three = not one && (not two && not three)

-- when it is 0, 1 and so on to 8, no word being both refused as a read and refused as a write
first_is : (ill one two three four five six : Bool) → (six ≡ true → five ≡ false) →
    (eqb (first ill one two three four five six) 0 ≡ (not ill && (event_by one two three && (not four && (not five && not six)))))
    × (eqb (first ill one two three four five six) 1 ≡ (not ill && one))
    × (eqb (first ill one two three four five six) 2 ≡ (not ill && (not one && two)))
    × (eqb (first ill one two three four five six) 3 ≡ (not ill && (not one && (not two && three))))
    × (eqb (first ill one two three four five six) 4 ≡ (not ill && (event_by one two three && four)))
    × (eqb (first ill one two three four five six) 5 ≡ (not ill && (event_by one two three && (not four && five))))
    × (eqb (first ill one two three four five six) 6 ≡ (not ill && (event_by one two three && (not four && six))))
    × (eqb (first ill one two three four five six) 7 ≡ false)
    × (eqb (first ill one two three four five six) 8 ≡ ill)
first_is true one two three four five six h = (refl, refl, refl, refl, refl, refl, refl, refl, refl)
first_is false true two three four five six h = (refl, refl, refl, refl, refl, refl, refl, refl, refl)
first_is false false true three four five six h = (refl, refl, refl, refl, refl, refl, refl, refl, refl)
first_is false false false true four five six h = (refl, refl, refl, refl, refl, refl, refl, refl, refl)
first_is false false false false true five six h = (refl, refl, refl, refl, refl, refl, refl, refl, refl)
first_is false false false false false true true h = absurd (impossible (sym (h refl)))
first_is false false false false false true false h = (refl, refl, refl, refl, refl, refl, refl, refl, refl)
first_is false false false false false false true h = (refl, refl, refl, refl, refl, refl, refl, refl, refl)
first_is false false false false false false false h = (refl, refl, refl, refl, refl, refl, refl, refl, refl)

-- a kind is not both 2 and 1
write_not_read : (w : ℕ) → read_only w ≡ true → write_only w ≡ false
write_not_read w e =
    let two = eqb-true (kind w) 2 (both (is_write w) (not (is_writable (field_a w))) e).0 in
    rw (ne_eqb (kind w) 1 (λ q. omega arith))

module _ (c : Chip) (w : ℕ) where
  -- the state is ill formed
  pub exactly_8 : eqb (answer_number c w) 8 ≡ ill_formed c
  unfolding number_of01
  exactly_8 =
      rw (number_given_lem c w)
      (first_is (ill_formed c) (no_event w) (no_place w) (bad_byte w) (while_reset c w) (write_only w) (read_only w) (write_not_read w)).8

  -- no event
  pub exactly_1 : eqb (answer_number c w) 1 ≡ (not (ill_formed c) && no_event w)
  unfolding number_of01
  exactly_1 =
      rw (number_given_lem c w)
      (first_is (ill_formed c) (no_event w) (no_place w) (bad_byte w) (while_reset c w) (write_only w) (read_only w) (write_not_read w)).1

  -- nothing has this A
  pub exactly_2 : eqb (answer_number c w) 2 ≡ (not (ill_formed c) && (not (no_event w) && no_place w))
  unfolding number_of01
  exactly_2 =
      rw (number_given_lem c w)
      (first_is (ill_formed c) (no_event w) (no_place w) (bad_byte w) (while_reset c w) (write_only w) (read_only w) (write_not_read w)).2

  -- a B outside of the table
  pub exactly_3 : eqb (answer_number c w) 3 ≡ (not (ill_formed c) && (not (no_event w) && (not (no_place w) && bad_byte w)))
  unfolding number_of01
  exactly_3 =
      rw (number_given_lem c w)
      (first_is (ill_formed c) (no_event w) (no_place w) (bad_byte w) (while_reset c w) (write_only w) (read_only w) (write_not_read w)).3

  -- a read or a write while RESET is low
  pub exactly_4 : eqb (answer_number c w) 4 ≡ (not (ill_formed c) && (is_event w && while_reset c w))
  unfolding number_of01
  exactly_4 =
      rw (number_given_lem c w)
      (first_is (ill_formed c) (no_event w) (no_place w) (bad_byte w) (while_reset c w) (write_only w) (read_only w) (write_not_read w)).4

  -- a read of a write-only register
  pub exactly_5 : eqb (answer_number c w) 5 ≡ (not (ill_formed c) && (is_event w && (not (while_reset c w) && write_only w)))
  unfolding number_of01
  exactly_5 =
      rw (number_given_lem c w)
      (first_is (ill_formed c) (no_event w) (no_place w) (bad_byte w) (while_reset c w) (write_only w) (read_only w) (write_not_read w)).5

  -- a write to a read-only register
  pub exactly_6 : eqb (answer_number c w) 6 ≡ (not (ill_formed c) && (is_event w && (not (while_reset c w) && read_only w)))
  unfolding number_of01
  exactly_6 =
      rw (number_given_lem c w)
      (first_is (ill_formed c) (no_event w) (no_place w) (bad_byte w) (while_reset c w) (write_only w) (read_only w) (write_not_read w)).6

  -- done: none of these
  pub exactly_0 : eqb (answer_number c w) 0 ≡ (not (ill_formed c) && (is_event w && (not (while_reset c w) && (not (write_only w) && not (read_only w)))))
  unfolding number_of01
  exactly_0 =
      rw (number_given_lem c w)
      (first_is (ill_formed c) (no_event w) (no_place w) (bad_byte w) (while_reset c w) (write_only w) (read_only w) (write_not_read w)).0

  -- a list call alone gives it
  pub exactly_7 : eqb (answer_number c w) 7 ≡ false
  unfolding number_of01
  exactly_7 =
      rw (number_given_lem c w)
      (first_is (ill_formed c) (no_event w) (no_place w) (bad_byte w) (while_reset c w) (write_only w) (read_only w) (write_not_read w)).7

-- ---- a number other than 0 leaves the state, and the answer carries its request lines

-- a read that is refused gives no byte
refused_byte : (reset readable : Bool) (byte : ℕ) → ((pick reset (pick readable (reading_of 0 byte) (reading_of 5 0)) (reading_of 4 0)).number ≡ 0 → ⊥) →
    (pick reset (pick readable (reading_of 0 byte) (reading_of 5 0)) (reading_of 4 0)).byte ≡ 0
refused_byte true true byte h = absurd (h refl)
refused_byte true false byte h = refl
refused_byte false readable byte h = refl

-- a write that is refused stores nothing, in the core or in the array
refused_write_keeps : (reset writable : Bool) (c : Chip) (k : Kept) (new : Core) → (◌≡◌ {A = ℕ} (pick reset (pick writable 0 6) 4) 0 → ⊥) →
    chip_of (keep (pick reset (pick writable k Same) Same) c.registers) (pick reset (pick writable new c.core) c.core) ≡ c
refused_write_keeps true true c k new h = absurd (h refl)
refused_write_keeps true false c k new h = refl
refused_write_keeps false writable c k new h = refl

refused_event : (c : Chip) (e : Decoded) → (number_given c e ≡ 0 → ⊥) → advance c e ≡ refusal c (number_given c e)
unfolding advance answered number_given next core_after kept_after watchdog_reset byte_given reading write_number write_register write_kept
refused_event c (Ok (Read a)) h = rw (refused_byte c.core.reset (is_readable a) (bit_and (shown c a) (read_mask a)) h)
refused_event c (Ok (Write a b)) h =
    ap (λ (d : Chip). refusal d (number_given c (Ok (Write a b))))
    (refused_write_keeps c.core.reset (is_writable a) c (stored_by c.registers a b) (written c.core a b) h)
refused_event c (Ok (Pin p level)) h = absurd (h refl)
refused_event c (Ok (Clock k)) h = absurd (h refl)
refused_event c (Ok (Polarity vertical level)) h = absurd (h refl)
refused_event c (Err r) h = refl

-- at a well formed state: numbers 1 to 6
pub refused_step : (c : Chip) (w : ℕ) → well_formed c ≡ true → (answer_number c w ≡ 0 → ⊥) → step c w ≡ refusal c (number_of01 c w)
unfolding step
refused_step c w t h =
    let same = decode_number c w t in
    rw (t, ← same) (refused_event c (decode w) (λ z. h (number_given_lem c w ∙ sym same ∙ z)))

keeps_by : (c : Chip) (w : ℕ) (t : Bool) → well_formed c ≡ t → (answer_number c w ≡ 0 → ⊥) → (step c w).chip ≡ c
keeps_by c w true t h = ap (λ (s : Stepped). s.chip) (refused_step c w t h)
keeps_by c w false t h = ap (λ (s : Stepped). s.chip) (ill_formed_step c w t)

-- at every state: number 8 too
pub refused_keeps : (c : Chip) (w : ℕ) → (answer_number c w ≡ 0 → ⊥) → (step c w).chip ≡ c
refused_keeps c w h = keeps_by c w (well_formed c) refl h
