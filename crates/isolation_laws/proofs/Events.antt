-- One event at related chips: they stay related, and the answers agree but for the byte of II DAT.
use Prim.Native.Nat.{ℕ, ◌/◌, ◌<◌}
use mathlib.Core.Path.{◌≡◌, refl, ap, sym, ◌∙◌}
use mathlib.Core.Bool.{Bool, true, false, not, ◌&&◌, ◌||◌, beq, or-false, true≢false}
use native.Mathlib.Omega.{arith}
use lib.Dec.{eqb}
use lib.Bits.{and_le_l}
use borrow.Author.Tests.{eqb-true}
use Rattle.bits.specs.Byte.{pick}
use Rattle.bits.proofs.Finite.{beq_eq, true_T, both}
use Rattle.registers.specs.Names.{BTCON, IEX, IIDAT}
use Rattle.registers.specs.Table.{is_readable}
use Rattle.std.specs.Prelude.{Ok, Err}
use Rattle.events.specs.Decoded.{Decoded}
use Rattle.events.specs.declared.Event.TheVariants.{Read, Write, Pin, Clock, Polarity}
use Rattle.events.specs.Word.{decode}
use Rattle.answers.specs.Answer.{answer_word}
use Rattle.chip.specs.declared.Chip.{Chip}
use Rattle.chip_reads.specs.declared.Reading.{Reading}
use Rattle.chip.specs.State.{register_at, keep, requested, requests}
use Rattle.chip_reads.specs.Reads.{port0, port1, port2, port3, hvcon, shown, reading, reading_of}
use Rattle.chip_reads.proofs.Bytes.{reading_byte_lt}
use Rattle.counters.specs.Count.{watchdog_fires}
use Rattle.chip_writes.specs.Writes.{write_number, write_kept}
use Rattle.chip_pins.specs.Pins.{pin_kind, pin_moved_as, pin_moved}
use Rattle.step.specs.Step.{answered}
use Rattle.chip_events.specs.Outcome.{core_after, reset_if, kept_after, next, number_given, byte_given, watchdog_reset, was_reset}
use Rattle.isolation_laws.specs.Foreign.{Observer, observe, permitted, touches_sda, untouched, same_but_sda, equal_at_high, compared_answer}
use Rattle.isolation_laws.specs.Related.{related, RelatedChips, chips}
use Rattle.isolation_laws.specs.Related.{Paired, equal, low, same}
use Rattle.isolation_laws.proofs.Related.{enddc_low}
use Rattle.isolation_laws.proofs.Pins.{pin_related, sda_low_related, sda_equal_related}
use Rattle.isolation_laws.proofs.Writes.{write_related, clock_related, polarity_related}

-- ---- two events, one for each run

-- an event that touches SDA
pub data Touches : Decoded → Type 0 where
  touches : (l : Bool) → Touches (Ok (Pin 24 l))

pub touches_of : (e : Decoded) → touches_sda e ≡ true → Touches e
touches_of (Ok (Read a)) h = absurd (true≢false (sym h))
touches_of (Ok (Write a b)) h = absurd (true≢false (sym h))
touches_of (Ok (Pin p l)) h = rw (eqb-true p 24 h) (touches l)
touches_of (Ok (Clock k)) h = absurd (true≢false (sym h))
touches_of (Ok (Polarity v l)) h = absurd (true≢false (sym h))
touches_of (Err r) h = absurd (true≢false (sym h))

low_of : (scl : Bool) → not (scl && true) ≡ true → scl ≡ false
low_of true h = absurd (true≢false (sym h))
low_of false h = refl

low_paired : {o o' : Observer} {e f : Decoded} → Touches e → Touches f → not (o.scl && touches_sda e) ≡ true → Paired o o' e f
low_paired {o} (touches l) (touches l') h = low l l' (low_of o.scl h)

-- a word touches SDA while SCL is low, or SDA's levels are equal
equal_paired : {o o' : Observer} {e : Decoded} → Touches e → (sclLow : Bool) → not (o.scl && touches_sda e) ≡ sclLow → (sclLow || beq o.sda o'.sda) ≡ true → Paired o o' e e
equal_paired t true u h = low_paired t t u
equal_paired {o} {o'} (touches l) false u h = equal l (beq_eq o.sda o'.sda (true_T _ h))

word_paired : {o o' : Observer} (e : Decoded) (sda : Bool) → touches_sda e ≡ sda → (not (o.scl && touches_sda e) || beq o.sda o'.sda) ≡ true → Paired o o' e e
word_paired e false t h = same t
word_paired e true t h = equal_paired (touches_of e t) _ refl h

words_paired : (o o' : Observer) (w v : ℕ) (t : Bool) → eqb w v ≡ t → (t || (touches_sda (decode w) && touches_sda (decode v))) ≡ true
    → (untouched o (decode w) || (t && beq o.sda o'.sda)) ≡ true → Paired o o' (decode w) (decode v)
unfolding untouched
words_paired o o' w v true e s h = rw (← eqb-true w v e) (word_paired (decode w) _ refl h)
words_paired o o' w v false e s h =
    low_paired (touches_of (decode w) (both (touches_sda (decode w)) (touches_sda (decode v)) s).0) (touches_of (decode v) (both (touches_sda (decode w)) (touches_sda (decode v)) s).1)
    (rw or-false at h)

pub paired : (o o' : Observer) (w v : ℕ) → same_but_sda w v ≡ true → equal_at_high o o' w v ≡ true → Paired o o' (decode w) (decode v)
paired o o' w v s h = words_paired o o' w v (eqb w v) refl s h

-- ---- the chips: the same is stored in both, since that goes by RESET's level, the registers and the watchdog's count

same_related : {c d : Chip} {o o' : Observer} → RelatedChips c d o o' → (e : Decoded) → touches_sda e ≡ false → permitted o e ≡ true → permitted o' e ≡ true
    → RelatedChips (next c e) (next d e) (observe o e) (observe o' e)
unfolding next core_after kept_after was_reset observe
same_related r (Ok (Read a)) t h h' = r
same_related (chips rs (related g z s x x' y y' k o)) (Ok (Write a b)) t h h' = chips (keep (write_kept z rs a b) rs) (write_related (related g z s x x' y y' k o) a b h)
same_related (chips rs (related g z s x x' y y' k o)) (Ok (Pin p l)) t h h' = chips (keep (reset_if (eqb p 28 && (z && not l))) rs) (pin_related (related g z s x x' y y' k o) p l t h h')
same_related (chips rs (related g z s x x' y y' k o)) (Ok (Clock m)) t h h' =
    chips (keep (reset_if (z && (eqb m 3 && watchdog_fires g.watchdog))) rs) (clock_related (register_at rs BTCON) (related g z s x x' y y' k o) m h)
same_related (chips rs r) (Ok (Polarity v l)) t h h' = chips rs (polarity_related r v l)
same_related r (Err n) t h h' = r

pub event_related : {c d : Chip} {o o' : Observer} → RelatedChips c d o o' → {e f : Decoded} → Paired o o' e f → permitted o e ≡ true → permitted o' f ≡ true
    → RelatedChips (next c e) (next d f) (observe o e) (observe o' f)
unfolding next core_after kept_after was_reset pin_moved pin_moved_as pin_kind
event_related r (same {e} t) h h' = same_related r e t h h'
event_related (chips rs r) (low l l' s) h h' = chips rs (sda_low_related r l l' s)
event_related (chips rs r) (equal l x) h h' = chips rs (sda_equal_related r l x)

-- ---- the answers

pub reset_equal : {c d : Chip} {o o' : Observer} → RelatedChips c d o o' → c.core.reset ≡ d.core.reset
reset_equal (chips rs (related g z s x x' y y' k o)) = refl

pub requests_equal : {c d : Chip} {o o' : Observer} → RelatedChips c d o o' → requests c ≡ requests d
requests_equal (chips rs (related g z s x x' y y' k o)) = refl

pub was_reset_equal : {c d : Chip} {o o' : Observer} → RelatedChips c d o o' → (e : Decoded) → was_reset c e ≡ was_reset d e
unfolding was_reset
was_reset_equal (chips rs (related g z s x x' y y' k o)) (Ok (Read a)) = refl
was_reset_equal (chips rs (related g z s x x' y y' k o)) (Ok (Write a b)) = refl
was_reset_equal (chips rs (related g z s x x' y y' k o)) (Ok (Pin p l)) = refl
was_reset_equal (chips rs (related g z s x x' y y' k o)) (Ok (Clock m)) = refl
was_reset_equal (chips rs (related g z s x x' y y' k o)) (Ok (Polarity v l)) = refl
was_reset_equal (chips rs (related g z s x x' y y' k o)) (Err r) = refl

pub write_number_equal : {c d : Chip} {o o' : Observer} → RelatedChips c d o o' → (a : ℕ) → write_number c.core.reset a ≡ write_number d.core.reset a
unfolding write_number
write_number_equal (chips rs (related g z s x x' y y' k o)) a = refl

-- a register other than II DAT reads the same; PT3 does not show SDA while DDC is on
pub reading_equal : {c d : Chip} {o o' : Observer} → RelatedChips c d o o' → (a : ℕ) → eqb a IIDAT ≡ false → reading c a ≡ reading d a
unfolding reading shown port0 port1 port2 port3 hvcon
reading_equal (chips rs (related g z s x x' y y' k o)) a h = rw (h, enddc_low o)

number_of_reading : (z t : Bool) (n m : ℕ) → (pick z (pick t (reading_of 0 n) (reading_of 5 0)) (reading_of 4 0)).number ≡ (pick z (pick t (reading_of 0 m) (reading_of 5 0)) (reading_of 4 0)).number
number_of_reading false t n m = refl
number_of_reading true false n m = refl
number_of_reading true true n m = refl

pub reading_number_equal : {c d : Chip} {o o' : Observer} → RelatedChips c d o o' → (a : ℕ) → (reading c a).number ≡ (reading d a).number
unfolding reading
reading_number_equal (chips rs (related g z s x x' y y' k o)) a = number_of_reading z (is_readable a) _ _

-- a read that is refused gives no byte
byte_of_refusal : (z t : Bool) (n : ℕ) → eqb (pick z (pick t (reading_of 0 n) (reading_of 5 0)) (reading_of 4 0)).number 0 ≡ false
    → (pick z (pick t (reading_of 0 n) (reading_of 5 0)) (reading_of 4 0)).byte ≡ 0
byte_of_refusal false t n h = refl
byte_of_refusal true false n h = refl
byte_of_refusal true true n h = absurd (true≢false h)

refused_byte : (c : Chip) (a : ℕ) → eqb (reading c a).number 0 ≡ false → (reading c a).byte ≡ 0
unfolding reading
refused_byte c a h = byte_of_refusal c.core.reset (is_readable a) _ h

-- two answers to a read, their bytes apart where the number is 0
data_answers : (t : Bool) (n r y y' : ℕ) → eqb n 0 ≡ t → r < 256 → y < 256 → y' < 256 → (t ≡ false → y ≡ y')
    → pick (eqb (answer_word n false r y / 16777216) 0) (answer_word n false r y / 256) (answer_word n false r y)
    ≡ pick (eqb (answer_word n false r y' / 16777216) 0) (answer_word n false r y' / 256) (answer_word n false r y')
data_answers t n r y y' z b h h' e =
    let left : answer_word n false r y / 16777216 ≡ n = omega arith in
    let right : answer_word n false r y' / 16777216 ≡ n = omega arith in
    rw (left, right, z) (by_number t e)
  where
    by_number : (t : Bool) → (t ≡ false → y ≡ y') → pick t (answer_word n false r y / 256) (answer_word n false r y) ≡ pick t (answer_word n false r y' / 256) (answer_word n false r y')
    by_number true e = omega arith
    by_number false e = rw (e refl)

read_answers : (t : Bool) (n n' r r' y y' : ℕ) → n ≡ n' → r ≡ r' → r < 256 → y < 256 → y' < 256 → (t ≡ false → y ≡ y') → (eqb n 0 ≡ false → y ≡ y')
    → pick (t && eqb (answer_word n false r y / 16777216) 0) (answer_word n false r y / 256) (answer_word n false r y)
    ≡ pick (t && eqb (answer_word n' false r' y' / 16777216) 0) (answer_word n' false r' y' / 256) (answer_word n' false r' y')
read_answers true n n' r r' y y' en er b h h' e f = rw (← en, ← er) (data_answers (eqb n 0) n r y y' refl b h h' f)
read_answers false n n' r r' y y' en er b h h' e f = rw (en, er, e refl)

-- the requests are a byte
requests_lt : {c d : Chip} {o o' : Observer} → RelatedChips c d o o' → requests c < 256
unfolding requested
requests_lt (chips rs (related g z s x x' y y' k o)) = omega (arith, o.flags, and_le_l g.irqx (register_at rs IEX))

same_answers : {c d : Chip} {o o' : Observer} → RelatedChips c d o o' → (e : Decoded) → requests (next c e) ≡ requests (next d e) → requests (next c e) < 256
    → compared_answer e (answered c e) ≡ compared_answer e (answered d e)
unfolding answered number_given byte_given watchdog_reset
same_answers {c} {d} r (Ok (Read a)) q b =
    read_answers (eqb a IIDAT) (reading c a).number (reading d a).number (requests (next c (Ok (Read a)))) (requests (next d (Ok (Read a)))) (reading c a).byte (reading d a).byte
    (reading_number_equal r a) q b (reading_byte_lt c a) (reading_byte_lt d a) (λ h. ap (λ (t : Reading). t.byte) (reading_equal r a h))
    (λ h. refused_byte c a h ∙ sym (refused_byte d a (rw (reading_number_equal r a) at h)))
same_answers r (Ok (Write a b)) q m = rw (write_number_equal r a, q)
same_answers r (Ok (Pin p l)) q b = rw q
same_answers (chips rs (related g z s x x' y y' k o)) (Ok (Clock m)) q b = rw q
same_answers r (Ok (Polarity v l)) q b = rw q
same_answers r (Err n) q b = rw q

sda_answers : (c d : Chip) (l l' : Bool) → requests (next c (Ok (Pin 24 l))) ≡ requests (next d (Ok (Pin 24 l'))) → answered c (Ok (Pin 24 l)) ≡ answered d (Ok (Pin 24 l'))
unfolding answered number_given byte_given watchdog_reset
sda_answers c d l l' q = rw q

pub event_answers : {c d : Chip} {o o' : Observer} → RelatedChips c d o o' → {e f : Decoded} → Paired o o' e f → permitted o e ≡ true → permitted o' f ≡ true
    → compared_answer e (answered c e) ≡ compared_answer f (answered d f)
event_answers r (same {e} t) h h' =
    let after = event_related r (same t) h h' in
    same_answers r e (requests_equal after) (requests_lt after)
event_answers {c} {d} r (low l l' s) h h' = sda_answers c d l l' (requests_equal (event_related r (low l l' s) h h'))
event_answers {c} {d} r (equal l x) h h' = sda_answers c d l l (requests_equal (event_related r (equal l x) h h'))
