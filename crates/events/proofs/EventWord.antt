-- An event and its word determine one another: each case in range is what its word decodes to, and a word that is not refused is the word of its event.
use mathlib.Core.Path.{◌≡◌, refl, sym, ap, ◌∙◌}
use mathlib.Core.Bool.{Bool, true, false, ◌||◌}
use Prim.Native.Nat.{ℕ, ◌<◌, ◌≤◌}
use native.Mathlib.Omega.{arith}
use lib.Dec.{eqb, ltb}
use borrow.Author.Tests.{ltb-false, le-ltb, eqb-true, eqb-false}
use Rattle.bits.specs.Byte.{num}
use Rattle.bits.proofs.Mask.{num_lt}
use Rattle.bits.proofs.Level.{pick_by, eqb_num, num_eqb}
use Rattle.events.proofs.Refused.{pin_lt, decode_in_range, number_is}
use Rattle.std.specs.Prelude.{Ok, Err}
use Rattle.events.specs.Decoded.{Decoded}
use Rattle.events.specs.declared.Event.{Event}
use Rattle.events.specs.declared.Refusal.{Refusal}
use Rattle.events.specs.declared.Refusal.TheVariants.{NoEvent, NoPlace, BadByte, Other}
use Rattle.events.specs.declared.Event.TheVariants.{Read, Write, Pin, Clock, Polarity}
use Rattle.events.specs.Word.{kind, reserved, field_a, field_b, event_word, refused_word, OfWord, event, no_event, no_place, bad_byte, DecodedCase}
use Rattle.events.specs.Word.{decode, encode, number_of, kind_of, InRange}

-- the fields of a word made of a kind, an A and a B
module _ (k a b : ℕ) (ha : a < 256) (hb : b < 256) where
  kind_is : kind (event_word k a b) ≡ k
  kind_is = omega arith

  reserved_is : reserved (event_word k a b) ≡ 0
  reserved_is = omega arith

  field_a_is : field_a (event_word k a b) ≡ a
  field_a_is = omega arith

  field_b_is : field_b (event_word k a b) ≡ b
  field_b_is = omega arith

decode_refused : (r : Refusal) → OfWord r → decode (refused_word r) ≡ Err r
unfolding decode no_event no_place bad_byte event
decode_refused NoEvent h = refl
decode_refused NoPlace h = refl
decode_refused BadByte h = refl
decode_refused (Other number) h = absurd h

pub decode_encode : (e : Decoded) → InRange e → decode (encode e) ≡ e
unfolding decode no_event no_place bad_byte event
decode_encode (Ok (Read a)) h =
    let ha : a < 256 = omega arith in
    let hb : 0 < 256 = omega arith in
    rw (kind_is 1 a 0, reserved_is 1 a 0, field_a_is 1 a 0, field_b_is 1 a 0, le-ltb 0x25 a (omega arith))
decode_encode (Ok (Write a b)) h =
    let ha : a < 256 = omega arith in
    let hb : b < 256 = h.1 in
    rw (kind_is 2 a b, reserved_is 2 a b, field_a_is 2 a b, field_b_is 2 a b, le-ltb 0x25 a (omega arith))
decode_encode (Ok (Pin a level)) h =
    let v : ℕ = num level in
    let ha : a < 256 = omega (arith, pin_lt a h) in
    let hb : v < 256 = omega (arith, num_lt level) in
    rw (kind_is 3 a v, reserved_is 3 a v, field_a_is 3 a v, field_b_is 3 a v, h, le-ltb 1 v (omega (arith, num_lt level)), eqb_num level)
decode_encode (Ok (Clock a)) h =
    let ha : a < 256 = omega arith in
    let hb : 0 < 256 = omega arith in
    rw (kind_is 4 a 0, reserved_is 4 a 0, field_a_is 4 a 0, field_b_is 4 a 0, le-ltb 3 a (omega arith))
decode_encode (Ok (Polarity true true)) h = refl
decode_encode (Ok (Polarity true false)) h = refl
decode_encode (Ok (Polarity false true)) h = refl
decode_encode (Ok (Polarity false false)) h = refl
decode_encode (Err r) h = decode_refused r h.0

none_of : (x y z : Bool) → (x || (y || z)) ≡ false → (x ≡ false) × (y ≡ false) × (z ≡ false)
none_of false false false h = (refl, refl, refl)
none_of false false true h = (cc, cc, cc)
none_of false true z h = (cc, cc, cc)
none_of true y z h = (cc, cc, cc)

-- where no number applies: the kind is one of five and bits 23..16 are 0 by number 1, the values are the table's by numbers 2 and 3
module _ (w : ℕ) (s : no_event w ≡ false) (t : no_place w ≡ false) (u : bad_byte w ≡ false) where
  encode_event : encode (Ok (event w)) ≡ w
  unfolding event no_event no_place bad_byte
  encode_event =
      let P : Event → Type 0 = λ (e : Event). encode (Ok e) ≡ w in
      let none : (ltb (kind w) 1 ≡ false) × (ltb 5 (kind w) ≡ false) × (ltb 0 (reserved w) ≡ false) =
      none_of (ltb (kind w) 1) (ltb 5 (kind w)) (ltb 0 (reserved w)) s in
      let least : 1 ≤ kind w = ltb-false (kind w) 1 none.0 in
      let most : kind w ≤ 5 = ltb-false 5 (kind w) none.1 in
      let zero : reserved w ≤ 0 = ltb-false 0 (reserved w) none.2 in
      pick_by P (eqb (kind w) 1) (λ e. omega (arith, eqb-true (kind w) 1 e, ltb-false 0 (field_b w) (rw (e, bad_byte) at u)))
      (λ n1. pick_by P (eqb (kind w) 2) (λ e. omega (arith, eqb-true (kind w) 2 e))
      (λ n2. pick_by P (eqb (kind w) 3) (λ e.
      let hb : field_b w ≤ 1 = ltb-false 1 (field_b w) (rw (n1, n2, e, bad_byte) at u) in
      rw (num_eqb (field_b w) (omega arith)) (omega (arith, eqb-true (kind w) 3 e)))
      (λ n3. pick_by P (eqb (kind w) 4) (λ e.
      omega (arith, eqb-true (kind w) 4 e, ltb-false 0 (field_b w) (rw (n1, n2, n3, e, bad_byte) at u)))
      (λ n4.
      let ha : field_a w ≤ 1 = ltb-false 1 (field_a w) (rw (n1, n2, n3, n4, no_place) at t) in
      let hb : field_b w ≤ 1 = ltb-false 1 (field_b w) (rw (n1, n2, n3, n4, bad_byte) at u) in
      rw (num_eqb (field_a w) (omega arith), num_eqb (field_b w) (omega arith))
      (omega (arith, eqb-false (kind w) 1 n1, eqb-false (kind w) 2 n2, eqb-false (kind w) 3 n3, eqb-false (kind w) 4 n4))))))

pub encode_decode : (w : ℕ) → number_of (decode w) ≡ 0 → encode (decode w) ≡ w
unfolding decode
encode_decode w =
    let P : Decoded → Type 0 = λ (e : Decoded). number_of e ≡ 0 → encode e ≡ w in
    pick_by P (no_event w) (λ _ z. omega arith)
    (λ s. pick_by P (no_place w) (λ _ z. omega arith)
    (λ t. pick_by P (bad_byte w) (λ _ z. omega arith)
    (λ u _. encode_event w s t u)))

-- an event's kind is that of its word; with `encode-decode`, a decoded event has the kind of the word
kind_of_word : (e : Decoded) → InRange e → number_of e ≡ 0 → kind (encode e) ≡ kind_of e
kind_of_word (Ok (Read a)) h z = omega arith
kind_of_word (Ok (Write a b)) h z = omega arith
kind_of_word (Ok (Pin a level)) h z = omega (arith, pin_lt a h, num_lt level)
kind_of_word (Ok (Clock a)) h z = omega arith
kind_of_word (Ok (Polarity vertical level)) h z = omega (arith, num_lt vertical, num_lt level)
kind_of_word (Err r) h z = omega (arith, h.1)

pub kind_of_decode : (w : ℕ) → number_of (decode w) ≡ 0 → kind_of (decode w) ≡ kind w
kind_of_decode w z = sym (kind_of_word (decode w) (decode_in_range w) z) ∙ ap kind (encode_decode w z)

-- the contract of `decode` for a result that equals the definition's
pub decode_case : (w : ℕ) (r : Decoded) → r ≡ decode w → (r ≡ decode w) × DecodedCase w r
decode_case w r e = (e, rw e (record { number = number_is w; values = encode_decode w }))
