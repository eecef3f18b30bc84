-- An answer word and its four parts determine one another.
use mathlib.Core.Path.{◌≡◌, refl, sym, ap, ◌∙◌}
use mathlib.Core.Bool.{Bool, false}
use Prim.Native.Nat.{ℕ, ◌/◌, ◌%◌, ◌<◌}
use native.Mathlib.Omega.{arith}
use Rattle.bits.specs.Byte.{num}
use Rattle.bits.proofs.Mask.{num_lt}
use Rattle.bits.proofs.Level.{eqb_num, num_eqb}
use Rattle.answers.specs.declared.AnswerFields.{AnswerFields}
use Rattle.answers.specs.Answer.{answer_word, answer_fields}

-- an answer word with these parts, whose requests and byte are bytes
module _ (number : ℕ) (watchdog : Bool) (requests byte : ℕ) (hr : requests < 256) (hb : byte < 256) where
  abbrev word : ℕ
  word = answer_word number watchdog requests byte

  pub fields_of_answer : answer_fields (answer_word number watchdog requests byte) ≡ record { number = number; watchdog = watchdog; requests = requests; byte = byte }
  fields_of_answer =
      let hw : num watchdog < 2 = num_lt watchdog in
      let n : word / 16777216 ≡ number = omega arith in
      let v : word / 65536 % 2 ≡ num watchdog = omega arith in
      let q : word / 256 % 256 ≡ requests = omega arith in
      let y : word % 256 ≡ byte = omega arith in
      rw (n, v, q, y, eqb_num watchdog)

  pub answer_zero_bits : answer_word number watchdog requests byte / 131072 % 128 ≡ 0
  answer_zero_bits = omega (arith, num_lt watchdog)

-- a word with 0 in bits 23..17 is the answer word of its parts
pub answer_of_fields : (w : ℕ) → w / 131072 % 128 ≡ 0 →
    answer_word (answer_fields w).number (answer_fields w).watchdog (answer_fields w).requests (answer_fields w).byte ≡ w
answer_of_fields w h =
    let low : w / 256 / 256 ≡ w / 65536 = omega arith in
    let middle : w / 65536 / 2 ≡ w / 131072 = omega arith in
    let high : w / 131072 / 128 ≡ w / 16777216 = omega arith in
    rw (num_eqb (w / 65536 % 2) (omega arith)) (omega arith)

-- equal words have equal parts
pub answer_injective : (number number' : ℕ) (watchdog watchdog' : Bool) (requests byte requests' byte' : ℕ) →
    requests < 256 → byte < 256 → requests' < 256 → byte' < 256 →
    answer_word number watchdog requests byte ≡ answer_word number' watchdog' requests' byte' →
    ◌≡◌ {A = AnswerFields} (record { number = number; watchdog = watchdog; requests = requests; byte = byte })
    (record { number = number'; watchdog = watchdog'; requests = requests'; byte = byte' })
answer_injective number number' watchdog watchdog' requests byte requests' byte' hr hb hr' hb' e =
    sym (fields_of_answer number watchdog requests byte hr hb) ∙ ap answer_fields e
    ∙ fields_of_answer number' watchdog' requests' byte' hr' hb'

-- the answer to an ill formed state
pub ill_formed_answer_lem : answer_word 8 false 0 0 ≡ 0x08000000
ill_formed_answer_lem = refl
