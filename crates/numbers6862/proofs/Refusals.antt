-- Each number of a call is given exactly when its rule says, and a refusal leaves the twelve numbers.
-- Assumes nothing.
use Prim.Native.Nat.{ℕ}
use mathlib.Core.Path.{◌≡◌, refl, ◌∙◌}
use mathlib.Core.Bool.{Bool, true, false}
use mathlib.Core.List.{List}
use lib.Dec.{eqb}
use Rattle.std.proofs.Common.{Option, Some, None, Result, Ok, Err}
use Rattle.bits.specs.Byte.{pick}
use Rattle.sync6862.specs.declared.Counters.{Counters}
use Rattle.sync6862.specs.declared.Refusal.{Refusal}
use Rattle.sync6862.specs.Unit.{refusal_number, given_number}
use Rattle.sync6862.proofs.Numbers.{number_exact}
use Rattle.numbers6862.specs.declared.Asked.{Asked}
use Rattle.numbers6862.specs.declared.Asked.TheVariants.{Do, Clocks}
use Rattle.numbers6862.specs.Numbers.{read, asked, given, given_as, given_to, after, written_as, call, told, asked_number, offered_number, call_number}

-- ---- numbers

asked_number_lem : (wish : Result Asked Refusal) (s : Counters) → given_number (given_as wish s) ≡ asked_number wish s
unfolding given asked_number
asked_number_lem (Ok (Do call)) s = number_exact s call
asked_number_lem (Ok (Clocks times)) s = refl
asked_number_lem (Err why) s = refl

offered_number_lem : (state : Option Counters) (code value : ℕ) → given_number (given_to state code value) ≡ offered_number state code value
unfolding given_to offered_number refusal_number
offered_number_lem (Some s) code value = asked_number_lem (asked s.part code value) s
offered_number_lem None code value = refl

number_by : (t : Bool) (x y : Result Counters Refusal) (a b : ℕ) → given_number x ≡ a → given_number y ≡ b → given_number (pick t x y) ≡ pick t a b
number_by true x y a b h k = h
number_by false x y a b h k = k

after_number : (n : List ℕ) (code value : ℕ) → given_number (after n code value) ≡ call_number n code value
unfolding after call_number
after_number n code value = number_by (eqb code 0) _ _ _ _ refl (offered_number_lem (read n) code value)

written_number : (n : List ℕ) (r : Result Counters Refusal) → (told n (written_as r)).0 ≡ given_number r
unfolding written_as
written_number n (Ok s) = refl
written_number n (Err why) = refl

pub call_number_lem : (n : List ℕ) (code value : ℕ) → (told n (call n code value)).0 ≡ call_number n code value
unfolding call
call_number_lem n code value = written_number n (after n code value) ∙ after_number n code value

-- ---- what a refusal leaves

refused_unmoved : (n : List ℕ) (r : Result (List ℕ) Refusal) → ((told n r).0 ≡ 0 → ⊥) → (told n r).1 ≡ n
refused_unmoved n (Ok next) h = absurd (h refl)
refused_unmoved n (Err why) h = refl

pub call_unmoved : (n : List ℕ) (code value : ℕ) → ((told n (call n code value)).0 ≡ 0 → ⊥) → (told n (call n code value)).1 ≡ n
call_unmoved n code value h = refused_unmoved n (call n code value) h
