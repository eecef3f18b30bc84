-- Laws of `&` and `|` over all numbers, by induction on binary digits: a law at three digits is computed.
-- Assumes nothing.
use mathlib.Core.Path.{◌≡◌, refl, sym, ap₂, ◌∙◌}
use mathlib.Core.Bool.{Bool}
use Prim.Native.Nat.{ℕ, ◌+◌, ◌*◌, ◌/◌, ◌%◌, ◌<◌, min, max}
use native.Mathlib.Nat.{mod-lt}
use lib.Arith.{bin_ind}
use lib.Dec.{T, eqb, eqb→eq, lit<}
use lib.Bits.{bit_and, bit_or, and_step, or_step, and_shr, or_shr, and_mod, or_mod}
use Rattle.bits.specs.Finite.{all_below}
use Rattle.bits.proofs.Finite.{at_each, at_each_pair}

-- the lowest digits of three numbers, at which a test holds for all digits
low_digits : (f : ℕ → ℕ → ℕ → Bool) → T (all_below (λ x. all_below (λ y. all_below (f x y) 2) 2) 2) → (a b c : ℕ) → T (f (a % 2) (b % 2) (c % 2))
low_digits f t a b c =
    let below : (n : ℕ) → n % 2 < 2 = λ n. mod-lt n (lit< tt) in
    at_each (f (a % 2) (b % 2)) 2 (at_each_pair (λ x y. all_below (f x y) 2) 2 2 t (a % 2) (b % 2) (below a) (below b)) (c % 2) (below c)

pub and_or : (a b k : ℕ) → bit_and (bit_or a b) k ≡ bit_or (bit_and a k) (bit_and b k)
and_or =
    bin_ind (λ (a : ℕ). (b k : ℕ) → bit_and (bit_or a b) k ≡ bit_or (bit_and a k) (bit_and b k))
    (λ b k. refl)
    (λ a ih b k.
    and_step (bit_or a b) k
    ∙ ap₂ (λ (x y : ℕ). bit_and x (k / 2) * 2 + min y (k % 2)) (or_shr a b 1) (or_mod a b 1)
    ∙ ap₂ (λ (x y : ℕ). x * 2 + y) (ih (b / 2) (k / 2)) (eqb→eq _ _ (low_digits (λ x y z. eqb (min (bit_or x y) z) (max (bit_and x z) (bit_and y z))) tt a b k))
    ∙ sym
    (or_step (bit_and a k) (bit_and b k)
    ∙ ap₂ (λ (x y : ℕ). x * 2 + y) (ap₂ bit_or (and_shr a k 1) (and_shr b k 1)) (ap₂ max (and_mod a k 1) (and_mod b k 1))))

pub and_assoc : (a b c : ℕ) → bit_and (bit_and a b) c ≡ bit_and a (bit_and b c)
and_assoc =
    bin_ind (λ (a : ℕ). (b c : ℕ) → bit_and (bit_and a b) c ≡ bit_and a (bit_and b c))
    (λ b c. refl)
    (λ a ih b c.
    and_step (bit_and a b) c
    ∙ ap₂ (λ (x y : ℕ). bit_and x (c / 2) * 2 + min y (c % 2)) (and_shr a b 1) (and_mod a b 1)
    ∙ ap₂ (λ (x y : ℕ). x * 2 + y) (ih (b / 2) (c / 2)) (eqb→eq _ _ (low_digits (λ x y z. eqb (min (bit_and x y) z) (min x (bit_and y z))) tt a b c))
    ∙ sym (and_step a (bit_and b c) ∙ ap₂ (λ (x y : ℕ). bit_and (a / 2) x * 2 + min (a % 2) y) (and_shr b c 1) (and_mod b c 1)))
