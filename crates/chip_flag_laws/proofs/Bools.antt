-- A law of Bools, from a test that antt computes at each of them.
-- Assumes nothing.
use mathlib.Core.Bool.{Bool, true, false, ◌&&◌}
use lib.Dec.{T}
use Rattle.bits.proofs.Finite.{and_left, and_right}

-- the test holds at both
abbrev pub always : (Bool → Bool) → Bool
always f = f true && f false

pub at_bool : (f : Bool → Bool) → T (always f) → (b : Bool) → T (f b)
at_bool f t true = and_left (f true) (f false) t
at_bool f t false = and_right (f true) (f false) t

pub at_two : (f : Bool → Bool → Bool) → T (always (λ a. always (f a))) → (a b : Bool) → T (f a b)
at_two f t a b = at_bool (f a) (at_bool (λ a. always (f a)) t a) b

pub at_three : (f : Bool → Bool → Bool → Bool) → T (always (λ a. always (λ b. always (f a b)))) → (a b c : Bool) → T (f a b c)
at_three f t a b c = at_bool (f a b) (at_two (λ a b. always (f a b)) t a b) c

pub at_four : (f : Bool → Bool → Bool → Bool → Bool) → T (always (λ a. always (λ b. always (λ c. always (f a b c))))) → (a b c d : Bool) → T (f a b c d)
at_four f t a b c d = at_two (f a b) (at_two (λ a b. always (λ c. always (f a b c))) t a b) c d

pub at_six : (f : Bool → Bool → Bool → Bool → Bool → Bool → Bool) →
    T (always (λ a. always (λ b. always (λ c. always (λ d. always (λ e. always (f a b c d e)))))))
    → (a b c d e g : Bool) → T (f a b c d e g)
at_six f t a b c d e g = at_two (f a b c d) (at_four (λ a b c d. always (λ e. always (f a b c d e))) t a b c d) e g

pub at_eight : (f : Bool → Bool → Bool → Bool → Bool → Bool → Bool → Bool → Bool) →
    T (always (λ a. always (λ b. always (λ c. always (λ d. always (λ e. always (λ g. always (λ h. always (f a b c d e g h)))))))))
    → (a b c d e g h i : Bool) → T (f a b c d e g h i)
at_eight f t a b c d e g h i = at_four (f a b c d) (at_four (λ a b c d. always (λ e. always (λ g. always (λ h. always (f a b c d e g h))))) t a b c d) e g h i
