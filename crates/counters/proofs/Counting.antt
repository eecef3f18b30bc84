-- Laws of counting and latching, over the last value of a counter (document 01, "Counting sync").
use Prim.Native.Nat.{ℕ, zero, suc, ◌+◌, ◌%◌, ◌≤◌, ◌<◌}
use mathlib.Core.Path.{◌≡◌, refl, sym, ◌∙◌}
use mathlib.Core.Bool.{Bool, true, false, not}
use native.Mathlib.Omega.{arith}
use native.Mathlib.Nat.{zero-mod, mod-lt, mod-eq_of_lt, mod_self, suc-mod}
use native.Mathlib.Numerals.{add-one}
use lib.Dec.{ltb, eqb}
use borrow.Author.Tests.{ltb-true, ltb-false, lt-ltb, le-ltb, ne_eqb}
use Rattle.bits.specs.Byte.{pick}
use Rattle.counters.specs.Count.{at_last, counted, overflowed, latched, zeroed, cycle_next, steps, cycles, timer_overflows, watchdog_fires}

-- below the last value a step adds one and leaves the overflow bit 0
pub step_below : (last count : ℕ) → count < last → (counted last false count ≡ count + 1) × (overflowed last false count ≡ false)
unfolding counted overflowed
step_below last count h = (simp (lt-ltb _ _ h), simp (lt-ltb _ _ h))

-- a step due at the last value sets the overflow bit and keeps the count
pub step_at_last : (last : ℕ) → (counted last false last ≡ last) × (overflowed last false last ≡ true)
unfolding counted overflowed
step_at_last last = let h : last ≤ last = omega arith in (simp (le-ltb _ _ h), simp (le-ltb _ _ h))

-- in overflow the counter stands, and the overflow bit with it
pub overflow_stands : (last count : ℕ) → (counted last true count ≡ count) × (overflowed last true count ≡ true)
unfolding counted overflowed
overflow_stands last count = (refl, refl)

-- in overflow latching moves neither latch nor count
pub overflow_unlatched : (count latch : ℕ) → (latched true count latch ≡ latch) × (zeroed true count ≡ count)
unfolding latched zeroed
overflow_unlatched count latch = (refl, refl)

-- else the latch takes the count from before the zeroing
pub latch_then_zero : (count latch : ℕ) → (latched false count latch ≡ count) × (zeroed false count ≡ 0)
unfolding latched zeroed
latch_then_zero count latch = (refl, refl)

-- n steps from 0, up to the last value: n is the count
pub steps_within : (last n : ℕ) → n ≤ last → steps last n ≡ (n, false)
unfolding steps
steps_within last zero h = refl
steps_within last (suc n) h =
    let below : n < last = omega arith in
    rw (steps_within last n (omega arith), (step_below last n below).0, (step_below last n below).1, add-one)

-- one step more: from the last value, or in overflow already
step_past : (last n : ℕ) (past : Bool) → last < suc n → ltb last n ≡ past → (last < n → steps last n ≡ (last, true)) → steps last (suc n) ≡ (last, true)
unfolding steps
step_past last n true h e known =
    rw (known (ltb-true last n e), (overflow_stands last last).0, (overflow_stands last last).1)
step_past last n false h e known =
    let least : n ≤ last = ltb-false last n e in
    let same : n ≡ last = omega arith in
    rw (steps_within last n least, same, (step_at_last last).0, (step_at_last last).1)

-- more steps than that: the count is the last value, in overflow
pub steps_past : (last n : ℕ) → last < n → steps last n ≡ (last, true)
steps_past last zero h = let none : ⊥ = omega arith in absurd none
steps_past last (suc n) h = step_past last n (ltb last n) h refl (steps_past last n)

-- a count stays within its last value
within_by : (last count : ℕ) (below : Bool) → count ≤ last → ltb count last ≡ below → pick below (count + 1) count ≤ last
within_by last count true h e = let less = ltb-true count last e in omega arith
within_by last count false h e = h

pub counted_within : (last count : ℕ) (overflow : Bool) → count ≤ last → counted last overflow count ≤ last
unfolding counted
counted_within last count true h = h
counted_within last count false h = within_by last count (ltb count last) h refl

-- latching keeps latch and count below what bounds both
pub latched_below : (bound count latch : ℕ) (overflow : Bool) → count < bound → latch < bound → latched overflow count latch < bound
unfolding latched
latched_below bound count latch true h k = k
latched_below bound count latch false h k = h

pub zeroed_below : (bound count : ℕ) (overflow : Bool) → count < bound → zeroed overflow count < bound
unfolding zeroed
zeroed_below bound count true h = h
zeroed_below bound count false h = omega arith

-- a count that runs on stays within its last value
cycle_by : (last n : ℕ) (below : Bool) → ltb n last ≡ below → pick below (n + 1) 0 ≤ last
cycle_by last n true e = let less = ltb-true n last e in omega arith
cycle_by last n false e = omega arith

pub cycle_within : (last n : ℕ) → cycle_next last n ≤ last
unfolding cycle_next
cycle_within last n = cycle_by last n (ltb n last) refl

-- from a value within, the next one is the remainder of its successor
remainder_by : (last n : ℕ) (below : Bool) → n ≤ last → ltb n last ≡ below → pick below (n + 1) 0 ≡ suc n % (last + 1)
remainder_by last n true h e =
    let less = ltb-true n last e in
    let fits : suc n < last + 1 = omega arith in
    add-one n ∙ sym (mod-eq_of_lt fits)
remainder_by last n false h e =
    let most = ltb-false n last e in
    let same : suc n ≡ last + 1 = omega arith in
    rw same (sym (mod_self (last + 1)))

-- after n steps from 0 it is the remainder of n by the length of the cycle
pub cycles_remainder : (last n : ℕ) → cycles last n ≡ n % (last + 1)
unfolding cycles cycle_next
cycles_remainder last zero = sym (zero-mod (last + 1))
cycles_remainder last (suc n) =
    let positive : 0 < last + 1 = omega arith in
    let most = mod-lt n positive in
    rw (cycles_remainder last n, suc-mod n (last + 1)) (remainder_by last (n % (last + 1)) (ltb (n % (last + 1)) last) (omega arith) refl)

-- a step is due at the last value exactly where it leads to 0
due_by : (n : ℕ) (below : Bool) → not below ≡ eqb (pick below (n + 1) 0) 0
due_by n true = sym (ne_eqb (n + 1) 0 (λ e. omega arith))
due_by n false = refl

pub due_at_last : (last n : ℕ) → at_last last n ≡ eqb (cycle_next last n) 0
unfolding cycle_next
due_at_last last n = due_by n (ltb n last)

-- of all steps from 0, those are due that complete a multiple of the length
pub cycle_due : (last n : ℕ) → at_last last (cycles last n) ≡ eqb ((n + 1) % (last + 1)) 0
unfolding cycles
cycle_due last n = due_at_last last (cycles last n) ∙ rw (add-one n, ← (cycles_remainder last (suc n)))

-- from 00, every 256th step of the base timer sets flag R
pub timer_due : (n : ℕ) → timer_overflows (cycles 255 n) ≡ eqb ((n + 1) % 256) 0
unfolding timer_overflows
timer_due n = cycle_due 255 n

-- every 64th watchdog clock since reset or clearing resets the chip
pub watchdog_due : (n : ℕ) → watchdog_fires (cycles 63 n) ≡ eqb ((n + 1) % 64) 0
unfolding watchdog_fires
watchdog_due n = cycle_due 63 n
