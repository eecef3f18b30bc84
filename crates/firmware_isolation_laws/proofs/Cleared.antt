-- Two observers of the same words, of which the second has counted no more watchdog clocks: what the first permits the second does.
use Prim.Native.Nat.{ℕ, ◌+◌, ◌≤◌}
use mathlib.Core.Path.{◌≡◌, refl}
use mathlib.Core.Bool.{Bool, true, false, not, ◌&&◌}
use mathlib.Core.List.{List, [], ◌∷◌}
use native.Mathlib.Omega.{arith}
use lib.Dec.{eqb, ltb}
use borrow.Author.Tests.{lt-ltb, ltb-true, not-true, not-false}
use Rattle.bits.specs.Byte.{pick}
use Rattle.bits.proofs.Finite.{both as both_true}
use Rattle.registers.specs.Names.{CLRWDT, IIADR}
use Rattle.registers.specs.Table.{is_writable}
use Rattle.std.specs.Prelude.{Ok, Err}
use Rattle.events.specs.Word.{decode}
use Rattle.events.specs.Clocks as clock
use Rattle.events.specs.Decoded.{Decoded}
use Rattle.events.specs.declared.Event.TheVariants.{Read, Write, Pin, Clock, Polarity}
use Rattle.isolation_laws.specs.Foreign as words
use Rattle.isolation_laws.specs.Foreign.{Trace, Observer, observe, permitted, untouched, equal_at_high}

pub data Cleared : Observer → Observer → Type 0 where
  cleared : (sda scl reset : Bool) (own : ℕ) (x : Trace) (k l : ℕ) → l ≤ k
      → Cleared (record { sda = sda; scl = scl; reset = reset; own = own; watchdog = k; trace = x }) (record { sda = sda; scl = scl; reset = reset; own = own; watchdog = l; trace = x })

-- ---- an event

fewer : (r b : Bool) (k l : ℕ) → l ≤ k → not (r && (b && not (ltb k 63))) ≡ true → not (r && (b && not (ltb l 63))) ≡ true
fewer false b k l g h = refl
fewer true false k l g h = refl
fewer true true k l g h =
    let z : ltb k 63 ≡ true = not-false (ltb k 63) (not-true (not (ltb k 63)) h) in
    rw (lt-ltb l 63 (omega (arith, g, ltb-true k 63 z)))

permitted_cleared : {o q : Observer} → Cleared o q → (e : Decoded) → permitted o e ≡ true → permitted q e ≡ true
unfolding permitted
permitted_cleared (cleared s c r own x k l g) (Ok (Read a)) h = h
permitted_cleared (cleared s c r own x k l g) (Ok (Write a b)) h = h
permitted_cleared (cleared s c r own x k l g) (Ok (Pin a b)) h = h
permitted_cleared (cleared s c r own x k l g) (Ok (Clock a)) h = fewer r (eqb a clock.watchdog) k l g h
permitted_cleared (cleared s c r own x k l g) (Ok (Polarity a b)) h = h
permitted_cleared (cleared s c r own x k l g) (Err a) h = h

zeroed_le : (b : Bool) (k l : ℕ) → l ≤ k → pick b 0 l ≤ pick b 0 k
zeroed_le true k l g = omega arith
zeroed_le false k l g = g

counted_le : (b : Bool) (k l : ℕ) → l ≤ k → pick b (l + 1) l ≤ pick b (k + 1) k
counted_le true k l g = omega (arith, g)
counted_le false k l g = g

observe_cleared : {o q : Observer} → Cleared o q → (e : Decoded) → Cleared (observe o e) (observe q e)
unfolding observe
observe_cleared (cleared s c r own x k l g) (Ok (Read a)) = cleared s c r own x k l g
observe_cleared (cleared s c r own x k l g) (Ok (Write a b)) = cleared _ _ _ _ _ _ _ (zeroed_le ((r && is_writable a) && (eqb a CLRWDT && eqb b 0x55)) k l g)
observe_cleared (cleared s c r own x k l g) (Ok (Pin a b)) = cleared _ _ _ _ _ _ _ g
observe_cleared (cleared s c r own x k l g) (Ok (Clock a)) = cleared _ _ _ _ _ _ _ (counted_le (r && eqb a clock.watchdog) k l g)
observe_cleared (cleared s c r own x k l g) (Ok (Polarity a b)) = cleared s c r own x k l g
observe_cleared (cleared s c r own x k l g) (Err a) = cleared s c r own x k l g

high_cleared : {o q p r : Observer} → Cleared o q → Cleared p r → (w v : ℕ) → equal_at_high o p w v ≡ true → equal_at_high q r w v ≡ true
unfolding untouched
high_cleared (cleared _ _ _ _ _ _ _ g) (cleared _ _ _ _ _ _ _ f) w v h = h

-- ---- a list of words

pub throughout_cleared : {o q : Observer} (ws : List ℕ) → Cleared o q → words.throughout permitted o ws ≡ true → words.throughout permitted q ws ≡ true
throughout_cleared [] t h = refl
throughout_cleared {o} {q} (w ∷ ws) t h =
    let z = both_true (permitted o (decode w)) _ h in
    rw (permitted_cleared t (decode w) z.0) (throughout_cleared {o = observe o (decode w)} {q = observe q (decode w)} ws (observe_cleared t (decode w)) z.1)

pub equal_cleared : {o q p r : Observer} (ws vs : List ℕ) → Cleared o q → Cleared p r → words.equal_throughout o p ws vs ≡ true → words.equal_throughout q r ws vs ≡ true
equal_cleared [] vs t u h = refl
equal_cleared (w ∷ ws) [] t u h = refl
equal_cleared {o} {q} {p} {r} (w ∷ ws) (v ∷ vs) t u h =
    let z = both_true (equal_at_high o p w v) _ h in
    rw (high_cleared t u w v z.0) (equal_cleared {o = observe o (decode w)} {q = observe q (decode w)} {p = observe p (decode v)} {r = observe r (decode v)} ws vs (observe_cleared t (decode w)) (observe_cleared u (decode v)) z.1)

-- ---- a write that is not to II ADR

own_kept : (b : Bool) (own y : ℕ) → pick (b && false) y own ≡ own
own_kept true own y = refl
own_kept false own y = refl

zero_le : (b : Bool) (k : ℕ) → pick b 0 k ≤ k
zero_le true k = omega arith
zero_le false k = omega arith

pub write_cleared : (o : Observer) (a b : ℕ) → eqb a IIADR ≡ false → Cleared o (observe o (Ok (Write a b)))
unfolding observe
write_cleared o a b h =
    rw (h, own_kept (o.reset && is_writable a) o.own b)
    (cleared o.sda o.scl o.reset o.own o.trace o.watchdog _ (zero_le ((o.reset && is_writable a) && (eqb a CLRWDT && eqb b 0x55)) o.watchdog))
