-- The causes are all there are: each flag is set by what sets its source, is cleared by what clears it, and else stays.
-- Assumes nothing.
use mathlib.Core.Path.{◌≡◌, refl, ap, ◌∙◌}
use mathlib.Core.Bool.{Bool, true, false, not, ◌&&◌, ◌||◌, and_comm, and-false, or-false}
use Prim.Native.Nat.{ℕ}
use borrow.Author.Tests.{eqb-true}
use lib.Dec.{eqb}
use Rattle.std.specs.Prelude.{Ok, Err}
use Rattle.events.specs.Decoded.{Decoded}
use Rattle.events.specs.declared.Event.TheVariants.{Read, Write, Pin, Clock, Polarity}
use Rattle.events.specs.Word.{decode, InRange}
use Rattle.events.proofs.Refused.{decode_in_range}
use Rattle.chip.specs.declared.Chip.{Chip}
use Rattle.chip_events.specs.Outcome.{core_after, next}
use Rattle.chip_flag_laws.specs.Causes.{Source, flag, raises, clears}
use Rattle.chip_flag_laws.proofs.Flags.{after, never_read, never_write, never_reset, never_refused}
use Rattle.chip_flag_laws.proofs.Writes.{at_write}
use Rattle.chip_flag_laws.proofs.Pins.{at_pin}
use Rattle.chip_flag_laws.proofs.Clocks.{at_clock, at_polarity, never_clock}

at_event : (s : Source) (c : Chip) (e : Decoded) → InRange e → flag s (next c e) ≡ after s c e
unfolding next core_after clears
at_event s c (Ok (Read a)) h = rw (never_read s c a)
at_event s c (Ok (Write a b)) h = at_write s c a b h
at_event s c (Ok (Pin p level)) h = at_pin s c p level
at_event s c (Ok (Clock k)) h = at_clock s c k
at_event s c (Ok (Polarity vertical level)) h = at_polarity s c vertical level
at_event s c (Err r) h = rw (never_refused s c r)

-- each flag after each event
pub causes : (s : Source) (c : Chip) (e : Decoded) → InRange e → flag s (next c e) ≡ (raises s c e || (flag s c && not (clears s c e)))
causes s c e h = at_event s c e h ∙ ap (λ (b : Bool). raises s c e || b) (and_comm (not (clears s c e)) (flag s c))

-- from 0 it goes to 1 where its source is raised, and not otherwise
pub sets_exactly : (s : Source) (c : Chip) (e : Decoded) → InRange e → flag s c ≡ false → flag s (next c e) ≡ raises s c e
sets_exactly s c e h f = causes s c e h ∙ rw f (or-false (raises s c e))

-- ---- nothing sets a flag and clears it at once

apart_pin : (s : Source) (c : Chip) (p : ℕ) (level found : Bool) → eqb p 28 ≡ found → (raises s c (Ok (Pin p level)) && (found && (c.core.reset && not level))) ≡ false
apart_pin s c p level true e = rw (eqb-true p 28 e, never_reset s c level)
apart_pin s c p level false e = and-false (raises s c (Ok (Pin p level)))

apart_clock : (s : Source) (c : Chip) (k : ℕ) (found x : Bool) → eqb k 3 ≡ found → (raises s c (Ok (Clock k)) && (found && x)) ≡ false
apart_clock s c k true x e = rw (eqb-true k 3 e, never_clock s c 3 refl refl)
apart_clock s c k false x e = and-false (raises s c (Ok (Clock k)))

pub apart : (s : Source) (c : Chip) (e : Decoded) → (raises s c e && clears s c e) ≡ false
unfolding clears
apart s c (Ok (Read a)) = and-false (raises s c (Ok (Read a)))
apart s c (Ok (Write a b)) = rw (never_write s c a b)
apart s c (Ok (Pin p level)) = apart_pin s c p level (eqb p 28) refl
apart s c (Ok (Clock k)) = apart_clock s c k (eqb k 3) _ refl
apart s c (Ok (Polarity vertical level)) = and-false (raises s c (Ok (Polarity vertical level)))
apart s c (Err r) = and-false (raises s c (Err r))

kept : (raised cleared : Bool) → (raised && cleared) ≡ false → (raised || not cleared) ≡ not cleared
kept true true e = cc
kept true false e = refl
kept false cleared e = refl

-- from 1 it goes to 0 where it is cleared, and not otherwise
pub clears_exactly : (s : Source) (c : Chip) (e : Decoded) → InRange e → flag s c ≡ true → flag s (next c e) ≡ not (clears s c e)
clears_exactly s c e h f = causes s c e h ∙ rw f (kept (raises s c e) (clears s c e) (apart s c e))

-- the same for every event word
pub causes_of_word : (s : Source) (c : Chip) (word : ℕ) →
    flag s (next c (decode word)) ≡ (raises s c (decode word) || (flag s c && not (clears s c (decode word))))
causes_of_word s c word = causes s c (decode word) (decode_in_range word)
