-- What the pass over the words has done after i of them, and one word more; and a pass in parts.
-- Assumes nothing.
use mathlib.Core.Path.{◌≡◌, refl}
use mathlib.Core.List.{List, [], ◌∷◌, ◌++◌}
use Prim.Native.Nat.{ℕ, ◌+◌, ◌<◌, ◌≤◌}
use native.Mathlib.Omega.{arith}
use native.Mathlib.Numerals.{add-one}
use lib.ListN.{length, drop, get_or}
use lib.Seq.{drop-cons, drop-length}
use Rattle.events.specs.Word.{decode}
use Rattle.chip.specs.declared.Core.{Core}
use Rattle.chip.specs.State.{chip_of, mode_of}
use Rattle.bus.specs.declared.Mode.{Mode}
use Rattle.step.specs.declared.CoreStepped.{CoreStepped}
use Rattle.step.specs.Step.{advance, core_of}
use Rattle.why_last_set.specs.declared.LastSet.{LastSet}
use Rattle.why_last_set.specs.LastSet.{all_noted}
use Rattle.why_reasons.specs.declared.Followed.{Followed}
use Rattle.why_reasons.specs.Explain.{next_place, followed_by, followed}

abbrev pub at : List ℕ → Core → ℕ → LastSet → Followed
at registers core place last = record { chip = chip_of registers core; place = place; last = last }

-- of the words ws from f, i are done
pub record Done (ws : List ℕ) (f now : Followed) (i : ℕ) : Type 0 where
  pub within : i ≤ length ws
  pub rest : followed now (drop i ws) ≡ followed f ws

module _ (ws : List ℕ) (f : Followed) (registers : List ℕ) (core : Core) (place : ℕ) (last : LastSet) (i : ℕ) (d : Done ws f (at registers core place last) i) where
  pub more : i < length ws
      → (r : CoreStepped) → r ≡ core_of (advance (chip_of registers core) (decode (get_or ws i 0)))
      → (stored : List ℕ) → stored ≡ (advance (chip_of registers core) (decode (get_or ws i 0))).chip.registers
      → (mode : Mode) → mode ≡ mode_of core
      → (noted : LastSet) → noted ≡ all_noted place core.irqx mode r.core last
      → (next : ℕ) → next ≡ next_place place
      → Done ws f (at stored r.core next noted) (i + 1)
  unfolding followed_by
  more h r q stored l mode m noted n next o =
      record {
        within = omega arith;
        rest = rw (add-one, o, n, m, q, l) (rw (drop-cons ws i 0 h) at d.rest);
      }

  pub all : length ws ≤ i → at registers core place last ≡ followed f ws
  all h =
      let e : i ≡ length ws = omega (arith, d.within) in
      rw (e, drop-length) at d.rest

-- a pass over two lists joined is the pass over the second from the end of the first
pub followed_append : (f : Followed) (ws vs : List ℕ) → followed f (ws ++ vs) ≡ followed (followed f ws) vs
followed_append f [] vs = refl
followed_append f (w ∷ ws) vs = followed_append (followed_by f w) ws vs
