-- The two runs of docs/RECALL.md, computed from images/recall-foreign.events and images/recall-own.events: their ends, and what PT0 reads.
use Prim.Native.Nat.{ℕ}
use mathlib.Core.Path.{◌≡◌, refl, ap}
use mathlib.Core.Bool.{Bool, true, false}
use mathlib.Core.List.{List, [], ◌∷◌}
use Rattle.firmware_machine.specs.Run.{runs}
use Rattle.firmware_isolation_laws.specs.Trace.{trace, accesses_of}
use Rattle.recall_laws.specs.Wait.{power_up, Leaves, is_uninterrupted}
use Rattle.recall_image_laws.specs.Image.{rom, is_waiting, has_picture}
use Rattle.recall_image_laws.specs.Lists.{foreign_events, own_events}
use Rattle.recall_image_laws.specs.Files.{end_of}
use Rattle.recall_image_laws.proofs.Opened.{image}

-- another device is addressed
pub foreign_ends : end_of is_waiting (runs 2153 0 rom foreign_events (power_up rom)) ≡ (0, true, 74 ∷ 0xFE ∷ 0xFE ∷ [])
unfolding image
foreign_ends = refl

-- the monitor is addressed
pub own_ends : end_of has_picture (runs 2187 0 rom own_events (power_up rom)) ≡ (0, true, 74 ∷ 0xFE ∷ 0xFF ∷ [])
unfolding image
own_ends = refl

own_interrupted : is_uninterrupted (accesses_of (trace 2187 0 rom own_events (power_up rom))) ≡ false
unfolding image
own_interrupted = refl

pub own_leaves : Leaves has_picture (runs 2187 0 rom own_events (power_up rom)) (trace 2187 0 rom own_events (power_up rom))
own_leaves = record { unrefused = ap (λ (x : ℕ × Bool × List ℕ). x.0) own_ends; interrupted = own_interrupted; past = ap (λ (x : ℕ × Bool × List ℕ). x.1) own_ends }
