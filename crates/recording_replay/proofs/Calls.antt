-- The list call at a well formed chip with enough places.
-- Assumes nothing.
use mathlib.Core.Path.{◌≡◌}
use mathlib.Core.Bool.{true}
use mathlib.Core.List.{List, ◌++◌}
use Prim.Native.Nat.{ℕ, ◌≤◌}
use borrow.Author.Tests.{le-ltb}
use lib.ListN.{length, drop}
use Rattle.chip.specs.declared.Chip.{Chip}
use Rattle.chip_well_formed.specs.WellFormed.{well_formed}
use Rattle.list_call.specs.Run.{advanced, advanced_answers, run, run_answers}

module _ (c : Chip) (ws places : List ℕ) (t : well_formed c ≡ true) (h : length ws ≤ length places) where
  pub call_chip : (run c ws places).chip ≡ advanced c ws
  unfolding run
  call_chip = rw (t, le-ltb _ _ h)

  pub call_answers : run_answers c ws places ≡ advanced_answers c ws ++ drop (length ws) places
  unfolding run_answers
  call_answers = rw (t, le-ltb _ _ h)
