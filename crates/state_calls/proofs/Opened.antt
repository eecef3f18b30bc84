-- What a call has of an area that it has read.
-- Assumes nothing.
use Prim.Native.Nat.{ℕ}
use mathlib.Core.Path.{◌≡◌}
use mathlib.Core.Bool.{true}
use mathlib.Core.List.{List, [], ◌∷◌}
use lib.ListN.{get_or}
use Rattle.std.specs.Prelude.{Ok, Err}
use Rattle.bits.specs.Byte.{pick}
use Rattle.chip.specs.declared.Chip.{Chip}
use Rattle.chip_well_formed.specs.WellFormed.{well_formed}
use Rattle.step.specs.Step.{step}
use Rattle.list_call.specs.Run.{run, run_answers, advance_all, advance_all_answers}
use Rattle.state_bytes.specs.Layout.{bytes_of}
use Rattle.state_area.specs.declared.AreaFault.{AreaFault}
use Rattle.state_area.specs.declared.AreaFault.TheVariants.{WrongLength, IllFormed}
use Rattle.state_area.specs.Area.{fault_number, loaded, number_in, state_in, put_in}
use Rattle.state_area.proofs.Accepted.{put_loaded, loaded_well}
use Rattle.state_calls.specs.Calls.{holds_state}

-- it holds a state: what the call makes of it
module _ (s : List ℕ) (d : Chip) (e : Ok d ≡ loaded s) where
  numbered : number_in s ≡ 0
  numbered = rw (← e)

  pub done : {A : Type 0} (f : Chip → A) (y : A) → f d ≡ pick (holds_state s) (f (state_in s)) y
  done f y = rw (← e)

  pub put_done : (f : Chip → Chip) → put_in (f d) s ≡ pick (holds_state s) (bytes_of (f (state_in s))) s
  put_done f = rw (← e) (put_loaded s numbered (f d))

  pub well : well_formed d ≡ true
  well = rw (← e) at (loaded_well s numbered)

-- it is refused: what depends on the fault alone
pub refused : {A : Type 0} (s : List ℕ) (fault : AreaFault) → Err fault ≡ loaded s → (x : A) (g : ℕ → A) → g (fault_number fault) ≡ pick (holds_state s) x (g (number_in s))
refused s WrongLength e x g = rw (← e)
refused s IllFormed e x g = rw (← e)

-- at a well formed state the list call needs no test, and on one word it is the step
module _ (c : Chip) (t : well_formed c ≡ true) where
  pub untested : (ws ps : List ℕ) → (run c ws ps ≡ advance_all c ws ps) × (run_answers c ws ps ≡ advance_all_answers c ws ps)
  unfolding run run_answers
  untested ws ps = (rw t, rw t)

  pub one_word : (w : ℕ) → record { chip = (advance_all c (w ∷ []) (0 ∷ [])).chip; answer = get_or (advance_all_answers c (w ∷ []) (0 ∷ [])) 0 0 } ≡ step c w
  unfolding step
  one_word w = rw t
