-- Demands 2 and 3 for the state in bytes.
-- Assumes nothing.
use Prim.Native.Nat.{ℕ}
use mathlib.Core.Path.{◌≡◌}
use mathlib.Core.Bool.{true, not, ◌&&◌, ◌||◌}
use mathlib.Core.List.{List, []}
use Rattle.bus.specs.declared.Mode.TheVariants.{Ddc2b}
use Rattle.bus_ddc2b.specs.Ddc2b.{start_phase}
use Rattle.chip.specs.declared.Chip.{Chip}
use Rattle.chip.specs.State.{mode_of}
use Rattle.chip_well_formed.specs.WellFormed.{well_formed}
use Rattle.events.specs.Word.{decode}
use Rattle.step.specs.Step.{step, advance}
use Rattle.chip_flag_laws.specs.Causes.{Source, flag, raises, clears}
use Rattle.chip_flag_laws.proofs.Causes.{causes_of_word}
use Rattle.list_call_laws.proofs.Runs.{step_advances}
use Rattle.list_call.specs.Run.{after, answers}
use Rattle.isolation_laws.specs.Foreign.{Trace, since, observer_of, OneTransfer, SeveralTransfers, Begun, Agree, CallsAgree}
use Rattle.isolation_laws.proofs.Theorems.{several_transfers, one_transfer, several_transfers_called, one_transfer_called}
use Rattle.state_area.specs.Area.{state_in}
use Rattle.state_calls.specs.Calls.{holds_state, step_area, step_answer, run_number}
use Rattle.state_laws.specs.Bytes.{BytesRunsAgree, BytesCallsAgree}
use Rattle.state_laws.proofs.Stays.{well, stepped_holds, after_holds, answers_given, call_number_lem, call_places, call_state}

-- ---- demand 2: whatever holds of every step of a well formed state holds of every step of its bytes, the state being what the area
-- holds before and after

caused : (q : Source) (c : Chip) (w : ℕ) → well_formed c ≡ true → flag q (step c w).chip ≡ (raises q c (decode w) || (flag q c && not (clears q c (decode w))))
unfolding advance
caused q c w t = rw (step_advances c w t) (causes_of_word q c w)

module _ (P : Chip → ℕ → Chip → ℕ → Type 0) (proved : (c : Chip) (w : ℕ) → well_formed c ≡ true → P c w (step c w).chip (step c w).answer) where
  pub demand_2 : (s : List ℕ) → holds_state s ≡ true → (w : ℕ) → P (state_in s) w (state_in (step_area s w)) (step_answer s w)
  unfolding step_answer
  demand_2 s held w = rw (stepped_holds s held w, held) (proved (state_in s) w (well s held))

-- what sets and clears each flag, on bytes
pub causes_on_bytes : (q : Source) (s : List ℕ) → holds_state s ≡ true → (w : ℕ)
    → flag q (state_in (step_area s w)) ≡ (raises q (state_in s) (decode w) || (flag q (state_in s) && not (clears q (state_in s) (decode w))))
causes_on_bytes q = demand_2 (λ (c : Chip) (w : ℕ) (d : Chip) (a : ℕ). flag q d ≡ (raises q c (decode w) || (flag q c && not (clears q c (decode w))))) (caused q)

-- ---- demand 3: runs of the step on bytes from one area

module _ (s : List ℕ) (held : holds_state s ≡ true) (ddc2b : mode_of (state_in s).core ≡ Ddc2b) where
  carried : (ws vs : List ℕ) → Agree ws vs (answers (state_in s) ws) (answers (state_in s) vs) (after (state_in s) ws) (after (state_in s) vs) → BytesRunsAgree s ws vs
  carried ws vs a = rw (answers_given s held ws, answers_given s held vs, after_holds s held ws, after_holds s held vs) a

  pub demand_3 : (state_in s).core.bus.phase ≡ start_phase → (ws vs : List ℕ) → OneTransfer (observer_of (state_in s) (since [])) ws vs → BytesRunsAgree s ws vs
  demand_3 b ws vs p = carried ws vs (one_transfer (state_in s) ddc2b b ws vs p)

  -- over any number of foreign transfers (Wish 13)
  pub demand_3_several : {t : Trace} → Begun (state_in s).core.bus.phase t → (ws vs : List ℕ)
      → SeveralTransfers (observer_of (state_in s) t) (observer_of (state_in s) t) ws vs → BytesRunsAgree s ws vs
  demand_3_several b ws vs p = carried ws vs (several_transfers (state_in s) ddc2b b ws vs p)

  -- two list calls that return 0, with the answer places xs and ys
  carried_called : (ws vs xs ys : List ℕ) → CallsAgree (state_in s) ws vs xs ys → BytesCallsAgree s ws vs xs ys
  carried_called ws vs xs ys a = rw (call_places s held ws xs, call_places s held vs ys, call_state s held ws xs, call_state s held vs ys) a

  pub demand_3_called : (state_in s).core.bus.phase ≡ start_phase → (ws vs xs ys : List ℕ) → OneTransfer (observer_of (state_in s) (since [])) ws vs
      → run_number s ws xs ≡ 0 → run_number s vs ys ≡ 0 → BytesCallsAgree s ws vs xs ys
  demand_3_called b ws vs xs ys p n n' =
      carried_called ws vs xs ys (one_transfer_called (state_in s) ddc2b b ws vs xs ys p (rw (call_number_lem s held ws xs) at n) (rw (call_number_lem s held vs ys) at n'))

  pub demand_3_several_called : {t : Trace} → Begun (state_in s).core.bus.phase t → (ws vs xs ys : List ℕ)
      → SeveralTransfers (observer_of (state_in s) t) (observer_of (state_in s) t) ws vs
      → run_number s ws xs ≡ 0 → run_number s vs ys ≡ 0 → BytesCallsAgree s ws vs xs ys
  demand_3_several_called b ws vs xs ys p n n' =
      carried_called ws vs xs ys (several_transfers_called (state_in s) ddc2b b ws vs xs ys p (rw (call_number_lem s held ws xs) at n) (rw (call_number_lem s held vs ys) at n'))
