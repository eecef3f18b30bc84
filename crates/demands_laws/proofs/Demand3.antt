-- Demand 3: a transfer on the bus that is meant for another device can't be told from another one. Two whole lists of words, from one
-- state: DDC2B, a START just seen.
use Prim.Native.Nat.{ℕ}
use mathlib.Core.Path.{◌≡◌}
use mathlib.Core.Bool.{true}
use mathlib.Core.List.{List, []}
use Rattle.bus.specs.declared.Mode.TheVariants.{Ddc2b}
use Rattle.bus_ddc2b.specs.Ddc2b.{start_phase}
use Rattle.chip.specs.declared.Chip.{Chip}
use Rattle.chip.specs.State.{mode_of}
use Rattle.list_call.specs.Run.{after, answers, run, run_answers}
use Rattle.isolation_laws.specs.Foreign.{alike, since, observer_of, throughout, permitted, untouched, compared_answers, compared_state}
use Rattle.isolation_laws.proofs.Theorems as isolation

module _ (c : Chip) (ddc2b : mode_of c.core ≡ Ddc2b) (started : c.core.bus.phase ≡ start_phase) (words others : List ℕ)
    (same-words : alike words others ≡ true)  -- the same words at the same places, but for levels of SDA
    (for-others : throughout permitted (observer_of c (since [])) words ≡ true)  -- no address of this chip is completed, DDC2B is not left, no reset
    (too : throughout permitted (observer_of c (since [])) others ≡ true)
    (while-low : throughout untouched (observer_of c (since [])) words ≡ true)  -- SDA is touched only while SCL is low
  where
    -- by the step: the answers are the same but for the byte of a read of II DAT, and the states but for II DAT, SDA's level and the bits of an unfinished address
    pub not_told_apart : (compared_answers words (answers c words) ≡ compared_answers others (answers c others)) × (compared_state (after c words) ≡ compared_state (after c others))
    not_told_apart =
        let k = isolation.one_transfer c ddc2b started words others (record { words = same-words; left = for-others; right = too; sda = while-low }) in
        (k.answers_agree, k.states_agree)

    -- by two list calls that return 0, whatever their answer places hold
    pub calls_not_told_apart : (places places' : List ℕ) → (run c words places).number ≡ 0 → (run c others places').number ≡ 0
        → (compared_answers words (run_answers c words places) ≡ compared_answers others (run_answers c others places')) × (compared_state (run c words places).chip ≡ compared_state (run c others places').chip)
    calls_not_told_apart places places' n n' =
        let k = isolation.one_transfer_called c ddc2b started words others places places' (record { words = same-words; left = for-others; right = too; sda = while-low }) n n' in
        (k.answers_agree, k.states_agree)
