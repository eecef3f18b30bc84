-- The clauses of well formed, computed: every state within is well formed, and none past a bound is.
-- Assumes nothing.
use mathlib.Core.Path.{◌≡◌, refl}
use mathlib.Core.List.{[]}
use Prim.Native.Nat.{ℕ}
use Rattle.bits.specs.Byte.{bit}
use Rattle.registers.specs.Table.{table, row_of, reset_value, write_mask, resets}
use Rattle.sync.specs.Sync.{zero_sync, well_sync}
use Rattle.bus.specs.Bus.{mode}
use Rattle.chip.specs.State.{reset_at, fresh}
use Rattle.chip_well_formed.specs.WellFormed.{reserved_mask, reserved_at, reserved_apart, gathered_fits, phase_fits, is_idle, is_unused, bus_fits, well_formed}
use Rattle.chip_formed_cases.specs.Clauses.{failing, ranges, stored, apart, modes, gathering, sending, free}

-- a proof that names this on its `unfolding` line computes the test of a state
unfoldable pub tested : ℕ
unfolding bit table row_of reset_value write_mask resets zero_sync well_sync mode reset_at fresh reserved_mask reserved_at reserved_apart gathered_fits phase_fits is_idle is_unused bus_fits well_formed
tested = 0

pub ranges_hold : failing ranges ≡ []
unfolding tested ranges
ranges_hold = refl

pub stored_hold : failing stored ≡ []
unfolding tested stored
stored_hold = refl

pub apart_hold : failing apart ≡ []
unfolding tested apart
apart_hold = refl

pub modes_hold : failing modes ≡ []
unfolding tested modes
modes_hold = refl

pub gathering_hold : failing gathering ≡ []
unfolding tested gathering
gathering_hold = refl

pub sending_hold : failing sending ≡ []
unfolding tested sending
sending_hold = refl

pub free_hold : failing free ≡ []
unfolding tested free
free_hold = refl
