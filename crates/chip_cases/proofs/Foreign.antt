-- The theorems of `isolation_laws` at work: two foreign transfers from a START, with RESET low at first, and several from an idle bus.
use Prim.Native.Nat.{ℕ}
use mathlib.Core.Path.{◌≡◌, refl}
use mathlib.Core.List.{[], ◌∷◌, ◌++◌}
use mathlib.Core.Bool.{Bool, false}
use Rattle.bus.specs.declared.Phase.{Phase}
use Rattle.bus.specs.declared.Phase.TheVariants.{Ignoring}
use Rattle.list_call.specs.Run.{after}
use Rattle.isolation_laws.specs.Foreign.{since, observer_of, observe, permitted, untouched, throughout, RunsAgree, bus_idle}
use Rattle.isolation_laws.proofs.Theorems.{one_transfer, several_transfers}
use Rattle.chip_cases.specs.Foreign.{clock_bit, transfer, whole, idle_state, started_state, low_state, after_low}
use Rattle.chip_cases.proofs.Opened.{opened}

-- ---- words

-- ---- states

-- ---- one transfer: A2H and 54H are not for this chip

pub foreign_agree : RunsAgree started_state (transfer 0xa2) (transfer 0x54)
unfolding opened observe permitted untouched idle_state started_state transfer clock_bit
foreign_agree = one_transfer started_state refl refl (transfer 0xa2) (transfer 0x54) (record { words = refl; left = refl; right = refl; sda = refl })

-- both end ignoring, and II DAT is what differs
pub foreign_ends : ◌≡◌ {A = Phase × ℕ × ℕ} ((after started_state (transfer 0xa2)).core.bus.phase, (after started_state (transfer 0xa2)).core.bus.iidat, (after started_state (transfer 0x54)).core.bus.iidat) (Ignoring, 0xa2, 0x54)
unfolding opened observe permitted untouched idle_state started_state transfer clock_bit
foreign_ends = refl

-- A0H, and FEH for II ADR at FFH, are this chip's: the premises refuse them, and 54H once it is written to II ADR
pub own_refused : ◌≡◌ {A = Bool × Bool × Bool} (throughout permitted (observer_of started_state (since [])) (transfer 0xa0), throughout permitted (observer_of started_state (since [])) (transfer 0xfe), throughout permitted (observer_of started_state (since [])) (0x02001354 ∷ transfer 0x54)) (false, false, false)
unfolding opened observe permitted untouched idle_state started_state transfer clock_bit
own_refused = refl

-- ---- RESET low at first: a clock then is not gathered, and the transfer begins once RESET is high

pub low_agree : RunsAgree low_state (after_low 0xa2) (after_low 0x55)
unfolding opened observe permitted untouched idle_state started_state low_state transfer clock_bit after_low
low_agree = one_transfer low_state refl refl (after_low 0xa2) (after_low 0x55) (record { words = refl; left = refl; right = refl; sda = refl })

-- ---- several transfers from an idle bus
pub several_agree : RunsAgree idle_state (whole 0xa2 ++ whole 0x10) (whole 0x54 ++ whole 0xee)
unfolding opened observe permitted untouched idle_state transfer clock_bit whole
several_agree = several_transfers idle_state refl bus_idle (whole 0xa2 ++ whole 0x10) (whole 0x54 ++ whole 0xee) (record { words = refl; left = refl; right = refl; sda = refl })
