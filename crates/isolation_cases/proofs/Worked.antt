-- The pairs, computed: several transfers meet every premise and the runs agree; without any one premise they need not.
use Prim.Native.Nat.{ℕ}
use mathlib.Core.Path.{◌≡◌, refl, ap}
use mathlib.Core.List.{List, []}
use mathlib.Core.Bool.{Bool, true, false}
use native.Mathlib.Omega.{arith}
use lib.ListN.{get_or}
use Rattle.bus.specs.declared.Phase.{Phase}
use Rattle.bus.specs.declared.Phase.TheVariants.{Address}
use Rattle.chip.specs.declared.Chip.{Chip}
use Rattle.list_call.specs.Run.{after, answers}
use Rattle.isolation_laws.specs.Foreign.{observe, untouched, compared_answers}
use Rattle.chip_cases.proofs.Opened.{opened}
use Rattle.isolation_cases.specs.Premises.{Pair, Premise, keeps_on, keeps_ddc2b, matches_none, keeps_reset, watchdog_waits, failing, Agreeing, Needed, in_ddc2b_lem, start_or_idle, equal_lengths, equal_words, ddc_on_lem, no_ddc1, no_match, no_reset, no_watchdog, same_events, equal_sda}
use Rattle.isolation_cases.specs.Pairs.{idle_state, started_state, low_state, gathered_state, late_state, several, pair_for}
use Rattle.isolation_cases.proofs.Agreeing.{none_failing}

-- ---- several transfers

pub several_met : failing several ≡ []
unfolding opened observe untouched keeps_on keeps_ddc2b matches_none keeps_reset watchdog_waits idle_state low_state several
several_met = refl

pub several_agree : Agreeing several
several_agree = none_failing several several_met

-- what is left to differ: both end with three bits of an unfinished address, other ones, another II DAT and another level of SDA
pub several_ends : ◌≡◌ {A = Phase × Phase} ((after several.first several.left).core.bus.phase, (after several.first several.right).core.bus.phase) (Address 3 5, Address 3 4)
unfolding opened observe untouched keeps_on keeps_ddc2b matches_none keeps_reset watchdog_waits idle_state low_state several
several_ends = refl

pub several_data : ◌≡◌ {A = ℕ × ℕ × Bool × Bool} (
  (after several.first several.left).core.bus.iidat,
  (after several.first several.right).core.bus.iidat,
  (after several.first several.left).core.sda,
  (after several.first several.right).core.sda,
)
    (0x10, 0xee, true, false)
unfolding opened observe untouched keeps_on keeps_ddc2b matches_none keeps_reset watchdog_waits idle_state low_state several
several_data = refl

-- START and STOP were seen, and of the flags S alone is set
pub several_seen : ◌≡◌ {A = ℕ × ℕ} ((after several.first several.left).core.bus.iists, (after several.first several.left).core.irqx) (0x30, 0x20)
unfolding opened observe untouched keeps_on keeps_ddc2b matches_none keeps_reset watchdog_waits idle_state low_state several
several_seen = refl

-- ---- each premise is needed

-- answers or states that differ in one number
answers_apart : (p : Pair) (place : ℕ) → Agreeing p → get_or (compared_answers p.left (answers p.first p.left)) place 0 ≡ get_or (compared_answers p.right (answers p.first p.right)) place 0
answers_apart p place a = ap (λ (l : List ℕ). get_or l place 0) a.answers_agree

pub needed : (k : Premise) → Needed k (pair_for k)
unfolding opened observe untouched keeps_on keeps_ddc2b matches_none keeps_reset watchdog_waits idle_state started_state gathered_state late_state pair_for
needed in_ddc2b_lem = record { alone = refl; differ = λ a. let e : ◌≡◌ {A = ℕ} 0 1 = answers_apart (pair_for in_ddc2b_lem) 2 a in omega arith }
needed start_or_idle = record { alone = refl; differ = λ a. let e : ◌≡◌ {A = ℕ} 40 32 = ap (λ (c : Chip). c.core.irqx) a.states_agree in omega arith }
needed equal_lengths = record { alone = refl; differ = λ a. let e : ◌≡◌ {A = ℕ} 0 1 = ap (λ (c : Chip). c.core.watchdog) a.states_agree in omega arith }
needed equal_words = record { alone = refl; differ = λ a. let e : ◌≡◌ {A = ℕ} 0 1 = ap (λ (c : Chip). c.core.watchdog) a.states_agree in omega arith }
needed ddc_on_lem = record { alone = refl; differ = λ a. let e : ◌≡◌ {A = ℕ} 0 1 = answers_apart (pair_for ddc_on_lem) 3 a in omega arith }
needed no_ddc1 = record { alone = refl; differ = λ a. let e : ◌≡◌ {A = ℕ} 0xa2 0x54 = ap (λ (c : Chip). c.core.bus.shifter.register) a.states_agree in omega arith }
needed no_match = record { alone = refl; differ = λ a. let e : ◌≡◌ {A = ℕ} 32 40 = ap (λ (c : Chip). c.core.irqx) a.states_agree in omega arith }
needed no_reset = record { alone = refl; differ = λ a. let e : ◌≡◌ {A = ℕ} 0 1 = answers_apart (pair_for no_reset) 4 a in omega arith }
needed no_watchdog = record { alone = refl; differ = λ a. let e : ◌≡◌ {A = ℕ} 0 1 = answers_apart (pair_for no_watchdog) 3 a in omega arith }
needed same_events = record { alone = refl; differ = λ a. let e : ◌≡◌ {A = ℕ} 0x20 0 = ap (λ (c : Chip). c.core.bus.iists) a.states_agree in omega arith }
needed equal_sda = record { alone = refl; differ = λ a. let e : ◌≡◌ {A = ℕ} 0 0x20 = ap (λ (c : Chip). c.core.bus.iists) a.states_agree in omega arith }
