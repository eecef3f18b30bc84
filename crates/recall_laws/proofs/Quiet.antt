-- A chip with RESET high and no request: the 8 µs clock keeps it so, and the instruction at PC is taken with no interrupt before it.
use Prim.Native.Nat.{ℕ}
use mathlib.Core.Path.{◌≡◌, refl, ap, sym, subst}
use mathlib.Core.Bool.{Bool, true, false}
use mathlib.Core.List.{List, [], ◌∷◌}
use lib.Dec.{eqb}
use Rattle.bits.specs.Byte.{pick}
use Rattle.registers.specs.Names.{IEX, CLRWDT}
use Rattle.std.specs.Prelude.{Ok}
use Rattle.events.specs.declared.Event.TheVariants.{Write, Clock}
use Rattle.sync.specs.declared.Sync.{Sync}
use Rattle.chip.specs.declared.Chip.{Chip}
use Rattle.chip.specs.declared.Pins.{Pins}
use Rattle.chip.specs.declared.Bus.{Bus}
use Rattle.chip.specs.State.{requested, register_at}
use Rattle.chip_events.specs.Outcome.{next}
use Rattle.cpu_operations.specs.declared.Cpu.{Cpu}
use Rattle.firmware_machine.specs.Machine.{machine, is_requesting, after_interrupt, instruct, turn}
use Rattle.firmware_isolation_laws.specs.Trace.{turn_accesses, interrupt_accesses, instruction_accesses}
use Rattle.firmware_isolation_laws.proofs.Opened.{opened}

-- with the stored registers rs
pub data Quiet (rs : List ℕ) : Chip → Type 0 where
  quiet : (irqx mdcon polarity bt watchdog : ℕ) (sync : Sync) (bus : Bus) (pins : Pins) (sda scl : Bool) → eqb (requested irqx (register_at rs IEX)) 0 ≡ true
      → Quiet rs (record { registers = rs; core = record { irqx = irqx; mdcon = mdcon; polarity = polarity; bt = bt; watchdog = watchdog; sync = sync; bus = bus; pins = pins; sda = sda; scl = scl; reset = true } })

-- RESET's level, and whether no request stands: the same in two runs that agree
abbrev pub silence : Chip → Bool × Bool
silence k = (k.core.reset, eqb (requested k.core.irqx (register_at k.registers IEX)) 0)

pub quiet_of : (k : Chip) → silence k ≡ (true, true) → Quiet k.registers k
quiet_of k h =
    subst (λ (r : Bool). Quiet k.registers (record { registers = k.registers; core = record { irqx = k.core.irqx; mdcon = k.core.mdcon; polarity = k.core.polarity; bt = k.core.bt; watchdog = k.core.watchdog; sync = k.core.sync; bus = k.core.bus; pins = k.core.pins; sda = k.core.sda; scl = k.core.scl; reset = r } }))
    (sym (ap (λ (x : Bool × Bool). x.0) h))
    (quiet k.core.irqx k.core.mdcon k.core.polarity k.core.bt k.core.watchdog k.core.sync k.core.bus k.core.pins k.core.sda k.core.scl (ap (λ (x : Bool × Bool). x.1) h))

module _ {rs : List ℕ} where
  pub quiet_registers : (k : Chip) → Quiet rs k → k.registers ≡ rs
  quiet_registers _ (quiet irqx mdcon polarity bt watchdog sync bus pins sda scl h) = refl

  quiet_clock : (k : Chip) → Quiet rs k → Quiet rs (next k (Ok (Clock 0)))
  unfolding opened
  quiet_clock _ (quiet irqx mdcon polarity bt watchdog sync bus pins sda scl h) = quiet irqx mdcon polarity bt watchdog _ _ pins sda scl h

  -- an instruction whose cycles fill 32, or not
  pub quiet_after : (k : Chip) → Quiet rs k → (b : Bool) → Quiet rs (pick b k (next k (Ok (Clock 0))))
  quiet_after k q true = q
  quiet_after k q false = quiet_clock k q

  -- 55H to CLRWDT
  pub quiet_cleared : (k : Chip) → Quiet rs k → Quiet rs (next k (Ok (Write CLRWDT 0x55)))
  unfolding opened
  quiet_cleared _ (quiet irqx mdcon polarity bt watchdog sync bus pins sda scl h) = quiet irqx mdcon polarity bt 0 sync bus pins sda scl h

  pub quiet_turn : (rom : List ℕ) (c : Cpu) (ram : List ℕ) (k : Chip) → Quiet rs k → turn rom (machine c ram k) ≡ instruct rom (machine c ram k)
  unfolding turn after_interrupt is_requesting
  quiet_turn rom c ram _ (quiet irqx mdcon polarity bt watchdog sync bus pins sda scl h) = rw h

  pub quiet_accesses : (rom : List ℕ) (c : Cpu) (ram : List ℕ) (k : Chip) → Quiet rs k → turn_accesses rom (machine c ram k) ≡ instruction_accesses rom (machine c ram k)
  unfolding turn_accesses interrupt_accesses after_interrupt is_requesting
  quiet_accesses rom c ram _ (quiet irqx mdcon polarity bt watchdog sync bus pins sda scl h) = rw h
