-- A fresh chip is well formed, a reset gives a well formed state, and every event leaves a well formed state well formed.
-- Assumes nothing.
use mathlib.Core.Path.{◌≡◌}
use mathlib.Core.Bool.{Bool, true, false}
use mathlib.Core.List.{List}
use Prim.Native.Nat.{ℕ, ◌<◌}
use native.Mathlib.Omega.{arith}
use Rattle.std.specs.Prelude.{Ok, Err}
use Rattle.events.specs.Decoded.{Decoded}
use Rattle.events.specs.declared.Event.TheVariants.{Read, Write, Pin, Clock, Polarity}
use Rattle.events.specs.Word.{decode}
use Rattle.registers.specs.Names.{BTCON}
use Rattle.chip.specs.declared.Chip.{Chip}
use Rattle.chip.specs.State.{register_at, keep, reset_chip, fresh, high_pins}
use Rattle.chip_well_formed.specs.WellFormed.{well_formed}
use Rattle.step.specs.Step.{advance, step}
use Rattle.chip_events.specs.Outcome.{core_after, was_reset, reset_if, kept_after, next}
use Rattle.chip_laws.specs.Formed.{Reserved}
use Rattle.chip_laws.proofs.Formed.{Formed, ChipFormed, formed, well}
use Rattle.chip_laws.proofs.Reset.{resets_reserved, reset_formed, reset_core_formed}
use Rattle.chip_laws.proofs.Pins.{pin_formed}
use Rattle.chip_laws.proofs.Clocks.{clock_formed, polarity_formed}
use Rattle.chip_laws.proofs.Stored.{write_reserved}
use Rattle.chip_laws.proofs.Writes.{write_formed}

pub fresh_well_formed : well_formed fresh ≡ true
unfolding fresh
fresh_well_formed = well _ (record { core = reset_formed high_pins true true true (omega arith); stored = resets_reserved })

-- whatever the state before: of the outside levels, port 1 has seven
pub reset_well_formed : (c : Chip) → c.core.pins.port1 < 128 → well_formed (reset_chip c) ≡ true
reset_well_formed c h = well _ (record { core = reset_core_formed c.core h; stored = resets_reserved })

core_formed : (c : Chip) (e : Decoded) → Formed c.core → Formed (core_after c e)
unfolding core_after
core_formed c (Ok (Read a)) f = f
core_formed c (Ok (Write a b)) f = write_formed c.core a b f
core_formed c (Ok (Pin p level)) f = pin_formed c.core p level f
core_formed c (Ok (Clock k)) f = clock_formed (register_at c.registers BTCON) c.core k f
core_formed c (Ok (Polarity vertical level)) f = polarity_formed c.core vertical level f
core_formed c (Err r) f = f

reset_reserved : (reset : Bool) (l : List ℕ) → Reserved l → Reserved (keep (reset_if reset) l)
reset_reserved true l r = resets_reserved
reset_reserved false l r = r

array_reserved : (c : Chip) (e : Decoded) → Reserved c.registers → Reserved (keep (kept_after c e) c.registers)
unfolding kept_after
array_reserved c (Ok (Read a)) r = r
array_reserved c (Ok (Write a b)) r = write_reserved c.core.reset c.registers a b r
array_reserved c (Ok (Pin p level)) r = reset_reserved (was_reset c (Ok (Pin p level))) c.registers r
array_reserved c (Ok (Clock k)) r = reset_reserved (was_reset c (Ok (Clock k))) c.registers r
array_reserved c (Ok (Polarity vertical level)) r = r
array_reserved c (Err n) r = r

next_formed : (c : Chip) (e : Decoded) → ChipFormed c → ChipFormed (next c e)
unfolding next
next_formed c e f = record { core = core_formed c e f.core; stored = array_reserved c e f.stored }

-- ---- every event, every word

pub next_well_formed : (c : Chip) (e : Decoded) → well_formed c ≡ true → well_formed (next c e) ≡ true
next_well_formed c e t = well _ (next_formed c e (formed c t))

pub advance_well_formed : (c : Chip) (w : ℕ) → well_formed c ≡ true → well_formed (advance c (decode w)).chip ≡ true
unfolding advance
advance_well_formed c w t = next_well_formed c (decode w) t

pub step_well_formed : (c : Chip) (w : ℕ) → well_formed c ≡ true → well_formed (step c w).chip ≡ true
unfolding step
step_well_formed c w t = rw t (advance_well_formed c w t)
