-- A well formed core stays well formed as the outside levels of SCL and SDA move.
-- Assumes nothing.
use mathlib.Core.Path.{◌≡◌, refl}
use mathlib.Core.Bool.{Bool, false}
use Prim.Native.Nat.{ℕ}
use native.Mathlib.Omega.{arith}
use lib.Bits.{or_lt}
use Rattle.bits.proofs.Level.{pick_by}
use Rattle.bus.specs.declared.Mode.{Mode}
use Rattle.bus.specs.declared.Mode.TheVariants.{Off, Ddc1, Ddc2b}
use Rattle.bus.specs.declared.Edge.{Edge}
use Rattle.bus.specs.declared.Edge.TheVariants.{Flat, Rise, Fall}
use Rattle.bus_ddc2b.specs.Ddc2b.{matches_at_rise, holds_at_fall}
use Rattle.chip.specs.declared.Core.{Core}
use Rattle.chip.specs.State.{mode_of}
use Rattle.chip_edges.specs.Edges.{active_mode, sda_line, scl_rise, scl_fall, leave_ddc1, on_scl_ddc1, on_scl_ddc2b, on_scl, scl_moved, started, stopped, on_sda_ddc2b, on_sda, sda_moved}
use Rattle.chip_laws.proofs.Formed.{Formed, with_flags, with_mode, with_bus_lem, with_sda_lem, with_scl_lem}
use Rattle.chip_laws.proofs.Ranges.{with_bit_below, pick_below}
use Rattle.chip_laws.proofs.Bus.{released_formed, rise_formed, fall_formed, start_formed, stop_formed}

-- the mode looked at is that of the state, unless it is off
abbrev Heard : Core → Mode → Type 0
Heard c m = m ≡ Ddc2b → mode_of c ≡ Ddc2b

off_heard : (c : Core) → Heard c Off
off_heard c e = absurd (let z : ◌≡◌ {A = ℕ} 0 1 = cc in omega arith)

active_heard : (c : Core) → Heard c (active_mode c)
active_heard c = pick_by (Heard c) c.reset (λ _ e. e) (λ _. off_heard c)

scl_rise_formed : (c : Core) → Formed c → mode_of c ≡ Ddc2b → Formed (scl_rise c)
unfolding scl_rise
scl_rise_formed c f e =
    with_bus_lem (with_flags f _ (pick_below (matches_at_rise c.bus.iiadr (sda_line c.bus c.sda) c.bus.phase) 0x08 0 64 (omega arith) (omega arith))) _
    (rise_formed c.mdcon c.bus f.bus e (sda_line c.bus c.sda))

scl_fall_formed : (c : Core) → Formed c → mode_of c ≡ Ddc2b → Formed (scl_fall c)
unfolding scl_fall
scl_fall_formed c f e =
    with_bus_lem
    (with_flags f _ (or_lt 6 0x20 _ (omega arith) (pick_below (holds_at_fall c.bus.phase) 0x10 0 64 (omega arith) (omega arith)))) _
    (fall_formed c.mdcon c.bus f.bus e)

leave_ddc1_formed : (c : Core) → Formed c → Formed (leave_ddc1 c)
unfolding leave_ddc1
leave_ddc1_formed c f =
    with_mode (with_flags f 0x20 (omega arith)) _ _ (with_bit_below 4 c.mdcon 0 false (omega arith) f.mdcon)
    (released_formed _ c.bus f.bus.iists f.bus.iiadr)

on_scl_ddc1_formed : (e : Edge) (c : Core) → Formed c → Formed (on_scl_ddc1 e c)
unfolding on_scl_ddc1
on_scl_ddc1_formed Flat c f = f
on_scl_ddc1_formed Rise c f = f
on_scl_ddc1_formed Fall c f = leave_ddc1_formed c f

on_scl_ddc2b_formed : (e : Edge) (c : Core) → Formed c → mode_of c ≡ Ddc2b → Formed (on_scl_ddc2b e c)
unfolding on_scl_ddc2b
on_scl_ddc2b_formed Flat c f h = f
on_scl_ddc2b_formed Rise c f h = scl_rise_formed c f h
on_scl_ddc2b_formed Fall c f h = scl_fall_formed c f h

on_scl_formed : (m : Mode) (e : Edge) (c : Core) → Formed c → Heard c m → Formed (on_scl m e c)
unfolding on_scl
on_scl_formed Off e c f h = f
on_scl_formed Ddc1 e c f h = on_scl_ddc1_formed e c f
on_scl_formed Ddc2b e c f h = on_scl_ddc2b_formed e c f (h refl)

pub scl_moved_formed : (c : Core) (level : Bool) → Formed c → Formed (scl_moved c level)
unfolding scl_moved
scl_moved_formed c level f = on_scl_formed (active_mode c) _ _ (with_scl_lem f level) (active_heard c)

started_formed : (c : Core) → Formed c → mode_of c ≡ Ddc2b → Formed (started c)
unfolding started
started_formed c f e = with_bus_lem f _ (start_formed c.mdcon c.bus f.bus e)

stopped_formed : (c : Core) → Formed c → mode_of c ≡ Ddc2b → Formed (stopped c)
unfolding stopped
stopped_formed c f e = with_bus_lem f _ (stop_formed c.mdcon c.bus f.bus e)

on_sda_ddc2b_formed : (high : Bool) (e : Edge) (c : Core) → Formed c → mode_of c ≡ Ddc2b → Formed (on_sda_ddc2b high e c)
unfolding on_sda_ddc2b
on_sda_ddc2b_formed high Flat c f h = f
on_sda_ddc2b_formed high Rise c f h = pick_by Formed high (λ _. stopped_formed c f h) (λ _. f)
on_sda_ddc2b_formed high Fall c f h = pick_by Formed high (λ _. started_formed c f h) (λ _. f)

on_sda_formed : (m : Mode) (high : Bool) (e : Edge) (c : Core) → Formed c → Heard c m → Formed (on_sda m high e c)
unfolding on_sda
on_sda_formed Off high e c f h = f
on_sda_formed Ddc1 high e c f h = f
on_sda_formed Ddc2b high e c f h = on_sda_ddc2b_formed high e c f (h refl)

pub sda_moved_formed : (c : Core) (level : Bool) → Formed c → Formed (sda_moved c level)
unfolding sda_moved
sda_moved_formed c level f = on_sda_formed (active_mode c) _ _ _ (with_sda_lem f level) (active_heard c)
