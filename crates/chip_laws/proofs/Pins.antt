-- A well formed core stays well formed at every pin event.
-- Assumes nothing.
use mathlib.Core.Path.{◌≡◌}
use mathlib.Core.Bool.{Bool, true, ◌||◌}
use Prim.Native.Nat.{ℕ, ◌%◌, ◌^◌, ◌<◌, ◌≤◌}
use native.Mathlib.Omega.{arith}
use lib.Bits.{or_lt}
use lib.Dec.{eqb, ltb, ltb→lt}
use borrow.Author.Tests.{le-ltb}
use Rattle.bits.specs.Byte.{bit}
use Rattle.bits.proofs.Finite.{at_each, or_right}
use Rattle.bits.proofs.Level.{pick_by}
use Rattle.sync.specs.declared.Sync.{Sync}
use Rattle.sync.specs.Sync.{well_sync}
use Rattle.sync.proofs.WellFormed.{hsync_well, vsync_well}
use Rattle.bus.specs.declared.Edge.{Edge}
use Rattle.bus.specs.declared.Edge.TheVariants.{Flat, Rise, Fall}
use Rattle.bus.specs.Bus.{edge}
use Rattle.chip.specs.declared.Core.{Core}
use Rattle.chip.specs.State.{mode_of, hsel_of}
use Rattle.chip_edges.specs.Edges.{loads_at_vsync}
use Rattle.chip_pins.specs.declared.PinKind.{PinKind}
use Rattle.chip_pins.specs.Numbers.{Unnamed, Numbered, p16_pin, sda_pin, scl_pin, hsynci_pin, vsynci_pin, reset_pin, port0_pin, port1_pin, port2_pin, no_pin}
use Rattle.chip_pins.proofs.Numbers.{numbered}
use Rattle.chip_pins.specs.Pins.{rises, port0_moved, port1_moved, port2_moved, p16_moved, hsync_level, vsync_level, hsync_moved, vsync_rise, vsync_moved, on_reset, reset_moved, pin_moved_as, pin_moved}
use Rattle.chip_laws.proofs.Formed.{Formed, with_flags, with_sync_lem, with_bus_lem, with_pins_lem, with_reset_lem}
use Rattle.chip_laws.proofs.Ranges.{with_bit_below, pick_below}
use Rattle.chip_laws.proofs.Bus.{vsync_formed}
use Rattle.chip_laws.proofs.Reset.{reset_core_formed}
use Rattle.chip_laws.proofs.Lines.{scl_moved_formed, sda_moved_formed}

-- a pin of port 1 is not bit 7: it is below 14
port1_bit : (p : ℕ) → Unnamed p → 8 ≤ p → p < 15 → 2 ^ (p % 8) < 128
port1_bit p u low high =
    ltb→lt (2 ^ (p % 8)) 128
    (or_right (eqb p 14) _ u.p16 (or_right (ltb p 8) _ (le-ltb p 8 low) (at_each (λ p. ltb p 8 || (eqb p 14 || ltb (2 ^ (p % 8)) 128)) 15 tt p high)))

port1_formed : (c : Core) (p : ℕ) (level : Bool) → Formed c → 2 ^ (p % 8) < 128 → Formed (port1_moved c p level)
unfolding port1_moved
port1_formed c p level f h = with_pins_lem f _ (with_bit_below 7 c.pins.port1 p level h f.port1)

p16_formed : (c : Core) (level : Bool) → Formed c → Formed (p16_moved c level)
unfolding p16_moved
p16_formed c level f =
    port1_formed _ 14 level
    (with_flags f _ (pick_below (rises c.reset (bit 6 c.pins.port1) level) 0x02 0 64 (omega arith) (omega arith)))
    (omega arith)

hsync_formed : (c : Core) (level : Bool) → Formed c → Formed (hsync_moved c level)
unfolding hsync_moved
hsync_formed c level f =
    with_sync_lem (with_pins_lem f (hsync_level c level).pins f.port1) _
    (pick_by (λ (s : Sync). well_sync s ≡ true) (rises c.reset c.pins.hsynci level) (λ _. hsync_well c.sync f.sync) (λ _. f.sync))

vsync_rise_formed : (c : Core) → Formed c → Formed (vsync_rise c)
unfolding vsync_rise
vsync_rise_formed c f =
    with_bus_lem
    (with_sync_lem
    (with_flags f _ (or_lt 6 0x01 _ (omega arith) (pick_below (loads_at_vsync (mode_of c) c.bus.shifter) 0x10 0 64 (omega arith) (omega arith))))
    _ (vsync_well (hsel_of c) c.sync f.sync))
    _ (vsync_formed c.mdcon c.bus f.bus)

vsync_moved_formed : (c : Core) (level : Bool) → Formed c → Formed (vsync_moved c level)
unfolding vsync_moved
vsync_moved_formed c level f =
    let moved : Formed (vsync_level c level) = with_pins_lem f (vsync_level c level).pins f.port1 in
    pick_by Formed (rises c.reset c.pins.vsynci level) (λ _. vsync_rise_formed (vsync_level c level) moved) (λ _. moved)

on_reset_formed : (e : Edge) (c : Core) → Formed c → Formed (on_reset e c)
unfolding on_reset
on_reset_formed Flat c f = f
on_reset_formed Rise c f = f
on_reset_formed Fall c f = reset_core_formed c f.port1

kind_formed : {k : PinKind} {p : ℕ} → Numbered k p → (c : Core) (level : Bool) → Formed c → Formed (pin_moved_as k c p level)
unfolding pin_moved_as port0_moved port2_moved reset_moved
kind_formed (port0_pin u high) c level f = with_pins_lem f _ f.port1
kind_formed {p = p} (port1_pin u low high) c level f = port1_formed c p level f (port1_bit p u low high)
kind_formed (port2_pin u low high) c level f = with_pins_lem f _ f.port1
kind_formed (no_pin u none) c level f = f
kind_formed p16_pin c level f = p16_formed c level f
kind_formed sda_pin c level f = sda_moved_formed c level f
kind_formed scl_pin c level f = scl_moved_formed c level f
kind_formed hsynci_pin c level f = hsync_formed c level f
kind_formed vsynci_pin c level f = vsync_moved_formed c level f
kind_formed reset_pin c level f = on_reset_formed (edge c.reset level) _ (with_reset_lem f level)

pub pin_formed : (c : Core) (p : ℕ) (level : Bool) → Formed c → Formed (pin_moved c p level)
unfolding pin_moved
pin_formed c p level f = kind_formed (numbered p) c level f
