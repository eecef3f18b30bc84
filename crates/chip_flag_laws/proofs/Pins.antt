-- A pin event sets the flags of its edge and no others, and RESET going low alone clears flags.
-- Assumes nothing.
use mathlib.Core.Path.{◌≡◌, refl, sym}
use mathlib.Core.Bool.{Bool, true, false, not, ◌&&◌, ◌||◌, beq}
use Prim.Native.Nat.{ℕ}
use lib.Dec.{T, eqb, ltb}
use lib.Bits.{bit_or, or_zero_r}
use Rattle.bits.specs.Byte.{pick, bit}
use Rattle.bits.proofs.Finite.{beq_eq}
use Rattle.registers.specs.Table.{row_of, reset_value}
use Rattle.std.specs.Prelude.{Ok}
use Rattle.events.specs.declared.Event.TheVariants.{Pin}
use Rattle.bus.specs.declared.Mode.{Mode}
use Rattle.bus.specs.declared.Mode.TheVariants.{Off, Ddc1, Ddc2b}
use Rattle.bus.specs.declared.Edge.{Edge}
use Rattle.bus.specs.declared.Edge.TheVariants.{Flat, Rise, Fall}
use Rattle.bus.specs.declared.Phase.{Phase}
use Rattle.bus.specs.declared.Phase.TheVariants.{Idle, Address, Addressed, Ignoring, Receive, Transmit, Held}
use Rattle.bus.specs.declared.Shifter.{Shifter}
use Rattle.bus.specs.Bus.{edge, line, mode, mode_by, pulls_sda, pulls_scl, scl_pulled}
use Rattle.bus.specs.Ddc1.{loads_at_rise}
use Rattle.bus_ddc2b.specs.Ddc2b.{matches, gathered, matches_at_rise, holds_at_fall}
use Rattle.chip.specs.declared.Core.{Core}
use Rattle.chip.specs.declared.Chip.{Chip}
use Rattle.chip.specs.State.{reset_at, reset_core, mode_of, with_reset, with_sda}
use Rattle.chip_edges.specs.Edges.{active_mode, on_scl, on_scl_ddc1, on_scl_ddc2b, scl_rise, scl_fall, leave_ddc1, scl_moved, on_sda, on_sda_ddc2b, started, stopped, sda_moved, loads_at_vsync}
use Rattle.chip_pins.specs.declared.PinKind.{PinKind}
use Rattle.chip_pins.specs.Pins.{rises, port0_moved, port1_moved, port2_moved, p16_moved, hsync_moved, vsync_level, vsync_moved, vsync_rise, on_reset, reset_moved, pin_moved_as, pin_moved}
use Rattle.chip_pins.specs.Numbers.{Unnamed, Numbered, p16_pin, sda_pin, scl_pin, hsynci_pin, vsynci_pin, reset_pin, port0_pin, port1_pin, port2_pin, no_pin}
use Rattle.chip_pins.proofs.Numbers.{numbered}
use Rattle.chip_events.specs.Outcome.{core_after, next}
use Rattle.chip_flag_laws.specs.Causes.{Source, place, flag, raises, clears, completes_match, in_ninth_clock}
use Rattle.chip_flag_laws.specs.Causes.Source.{SclFall, DataByte, AddressMatch, TimerOverflow, ExternalRise, VsyncRise}
use Rattle.chip_flag_laws.proofs.Bools.{always, at_three, at_six, at_eight}
use Rattle.chip_flag_laws.proofs.Flags.{after, flag_in, never_reset, set_bit, zero_bit}

-- ---- P16

module _ (c : Chip) (level : Bool) where
  -- a law of the Bools that it depends on
  at_p16_levels : (f : Bool → Bool → Bool → Bool) → T (always (λ a. always (λ b. always (f a b)))) → T (f c.core.reset (bit 6 c.core.pins.port1) level)
  at_p16_levels f t = at_three f t c.core.reset (bit 6 c.core.pins.port1) level

  p16_bit : (s : Source) → bit (place s) (pick (rises c.core.reset (bit 6 c.core.pins.port1) level) 0x02 0) ≡ raises s c (Ok (Pin 14 level))
  unfolding bit raises
  p16_bit SclFall = beq_eq _ _ (at_p16_levels (λ r o l. beq (bit (place SclFall) (pick (rises r o l) 0x02 0)) false) tt)
  p16_bit DataByte = beq_eq _ _ (at_p16_levels (λ r o l. beq (bit (place DataByte) (pick (rises r o l) 0x02 0)) false) tt)
  p16_bit AddressMatch = beq_eq _ _ (at_p16_levels (λ r o l. beq (bit (place AddressMatch) (pick (rises r o l) 0x02 0)) false) tt)
  p16_bit TimerOverflow = beq_eq _ _ (at_p16_levels (λ r o l. beq (bit (place TimerOverflow) (pick (rises r o l) 0x02 0)) false) tt)
  p16_bit ExternalRise = beq_eq _ _ (at_p16_levels (λ r o l. beq (bit (place ExternalRise) (pick (rises r o l) 0x02 0)) (l && (r && not o))) tt)
  p16_bit VsyncRise = beq_eq _ _ (at_p16_levels (λ r o l. beq (bit (place VsyncRise) (pick (rises r o l) 0x02 0)) false) tt)

  at_p16 : (s : Source) → flag_in s (p16_moved c.core level) ≡ after s c (Ok (Pin 14 level))
  unfolding p16_moved port1_moved clears
  at_p16 s = set_bit s c.core.irqx _ _ (p16_bit s)

-- ---- SCL

-- the flags that an edge of the SCL line sets: `hit` completes an address of the chip, `ninth` ends a ninth clock
abbrev scl_flags : Mode → Edge → Bool → Bool → ℕ
scl_flags Off e hit ninth = 0
scl_flags Ddc1 Flat hit ninth = 0
scl_flags Ddc1 Rise hit ninth = 0
scl_flags Ddc1 Fall hit ninth = 0x20
scl_flags Ddc2b Flat hit ninth = 0
scl_flags Ddc2b Rise hit ninth = pick hit 0x08 0
scl_flags Ddc2b Fall hit ninth = bit_or 0x20 (pick ninth 0x10 0)

hit_is : (own : ℕ) (sda : Bool) (p : Phase) → matches_at_rise own sda p ≡ completes_match own sda p
unfolding matches_at_rise
hit_is own sda Idle = refl
hit_is own sda (Address count bits) = pick_and (ltb count 7) (matches own (gathered bits sda))
  where
    pick_and : (a b : Bool) → pick a false b ≡ (not a && b)
    pick_and true b = refl
    pick_and false b = refl
hit_is own sda (Addressed matched bits ninth) = refl
hit_is own sda Ignoring = refl
hit_is own sda (Receive matched count bits) = refl
hit_is own sda (Transmit matched count byte) = refl
hit_is own sda (Held matched clocks) = refl

ninth_is : (p : Phase) → holds_at_fall p ≡ in_ninth_clock p
unfolding holds_at_fall
ninth_is Idle = refl
ninth_is (Address count bits) = refl
ninth_is (Addressed matched bits ninth) = refl
ninth_is Ignoring = refl
ninth_is (Receive matched count bits) = refl
ninth_is (Transmit matched count byte) = refl
ninth_is (Held matched clocks) = refl

abbrev hits : Core → Bool
hits c = completes_match c.bus.iiadr (line (pulls_sda c.bus.phase) c.sda) c.bus.phase

scl_irqx : (m : Mode) (e : Edge) (c : Core) → (on_scl m e c).irqx ≡ bit_or c.irqx (scl_flags m e (hits c) (in_ninth_clock c.bus.phase))
unfolding on_scl on_scl_ddc1 on_scl_ddc2b scl_rise scl_fall leave_ddc1
scl_irqx Off e c = sym (or_zero_r c.irqx)
scl_irqx Ddc1 Flat c = sym (or_zero_r c.irqx)
scl_irqx Ddc1 Rise c = sym (or_zero_r c.irqx)
scl_irqx Ddc1 Fall c = refl
scl_irqx Ddc2b Flat c = sym (or_zero_r c.irqx)
scl_irqx Ddc2b Rise c = rw (hit_is c.bus.iiadr (line (pulls_sda c.bus.phase) c.sda) c.bus.phase)
scl_irqx Ddc2b Fall c = rw (ninth_is c.bus.phase)

abbrev pulled_by : Mode → Bool → Bool
pulled_by Off held = false
pulled_by Ddc1 held = false
pulled_by Ddc2b held = held

pulled_is : (m : Mode) (p : Phase) → scl_pulled m p ≡ pulled_by m (pulls_scl p)
unfolding scl_pulled
pulled_is Off p = refl
pulled_is Ddc1 p = refl
pulled_is Ddc2b p = refl

-- the same by RESET, ENDDC, MD1/2, whether the phase holds SCL, and the levels of SCL before and after
abbrev scl_flags_by : Bool → Bool → Bool → Bool → Bool → Bool → Bool → Bool → ℕ
scl_flags_by reset enddc md held old new hit ninth =
    let m : Mode = pick reset (mode_by enddc md) Off in
    scl_flags m (edge (line (pulled_by m held) old) (line (pulled_by m held) new)) hit ninth

module _ (c : Chip) (level : Bool) where
  at_scl_levels : (f : Bool → Bool → Bool → Bool → Bool → Bool → Bool → Bool → Bool) →
      T (always (λ a. always (λ b. always (λ c. always (λ d. always (λ e. always (λ g. always (λ h. always (f a b c d e g h)))))))))
      → T (f c.core.reset (bit 3 c.core.bus.iists) (bit 0 c.core.mdcon) (pulls_scl c.core.bus.phase) c.core.scl level (hits c.core) (in_ninth_clock c.core.bus.phase))
  at_scl_levels f t = at_eight f t c.core.reset (bit 3 c.core.bus.iists) (bit 0 c.core.mdcon) (pulls_scl c.core.bus.phase) c.core.scl level (hits c.core) (in_ninth_clock c.core.bus.phase)

  scl_bit : (s : Source) →
      bit (place s) (scl_flags_by c.core.reset (bit 3 c.core.bus.iists) (bit 0 c.core.mdcon) (pulls_scl c.core.bus.phase) c.core.scl level (hits c.core) (in_ninth_clock c.core.bus.phase))
      ≡ raises s c (Ok (Pin 25 level))
  unfolding bit raises
  scl_bit SclFall = beq_eq _ _ (at_scl_levels (λ r e m h o l a n. beq (bit (place SclFall) (scl_flags_by r e m h o l a n)) ((not l && (r && (o && not ((not e && not m) && h)))) && not e)) tt)
  scl_bit DataByte = beq_eq _ _ (at_scl_levels (λ r e m h o l a n. beq (bit (place DataByte) (scl_flags_by r e m h o l a n)) ((not l && (r && (o && not ((not e && not m) && h)))) && ((not e && not m) && n))) tt)
  scl_bit AddressMatch = beq_eq _ _ (at_scl_levels (λ r e m h o l a n. beq (bit (place AddressMatch) (scl_flags_by r e m h o l a n)) ((l && (r && (not o && not ((not e && not m) && h)))) && ((not e && not m) && a))) tt)
  scl_bit TimerOverflow = beq_eq _ _ (at_scl_levels (λ r e m h o l a n. beq (bit (place TimerOverflow) (scl_flags_by r e m h o l a n)) false) tt)
  scl_bit ExternalRise = beq_eq _ _ (at_scl_levels (λ r e m h o l a n. beq (bit (place ExternalRise) (scl_flags_by r e m h o l a n)) false) tt)
  scl_bit VsyncRise = beq_eq _ _ (at_scl_levels (λ r e m h o l a n. beq (bit (place VsyncRise) (scl_flags_by r e m h o l a n)) false) tt)

  at_scl : (s : Source) → flag_in s (scl_moved c.core level) ≡ after s c (Ok (Pin 25 level))
  unfolding scl_moved mode clears
  at_scl s = rw (pulled_is (active_mode c.core) c.core.bus.phase, scl_irqx) (set_bit s c.core.irqx _ _ (scl_bit s))

-- ---- VSYNCI

-- the flags that a rise of VSYNCI sets: `none` says that no edges are left
abbrev vsync_flags : Bool → Mode → Bool → ℕ
vsync_flags false m none = 0
vsync_flags true Off none = 0x01
vsync_flags true Ddc1 none = bit_or 0x01 (pick none 0x10 0)
vsync_flags true Ddc2b none = 0x01

vsync_irqx : (rise : Bool) (m : Mode) (s : Shifter) (x : ℕ) →
    pick rise (bit_or x (bit_or 0x01 (pick (loads_at_vsync m s) 0x10 0))) x ≡ bit_or x (vsync_flags rise m (eqb s.edges 0))
unfolding loads_at_vsync loads_at_rise
vsync_irqx false m s x = sym (or_zero_r x)
vsync_irqx true Off s x = refl
vsync_irqx true Ddc1 s x = refl
vsync_irqx true Ddc2b s x = refl

vsync_moved_lem : (rise : Bool) (c : Core) (level : Bool) →
    (pick rise (vsync_rise (vsync_level c level)) (vsync_level c level)).irqx
    ≡ pick rise (bit_or c.irqx (bit_or 0x01 (pick (loads_at_vsync (mode_of c) c.bus.shifter) 0x10 0))) c.irqx
unfolding vsync_rise
vsync_moved_lem true c level = refl
vsync_moved_lem false c level = refl

module _ (c : Chip) (level : Bool) where
  at_vsync_levels : (f : Bool → Bool → Bool → Bool → Bool → Bool → Bool) →
      T (always (λ a. always (λ b. always (λ c. always (λ d. always (λ e. always (f a b c d e)))))))
      → T (f c.core.reset c.core.pins.vsynci level (bit 3 c.core.bus.iists) (bit 0 c.core.mdcon) (eqb c.core.bus.shifter.edges 0))
  at_vsync_levels f t = at_six f t c.core.reset c.core.pins.vsynci level (bit 3 c.core.bus.iists) (bit 0 c.core.mdcon) (eqb c.core.bus.shifter.edges 0)

  vsync_bit : (s : Source) →
      bit (place s) (vsync_flags (rises c.core.reset c.core.pins.vsynci level) (mode_by (bit 3 c.core.bus.iists) (bit 0 c.core.mdcon)) (eqb c.core.bus.shifter.edges 0))
      ≡ raises s c (Ok (Pin 27 level))
  unfolding bit raises
  vsync_bit SclFall = beq_eq _ _ (at_vsync_levels (λ r o l e m n. beq (bit (place SclFall) (vsync_flags (rises r o l) (mode_by e m) n)) false) tt)
  vsync_bit DataByte = beq_eq _ _ (at_vsync_levels (λ r o l e m n. beq (bit (place DataByte) (vsync_flags (rises r o l) (mode_by e m) n)) (((l && (r && not o)) && ((not e && m) && n)) || false)) tt)
  vsync_bit AddressMatch = beq_eq _ _ (at_vsync_levels (λ r o l e m n. beq (bit (place AddressMatch) (vsync_flags (rises r o l) (mode_by e m) n)) false) tt)
  vsync_bit TimerOverflow = beq_eq _ _ (at_vsync_levels (λ r o l e m n. beq (bit (place TimerOverflow) (vsync_flags (rises r o l) (mode_by e m) n)) false) tt)
  vsync_bit ExternalRise = beq_eq _ _ (at_vsync_levels (λ r o l e m n. beq (bit (place ExternalRise) (vsync_flags (rises r o l) (mode_by e m) n)) false) tt)
  vsync_bit VsyncRise = beq_eq _ _ (at_vsync_levels (λ r o l e m n. beq (bit (place VsyncRise) (vsync_flags (rises r o l) (mode_by e m) n)) (l && (r && not o))) tt)

  at_vsync : (s : Source) → flag_in s (vsync_moved c.core level) ≡ after s c (Ok (Pin 27 level))
  unfolding vsync_moved mode clears
  at_vsync s =
      rw (vsync_moved_lem (rises c.core.reset c.core.pins.vsynci level) c.core level, vsync_irqx (rises c.core.reset c.core.pins.vsynci level) (mode_of c.core) c.core.bus.shifter c.core.irqx)
      (set_bit s c.core.irqx _ _ (vsync_bit s))

-- ---- RESET

reset_by : (s : Source) (c : Core) (old level : Bool) → flag_in s (on_reset (edge old level) (with_reset c level)) ≡ (not (old && not level) && flag_in s c)
unfolding on_reset reset_core reset_at reset_value row_of
reset_by s c true true = refl
reset_by s c true false = zero_bit s
reset_by s c false true = refl
reset_by s c false false = refl

at_reset_lem : (s : Source) (c : Chip) (level : Bool) → flag_in s (reset_moved c.core level) ≡ after s c (Ok (Pin 28 level))
unfolding reset_moved clears
at_reset_lem s c level = rw (never_reset s c level) (reset_by s c.core c.core.reset level)

-- ---- every other pin

-- a pin whose edges set no flag, and that is not RESET
module _ (c : Chip) (p : ℕ) (level : Bool) (p16 : eqb p 14 ≡ false) (scl : eqb p 25 ≡ false) (vsynci : eqb p 27 ≡ false) (reset : eqb p 28 ≡ false) where
  never_plain : (s : Source) → raises s c (Ok (Pin p level)) ≡ false
  unfolding raises
  never_plain SclFall = rw scl
  never_plain DataByte = rw (vsynci, scl)
  never_plain AddressMatch = rw scl
  never_plain TimerOverflow = refl
  never_plain ExternalRise = rw p16
  never_plain VsyncRise = rw vsynci

  at_plain : (s : Source) → flag s c ≡ after s c (Ok (Pin p level))
  unfolding clears
  at_plain s = rw (never_plain s, reset)

at_unnamed : (c : Chip) {p : ℕ} (level : Bool) → Unnamed p → (s : Source) → flag s c ≡ after s c (Ok (Pin p level))
at_unnamed c {p} level u s = at_plain c p level u.p16 u.scl u.vsynci u.reset s

sda_irqx : (m : Mode) (high : Bool) (e : Edge) (c : Core) → (on_sda m high e c).irqx ≡ c.irqx
unfolding on_sda on_sda_ddc2b started stopped
sda_irqx Off high e c = refl
sda_irqx Ddc1 high e c = refl
sda_irqx Ddc2b high Flat c = refl
sda_irqx Ddc2b true Rise c = refl
sda_irqx Ddc2b false Rise c = refl
sda_irqx Ddc2b true Fall c = refl
sda_irqx Ddc2b false Fall c = refl

sda_moved_lem : (c : Core) (level : Bool) → (sda_moved c level).irqx ≡ c.irqx
unfolding sda_moved
sda_moved_lem c level = sda_irqx _ _ _ (with_sda c level)

-- ---- all pins

at_kind_lem : {k : PinKind} {p : ℕ} → Numbered k p → (s : Source) (c : Chip) (level : Bool) → flag_in s (pin_moved_as k c.core p level) ≡ after s c (Ok (Pin p level))
unfolding pin_moved_as port0_moved port1_moved port2_moved hsync_moved
at_kind_lem (port0_pin u high) s c level = at_unnamed c level u s
at_kind_lem (port1_pin u low high) s c level = at_unnamed c level u s
at_kind_lem (port2_pin u low high) s c level = at_unnamed c level u s
at_kind_lem (no_pin u none) s c level = at_unnamed c level u s
at_kind_lem p16_pin s c level = at_p16 c level s
at_kind_lem sda_pin s c level = rw (sda_moved_lem c.core level) (at_plain c 24 level refl refl refl refl s)
at_kind_lem scl_pin s c level = at_scl c level s
at_kind_lem hsynci_pin s c level = at_plain c 26 level refl refl refl refl s
at_kind_lem vsynci_pin s c level = at_vsync c level s
at_kind_lem reset_pin s c level = at_reset_lem s c level

pub at_pin : (s : Source) (c : Chip) (p : ℕ) (level : Bool) → flag s (next c (Ok (Pin p level))) ≡ after s c (Ok (Pin p level))
unfolding next core_after pin_moved
at_pin s c p level = at_kind_lem (numbered p) s c level
