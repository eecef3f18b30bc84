-- What one event does while the chip does not hold SCL: in DDC2B the fall that ends a ninth clock takes SCL low, with a count of 0, and nothing else does.
-- Assumes nothing.
use mathlib.Core.Path.{◌≡◌, refl, sym, ◌∙◌}
use mathlib.Core.Bool.{Bool, true, false, not, ◌&&◌, beq}
use Prim.Native.Nat.{ℕ, ◌+◌}
use borrow.Author.Tests.{eqb-true}
use lib.Dec.{eqb, ltb}
use Rattle.bits.specs.Byte.{pick, bit}
use Rattle.bits.proofs.Level.{pick_by}
use Rattle.bits.proofs.Finite.{beq_eq}
use Rattle.registers.specs.Names.{BTCON}
use Rattle.registers.specs.Table.{is_writable}
use Rattle.std.specs.Prelude.{Ok, Err}
use Rattle.events.specs.Decoded.{Decoded}
use Rattle.events.specs.declared.Event.TheVariants.{Read, Write, Pin, Clock, Polarity}
use Rattle.bus.specs.declared.Mode.{Mode}
use Rattle.bus.specs.declared.Mode.TheVariants.{Off, Ddc1, Ddc2b}
use Rattle.bus.specs.declared.Edge.{Edge}
use Rattle.bus.specs.declared.Edge.TheVariants.{Flat, Rise, Fall}
use Rattle.bus.specs.declared.OwnAddress.{OwnAddress}
use Rattle.bus.specs.declared.Comparison.{Comparison}
use Rattle.bus.specs.declared.Comparison.TheVariants.{None, Own}
use Rattle.bus.specs.declared.Phase.{Phase}
use Rattle.bus.specs.declared.Phase.TheVariants.{Idle, Address, Addressed as CalledAddress, Ignoring, Receive, Transmit, Held}
use Rattle.bus.specs.Bus.{edge, mode, mode_by, changes_mode, pulls_scl, scl_pulled}
use Rattle.bus_ddc2b.specs.Ddc2b.{compared, gathered, addressed, phase_at_rise, phase_at_fall, phase_at_period}
use Rattle.counters.specs.Count.{watchdog_fires}
use Rattle.chip.specs.declared.Bus.{Bus}
use Rattle.chip.specs.declared.Core.{Core}
use Rattle.chip.specs.declared.Chip.{Chip}
use Rattle.chip.specs.State.{mode_of, released, register_at, reset_at, reset_core, with_reset, with_scl, with_sda}
use Rattle.chip_edges.specs.Edges.{active_mode, bus_at_mode, bus_at_rise, on_scl, on_scl_ddc1, on_scl_ddc2b, scl_rise, scl_fall, leave_ddc1, scl_moved, on_sda, on_sda_ddc2b, started, stopped, sda_moved, bus_at_vsync}
use Rattle.chip_ddc_writes.specs.DdcWrites.{mdcon_written, iiadr_written, iists_written, bus_at_iidat, iidat_written}
use Rattle.chip_writes.specs.declared.Target.{Target}
use Rattle.chip_writes.specs.declared.Target.TheVariants.{Stored, Mdcon, Hvcon, Clrflg, Clrwdt, Iiadr, Iidat, Iists, Bt}
use Rattle.chip_writes.specs.Writes.{target, clrflg_written, clrwdt_written, written_to, written, write_register}
use Rattle.chip_pins.specs.declared.PinKind.{PinKind}
use Rattle.chip_pins.specs.Pins.{rises, port0_moved, port1_moved, port2_moved, p16_moved, hsync_moved, vsync_moved, vsync_rise, on_reset, reset_moved, pin_moved_as, pin_moved}
use Rattle.chip_pins.specs.Numbers.{Numbered, p16_pin, sda_pin, scl_pin, hsynci_pin, vsynci_pin, reset_pin, port0_pin, port1_pin, port2_pin, no_pin}
use Rattle.chip_pins.proofs.Numbers.{numbered}
use Rattle.chip_clocks.specs.Clocks.{period_clock, timer_runs, timer_step, timer_clock, watchdog_clock, clocked_as, clocked, polarity_found}
use Rattle.chip_events.specs.Outcome.{core_after, next}
use Rattle.chip_flag_laws.specs.Causes.{in_ninth_clock}
use Rattle.chip_flag_laws.proofs.Bools.{at_six}
use Rattle.chip_hold_laws.specs.Stretching.{takes_scl}
use Rattle.chip_hold_laws.proofs.Holds.{clash, Holds}

-- ---- phases that do not hold SCL

abbrev Free : Phase → Type 0
Free p = pulls_scl p ≡ false

free_addressed : (k : Comparison) (byte : ℕ) → Free (addressed k byte)
unfolding pulls_scl
free_addressed None byte = refl
free_addressed (Own matched) byte = refl

free_rise : (own : ℕ) (sda : Bool) (p : Phase) → Free p → Free (phase_at_rise own sda p)
unfolding phase_at_rise pulls_scl
free_rise own sda Idle h = refl
free_rise own sda (Address count bits) h = pick_by Free (ltb count 7) (λ _. refl) (λ _. free_addressed (compared own (gathered bits sda)) (gathered bits sda))
free_rise own sda (CalledAddress matched bits ninth) h = refl
free_rise own sda Ignoring h = refl
free_rise own sda (Receive matched count bits) h = pick_by Free (ltb count 8) (λ _. refl) (λ _. refl)
free_rise own sda (Transmit matched count byte) h = pick_by Free (eqb count 9) (λ _. refl) (λ _. refl)
free_rise own sda (Held matched clocks) h = h

free_period : (p : Phase) → Free p → Free (phase_at_period p)
unfolding phase_at_period pulls_scl
free_period Idle h = refl
free_period (Address count bits) h = refl
free_period (CalledAddress matched bits ninth) h = refl
free_period Ignoring h = refl
free_period (Receive matched count bits) h = refl
free_period (Transmit matched count byte) h = refl
free_period (Held matched clocks) h = h

-- a fall of SCL takes it low where a ninth clock runs
pick_false : (t : Bool) (x y : Phase) → pulls_scl x ≡ true → pulls_scl y ≡ false → pulls_scl (pick t x y) ≡ t
pick_false true x y h k = h
pick_false false x y h k = k

transmit_falls : (few ten : Bool) (m : OwnAddress) (count byte : ℕ) → ltb count 9 ≡ few → eqb count 10 ≡ ten →
    pulls_scl (pick few (Transmit m (count + 1) byte) (pick ten (Held m 0) (Transmit m count byte))) ≡ ten
unfolding pulls_scl
transmit_falls true true m count byte f t = clash (ltb count 9) f (rw (eqb-true count 10 t))
transmit_falls true false m count byte f t = refl
transmit_falls false true m count byte f t = refl
transmit_falls false false m count byte f t = refl

fall_takes : (status : ℕ) (p : Phase) → Free p → pulls_scl (phase_at_fall status p) ≡ in_ninth_clock p
unfolding phase_at_fall pulls_scl
fall_takes status Idle h = refl
fall_takes status (Address count bits) h = refl
fall_takes status (CalledAddress matched bits ninth) h = pick_false ninth _ _ refl refl
fall_takes status Ignoring h = refl
fall_takes status (Receive matched count bits) h = pick_false (ltb 8 count) _ _ refl (pick_by Free (eqb count 8) (λ _. refl) (λ _. refl))
fall_takes status (Transmit matched count byte) h = transmit_falls (ltb count 9) (eqb count 10) matched count byte refl refl
fall_takes status (Held matched clocks) h = clash _ refl h

-- and the count is 0 then
pick_true : (t : Bool) (x y : Phase) → t ≡ true → pick t x y ≡ x
pick_true t x y h = rw h

transmit_zero : (few : Bool) (m : OwnAddress) (count byte : ℕ) → ltb count 9 ≡ few → eqb count 10 ≡ true →
    pick few (Transmit m (count + 1) byte) (pick (eqb count 10) (Held m 0) (Transmit m count byte)) ≡ Held m 0
transmit_zero true m count byte f t = clash (ltb count 9) f (rw (eqb-true count 10 t))
transmit_zero false m count byte f t = rw t

fall_zero : (status : ℕ) (p : Phase) → in_ninth_clock p ≡ true → (m : OwnAddress) × (phase_at_fall status p ≡ Held m 0)
unfolding phase_at_fall
fall_zero status Idle h = clash _ h refl
fall_zero status (Address count bits) h = clash _ h refl
fall_zero status (CalledAddress matched bits ninth) h = (matched, pick_true ninth _ _ h)
fall_zero status Ignoring h = clash _ h refl
fall_zero status (Receive matched count bits) h = (matched, pick_true (ltb 8 count) _ _ h)
fall_zero status (Transmit matched count byte) h = (matched, transmit_zero (ltb count 9) matched count byte refl h)
fall_zero status (Held matched clocks) h = clash _ h refl

-- ---- writes: none takes SCL low

abbrev FreeBus : Bus → Type 0
FreeBus b = Free b.phase

abbrev FreeCore : Core → Type 0
FreeCore c = Free c.bus.phase

mode_free : (old new : Mode) (b : Bus) → FreeBus b → FreeBus (bus_at_mode old new b)
unfolding bus_at_mode released pulls_scl
mode_free old new b h = pick_by FreeBus (changes_mode old new) (λ _. refl) (λ _. h)

write_free : (t : Target) (c : Core) (b : ℕ) → FreeCore c → FreeCore (written_to t c b)
unfolding written_to mdcon_written clrflg_written clrwdt_written iiadr_written iidat_written iists_written bus_at_iidat
write_free Stored c b h = h
write_free Mdcon c b h = mode_free _ _ c.bus h
write_free Hvcon c b h = h
write_free Clrflg c b h = h
write_free Clrwdt c b h = h
write_free Iiadr c b h = h
write_free Iidat c b h = rw h h
write_free Iists c b h = mode_free _ _ _ h
write_free Bt c b h = h

at_write : (c : Chip) (a b : ℕ) → FreeCore c.core → FreeCore (next c (Ok (Write a b))).core
unfolding next core_after write_register written
at_write c a b h = pick_by FreeCore c.core.reset (λ _. pick_by FreeCore (is_writable a) (λ _. write_free (target a) c.core b h) (λ _. h)) (λ _. h)

-- ---- pins: a fall of SCL alone takes it low

-- by RESET, the bits of the mode, and SCL before and after
abbrev falls : Mode → Edge → Bool → Bool
falls Off e ninth = false
falls Ddc1 e ninth = false
falls Ddc2b Flat ninth = false
falls Ddc2b Rise ninth = false
falls Ddc2b Fall ninth = ninth

scl_phase : (m : Mode) (e : Edge) (c : Core) → FreeCore c → pulls_scl (on_scl m e c).bus.phase ≡ falls m e (in_ninth_clock c.bus.phase)
unfolding on_scl on_scl_ddc1 on_scl_ddc2b scl_rise scl_fall leave_ddc1 bus_at_rise released pulls_scl
scl_phase Off e c h = h
scl_phase Ddc1 Flat c h = h
scl_phase Ddc1 Rise c h = h
scl_phase Ddc1 Fall c h = refl
scl_phase Ddc2b Flat c h = h
scl_phase Ddc2b Rise c h = free_rise c.bus.iiadr _ c.bus.phase h
scl_phase Ddc2b Fall c h = fall_takes c.bus.iists c.bus.phase h

-- the line is not pulled
unpulled : (m : Mode) (p : Phase) → Free p → scl_pulled m p ≡ false
unfolding scl_pulled
unpulled Off p h = refl
unpulled Ddc1 p h = refl
unpulled Ddc2b p h = h

falls_is : (reset enddc md old new ninth : Bool) →
    falls (pick reset (mode_by enddc md) Off) (edge old new) ninth
    ≡ ((not new && (reset && (old && not ((not enddc && not md) && false)))) && ((not enddc && not md) && ninth))
falls_is reset enddc md old new ninth =
    beq_eq _ _
    (at_six
    (λ r e m o l n. beq (falls (pick r (mode_by e m) Off) (edge o l) n) ((not l && (r && (o && not ((not e && not m) && false)))) && ((not e && not m) && n)))
    tt reset enddc md old new ninth)

at_scl : (c : Chip) (level : Bool) → FreeCore c.core → pulls_scl (scl_moved c.core level).bus.phase ≡ takes_scl c (Ok (Pin 25 level))
unfolding scl_moved takes_scl mode
at_scl c level h =
    rw (unpulled (active_mode c.core) c.core.bus.phase h)
    (scl_phase (active_mode c.core) (edge c.core.scl level) (with_scl c.core level) h
    ∙ rw h (falls_is c.core.reset (bit 3 c.core.bus.iists) (bit 0 c.core.mdcon) c.core.scl level (in_ninth_clock c.core.bus.phase)))

sda_free_lem : (m : Mode) (high : Bool) (e : Edge) (c : Core) → FreeCore c → FreeCore (on_sda m high e c)
unfolding on_sda on_sda_ddc2b started stopped pulls_scl
sda_free_lem Off high e c h = h
sda_free_lem Ddc1 high e c h = h
sda_free_lem Ddc2b high Flat c h = h
sda_free_lem Ddc2b true Rise c h = refl
sda_free_lem Ddc2b false Rise c h = h
sda_free_lem Ddc2b true Fall c h = refl
sda_free_lem Ddc2b false Fall c h = h

vsync_free : (m : Mode) (b : Bus) → FreeBus b → FreeBus (bus_at_vsync m b)
unfolding bus_at_vsync
vsync_free Off b h = h
vsync_free Ddc1 b h = h
vsync_free Ddc2b b h = h

reset_free : (old new : Bool) (c : Core) → FreeCore c → FreeCore (on_reset (edge old new) (with_reset c new))
unfolding on_reset reset_core reset_at pulls_scl
reset_free true true c h = h
reset_free true false c h = refl
reset_free false true c h = h
reset_free false false c h = h

-- a pin other than SCL
none : (c : Chip) (p : ℕ) (level : Bool) → eqb p 25 ≡ false → takes_scl c (Ok (Pin p level)) ≡ false
unfolding takes_scl
none c p level h = rw h

at_kind_lem : {k : PinKind} {p : ℕ} → Numbered k p → (c : Chip) (level : Bool) → FreeCore c.core → pulls_scl (pin_moved_as k c.core p level).bus.phase ≡ takes_scl c (Ok (Pin p level))
unfolding pin_moved_as port0_moved port1_moved port2_moved p16_moved hsync_moved vsync_moved vsync_rise sda_moved reset_moved
at_kind_lem {p = p} (port0_pin u high) c level h = h ∙ sym (none c p level u.scl)
at_kind_lem {p = p} (port1_pin u low high) c level h = h ∙ sym (none c p level u.scl)
at_kind_lem {p = p} (port2_pin u low high) c level h = h ∙ sym (none c p level u.scl)
at_kind_lem {p = p} (no_pin u absent) c level h = h ∙ sym (none c p level u.scl)
at_kind_lem p16_pin c level h = h ∙ sym (none c 14 level refl)
at_kind_lem sda_pin c level h = sda_free_lem _ _ _ (with_sda c.core level) h ∙ sym (none c 24 level refl)
at_kind_lem scl_pin c level h = at_scl c level h
at_kind_lem hsynci_pin c level h = h ∙ sym (none c 26 level refl)
at_kind_lem vsynci_pin c level h =
    pick_by FreeCore (rises c.core.reset c.core.pins.vsynci level) (λ _. vsync_free (mode_of c.core) c.core.bus h) (λ _. h)
    ∙ sym (none c 27 level refl)
at_kind_lem reset_pin c level h = reset_free c.core.reset level c.core h ∙ sym (none c 28 level refl)

-- the fall that ends a ninth clock, in DDC2B with SCL free
pub taken : (c : Core) → bit 3 c.bus.iists ≡ false → bit 0 c.mdcon ≡ false → c.reset ≡ true → c.scl ≡ true → FreeCore c → in_ninth_clock c.bus.phase ≡ true →
    Holds 0 (scl_moved c false)
unfolding scl_moved mode on_scl on_scl_ddc2b scl_fall scl_pulled
taken c e m r s f k =
    let zero = fall_zero c.bus.iists c.bus.phase k in
    rw (r, e, m, s, f) (record { enddc = e; md = m; matched = zero.0; held = zero.1 })

-- ---- clocks: none takes SCL low

at_clock : (c : Chip) (k : ℕ) → FreeCore c.core → FreeCore (next c (Ok (Clock k))).core
unfolding next core_after clocked clocked_as period_clock watchdog_clock timer_clock timer_step reset_core reset_at pulls_scl
at_clock c k h =
    pick_by FreeCore c.core.reset
    (λ _. pick_by FreeCore (eqb k 0) (λ _. free_period c.core.bus.phase h)
    (λ _. pick_by FreeCore (eqb k 3) (λ _. pick_by FreeCore (watchdog_fires c.core.watchdog) (λ _. refl) (λ _. h))
    (λ _. pick_by FreeCore (timer_runs (register_at c.registers BTCON) k) (λ _. h) (λ _. h))))
    (λ _. h)

-- ---- every event

pub takes : (c : Chip) (e : Decoded) → FreeCore c.core → pulls_scl (next c e).core.bus.phase ≡ takes_scl c e
unfolding next core_after takes_scl pin_moved polarity_found
takes c (Ok (Read a)) h = h
takes c (Ok (Write a b)) h = at_write c a b h
takes c (Ok (Pin p level)) h = at_kind_lem (numbered p) c level h
takes c (Ok (Clock k)) h = at_clock c k h
takes c (Ok (Polarity vertical level)) h = pick_by FreeCore c.core.reset (λ _. h) (λ _. h)
takes c (Err r) h = h
