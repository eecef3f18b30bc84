-- What the chip puts on SDA in DDC1: ones before the first load, then the byte that stood in II DAT at the load, its top bit first, and the null bit.
-- Assumes nothing.
use mathlib.Core.Path.{◌≡◌, refl, sym, ap, ◌∙◌}
use mathlib.Core.Bool.{Bool, true, false, not, ◌&&◌, ◌||◌}
use mathlib.Core.List.{List, [], ◌∷◌}
use Prim.Native.Nat.{ℕ, ◌+◌, ◌-◌, ◌*◌, ◌/◌, ◌%◌, ◌<◌, ◌≤◌}
use native.Mathlib.Omega.{arith}
use native.Mathlib.Nat.{add-zero, zero-add}
use borrow.Author.Tests.{eqb-true, eqb-false, ltb-true, le-ltb, eq-eqb, ne_eqb, not-true, not-false}
use lib.Dec.{eqb, ltb}
use Rattle.bits.specs.Byte.{pick, num, bit}
use Rattle.bits.proofs.Finite.{both, neither, T_true, at_each}
use Rattle.bits.proofs.Level.{pick_by}
use Rattle.registers.specs.Names.{MDCON, IIDAT, IISTS, BTCON}
use Rattle.registers.specs.Table.{table, row_of, is_writable, updated}
use Rattle.std.specs.Prelude.{Ok, Err}
use Rattle.events.specs.Decoded.{Decoded}
use Rattle.events.specs.declared.Event.TheVariants.{Read, Write, Pin, Clock, Polarity}
use Rattle.events.specs.Word.{decode}
use Rattle.counters.specs.Count.{watchdog_fires, watchdog_next}
use Rattle.bus.specs.declared.Mode.{Mode}
use Rattle.bus.specs.declared.Mode.TheVariants.{Off, Ddc1}
use Rattle.bus.specs.declared.Edge.{Edge}
use Rattle.bus.specs.declared.Comparison.{Comparison}
use Rattle.bus.specs.declared.Phase.{Phase}
use Rattle.bus.specs.declared.Shifter.{Shifter}
use Rattle.bus.specs.Bus.{edge, line, mode, changes_mode, pulls_scl, sda_pulled, scl_pulled, compared_in}
use Rattle.bus.specs.Ddc1.{unused_shifter, shifter_at_rise}
use Rattle.bus_ddc2b.specs.Ddc2b.{phase_let_go}
use Rattle.bus_ddc2b.proofs.First.{status_first}
use Rattle.chip.specs.declared.Bus.{Bus}
use Rattle.chip.specs.declared.Core.{Core}
use Rattle.chip.specs.declared.Chip.{Chip}
use Rattle.chip.specs.State.{bus_of, mode_of, released, register_at, reset_core, with_reset, with_scl, with_watchdog, with_polarity}
use Rattle.chip_edges.specs.Edges.{bus_at_mode, bus_at_rise, on_scl, on_scl_ddc1, scl_moved, on_sda, sda_moved, bus_at_vsync}
use Rattle.chip_ddc_writes.specs.DdcWrites.{mdcon_written, iiadr_written, status_written, iists_written, bus_let_go, bus_risen, bus_at_iidat, iidat_written}
use Rattle.chip_ddc_writes.proofs.Modes.{md_written, enddc_written}
use Rattle.chip_writes.specs.declared.Target.{Target}
use Rattle.chip_writes.specs.Writes.{clrflg_written, clrwdt_written, written_to, written, write_register}
use Rattle.chip_writes.proofs.Addresses.{Addressed, at_mdcon, at_hvcon, at_clrflg, at_clrwdt, at_iiadr, at_iidat, at_iists, at_bt, at_plain, addressed}
use Rattle.chip_pins.specs.declared.PinKind.{PinKind}
use Rattle.chip_pins.specs.Pins.{rises, port0_moved, port1_moved, port2_moved, p16_moved, hsync_moved, vsync_level, vsync_moved, vsync_rise, on_reset, reset_moved, pin_moved_as, pin_moved}
use Rattle.chip_pins.specs.Numbers.{Numbered, p16_pin, sda_pin, scl_pin, hsynci_pin, vsynci_pin, reset_pin, port0_pin, port1_pin, port2_pin, no_pin}
use Rattle.chip_pins.proofs.Numbers.{numbered}
use Rattle.chip_clocks.specs.Clocks.{period_clock, timer_runs, timer_step, timer_clock, watchdog_clock, clocked_as, clocked, polarity_found}
use Rattle.chip_events.specs.Outcome.{core_after, next}
use Rattle.chip_flag_laws.specs.Causes.{in_ddc1, rises_vsynci}
use Rattle.chip_flag_laws.proofs.Clocks.{watchdog_last}
use Rattle.step.specs.Step.{advance}
use Rattle.list_call.specs.Run.{advanced}
use Rattle.chip_count_laws.specs.Counting.{never}
use Rattle.chip_count_laws.proofs.Events.{rise_is}
use Rattle.chip_observed_laws.specs.Ddc1.{puts_sda, leaves_ddc1, vsync_rises, loads, sent_bit}

-- ---- the shift register

-- the shift register's bits are those that follow, the n-th of the byte being on top
record Shows (byte n r : ℕ) : Type 0 where
  pub b7 : bit 7 r ≡ sent_bit byte n
  pub b6 : bit 6 r ≡ sent_bit byte (n + 1)
  pub b5 : bit 5 r ≡ sent_bit byte (n + 1 + 1)
  pub b4 : bit 4 r ≡ sent_bit byte (n + 1 + 1 + 1)
  pub b3 : bit 3 r ≡ sent_bit byte (n + 1 + 1 + 1 + 1)
  pub b2 : bit 2 r ≡ sent_bit byte (n + 1 + 1 + 1 + 1 + 1)
  pub b1 : bit 1 r ≡ sent_bit byte (n + 1 + 1 + 1 + 1 + 1 + 1)
  pub b0 : bit 0 r ≡ sent_bit byte (n + 1 + 1 + 1 + 1 + 1 + 1 + 1)

shows_first : (byte : ℕ) → Shows byte 0 byte
unfolding sent_bit
shows_first byte = record { b7 = refl; b6 = refl; b5 = refl; b4 = refl; b3 = refl; b2 = refl; b1 = refl; b0 = refl }

-- a shift puts each bit in the place above it, and a one in the lowest
same_bit : (x y : ℕ) → x ≡ y → eqb x 1 ≡ eqb y 1
same_bit x y e = rw e

module _ (r : ℕ) where
  to_7 : bit 7 (r % 128 * 2 + 1) ≡ bit 6 r
  unfolding bit
  to_7 = same_bit ((r % 128 * 2 + 1) / 128 % 2) (r / 64 % 2) (omega arith)

  to_6 : bit 6 (r % 128 * 2 + 1) ≡ bit 5 r
  unfolding bit
  to_6 = same_bit ((r % 128 * 2 + 1) / 64 % 2) (r / 32 % 2) (omega arith)

  to_5 : bit 5 (r % 128 * 2 + 1) ≡ bit 4 r
  unfolding bit
  to_5 = same_bit ((r % 128 * 2 + 1) / 32 % 2) (r / 16 % 2) (omega arith)

  to_4 : bit 4 (r % 128 * 2 + 1) ≡ bit 3 r
  unfolding bit
  to_4 = same_bit ((r % 128 * 2 + 1) / 16 % 2) (r / 8 % 2) (omega arith)

  to_3 : bit 3 (r % 128 * 2 + 1) ≡ bit 2 r
  unfolding bit
  to_3 = same_bit ((r % 128 * 2 + 1) / 8 % 2) (r / 4 % 2) (omega arith)

  to_2 : bit 2 (r % 128 * 2 + 1) ≡ bit 1 r
  unfolding bit
  to_2 = same_bit ((r % 128 * 2 + 1) / 4 % 2) (r / 2 % 2) (omega arith)

  to_1 : bit 1 (r % 128 * 2 + 1) ≡ bit 0 r
  unfolding bit
  to_1 = same_bit ((r % 128 * 2 + 1) / 2 % 2) (r / 1 % 2) (omega arith)

  to_0 : bit 0 (r % 128 * 2 + 1) ≡ true
  unfolding bit
  to_0 = same_bit ((r % 128 * 2 + 1) / 1 % 2) 1 (omega arith)

shows_next : (byte n r : ℕ) → Shows byte n r → Shows byte (n + 1) (r % 128 * 2 + 1)
unfolding sent_bit
shows_next byte n r s =
    record {
      b7 = to_7 r ∙ s.b6;
      b6 = to_6 r ∙ s.b5;
      b5 = to_5 r ∙ s.b4;
      b4 = to_4 r ∙ s.b3;
      b3 = to_3 r ∙ s.b2;
      b2 = to_2 r ∙ s.b1;
      b1 = to_1 r ∙ s.b0;
      b0 = to_0 r ∙ rw (le-ltb (n + 1 + 1 + 1 + 1 + 1 + 1 + 1 + 1) 8 (omega arith));
    }

-- n rises after a load, or after DDC1 began, with k edges left
record Sends (byte n k : ℕ) (s : Shifter) : Type 0 where
  pub shows : Shows byte n s.register
  pub edges : s.edges ≡ k

sends_next : (byte n k iidat : ℕ) (s : Shifter) → Sends byte n k s → 0 < k → Sends byte (n + 1) (k - 1) (shifter_at_rise iidat s)
unfolding shifter_at_rise
sends_next byte n k iidat s h p =
    let left : eqb k 0 ≡ false = ne_eqb k 0 (λ (e : k ≡ 0). omega (arith, e, p)) in
    rw (h.edges, left) (record { shows = shows_next byte n s.register h.shows; edges = refl })

-- ---- one event in DDC1

-- DDC1 by its two bits
record InDdc1 (c : Core) : Type 0 where
  pub enddc : bit 3 c.bus.iists ≡ false
  pub md : bit 0 c.mdcon ≡ true

-- DDC1 goes on, and a rise of VSYNCI shifts or loads
record Effect (c : Chip) (e : Decoded) (after : Core) : Type 0 where
  pub mode : InDdc1 after
  pub shifter : after.bus.shifter ≡ pick (rises_vsynci c e) (shifter_at_rise c.core.bus.iidat c.core.bus.shifter) c.core.bus.shifter

-- nothing that DDC1 looks at has moved
record Kept (c after : Core) : Type 0 where
  pub iists : after.bus.iists ≡ c.bus.iists
  pub mdcon : after.mdcon ≡ c.mdcon
  pub shifter : after.bus.shifter ≡ c.bus.shifter

kept : {c : Chip} {e : Decoded} {after : Core} → InDdc1 c.core → rises_vsynci c e ≡ false → Kept c.core after → Effect c e after
kept h r k = record { mode = record { enddc = rw k.iists h.enddc; md = rw k.mdcon h.md }; shifter = rw r k.shifter }

in_ddc1_lem : {c : Core} → InDdc1 c → mode_of c ≡ Ddc1
unfolding mode
in_ddc1_lem h = rw (h.enddc, h.md)

-- ---- writes

mode_kept : (iists mdcon iists' mdcon' : ℕ) (b : Bus) → bit 3 iists ≡ false → bit 0 mdcon ≡ true → bit 3 iists' ≡ false → bit 0 mdcon' ≡ true →
    bus_at_mode (mode iists mdcon) (mode iists' mdcon') b ≡ b
unfolding bus_at_mode mode changes_mode
mode_kept iists mdcon iists' mdcon' b e m e' m' = rw (e, m, e', m')

-- II DAT, also where a state that is not well formed lets SCL go
risen_kept : (scl sda : Bool) (k : Comparison) (trx : Bool) (iists iiadr iidat byte : ℕ) (s : Shifter) →
    ((bus_risen scl sda (bus_of iists iiadr iidat (phase_let_go k trx byte) s)).iists ≡ iists) × ((bus_risen scl sda (bus_of iists iiadr iidat (phase_let_go k trx byte) s)).shifter ≡ s)
unfolding bus_risen bus_at_rise
risen_kept true sda k trx iists iiadr iidat byte s = (status_first k trx _ byte iists, refl)
risen_kept false sda k trx iists iiadr iidat byte s = (refl, refl)

data_kept : (pulls scl sda : Bool) (byte : ℕ) (b : Bus) →
    ((pick pulls (bus_risen scl sda (bus_let_go byte b)) (bus_of b.iists b.iiadr (updated IIDAT b.iidat byte) b.phase b.shifter)).iists ≡ b.iists)
    × ((pick pulls (bus_risen scl sda (bus_let_go byte b)) (bus_of b.iists b.iiadr (updated IIDAT b.iidat byte) b.phase b.shifter)).shifter ≡ b.shifter)
data_kept true scl sda byte b = risen_kept scl sda (compared_in b.phase) (bit 2 b.iists) b.iists b.iiadr (updated IIDAT b.iidat byte) byte b.shifter
data_kept false scl sda byte b = (refl, refl)

or_false : (x : Bool) → (x || false) ≡ x
or_false true = refl
or_false false = refl

module _ (c : Chip) (b : ℕ) (h : InDdc1 c.core) (r : c.core.reset ≡ true) where
  leaves_mdcon : leaves_ddc1 c (Ok (Write MDCON b)) ≡ not (bit 0 b)
  unfolding leaves_ddc1
  leaves_mdcon = rw r (or_false (not (bit 0 b)))

  leaves_iists : leaves_ddc1 c (Ok (Write IISTS b)) ≡ bit 3 b
  unfolding leaves_ddc1
  leaves_iists = rw r (or_false (bit 3 b))

  at_target : {t : Target} {a : ℕ} → Addressed t a → leaves_ddc1 c (Ok (Write a b)) ≡ false → Effect c (Ok (Write a b)) (pick (is_writable a) (written_to t c.core b) c.core)
  unfolding is_writable row_of table written_to mdcon_written clrflg_written clrwdt_written iiadr_written iidat_written iists_written bus_at_iidat
  at_target at_mdcon z =
      let bus : Bus = c.core.bus in
      let m = md_written c.core.mdcon b ∙ not-false (bit 0 b) (sym leaves_mdcon ∙ z) in
      let same = mode_kept bus.iists c.core.mdcon bus.iists (updated MDCON c.core.mdcon b) bus h.enddc h.md h.enddc m in
      record { mode = record { enddc = rw same h.enddc; md = m }; shifter = rw same }
  at_target at_hvcon z = kept h refl (record { iists = refl; mdcon = refl; shifter = refl })
  at_target at_clrflg z = kept h refl (record { iists = refl; mdcon = refl; shifter = refl })
  at_target at_clrwdt z = kept h refl (record { iists = refl; mdcon = refl; shifter = refl })
  at_target at_iiadr z = kept h refl (record { iists = refl; mdcon = refl; shifter = refl })
  at_target at_iidat z =
      let k = data_kept (pulls_scl c.core.bus.phase) c.core.scl c.core.sda b c.core.bus in
      kept h refl (record { iists = k.0; mdcon = refl; shifter = k.1 })
  at_target at_iists z =
      let bus : Bus = c.core.bus in
      let put : Bus = bus_of (status_written bus.iists b) bus.iiadr bus.iidat bus.phase bus.shifter in
      let e = enddc_written bus.iists b ∙ sym leaves_iists ∙ z in
      let same = mode_kept bus.iists c.core.mdcon (status_written bus.iists b) c.core.mdcon put h.enddc h.md e h.md in
      record { mode = record { enddc = rw same e; md = h.md }; shifter = rw same }
  at_target at_bt z = kept h refl (record { iists = refl; mdcon = refl; shifter = refl })
  at_target {a = a} (at_plain p) z = kept h refl (pick_by (Kept c.core) (is_writable a) (λ _. record { iists = refl; mdcon = refl; shifter = refl }) (λ _. record { iists = refl; mdcon = refl; shifter = refl }))

at_write : (c : Chip) (a b : ℕ) → InDdc1 c.core → leaves_ddc1 c (Ok (Write a b)) ≡ false → Effect c (Ok (Write a b)) (next c (Ok (Write a b))).core
unfolding next core_after write_register written
at_write c a b h z =
    pick_by (Effect c (Ok (Write a b))) c.core.reset (λ r. at_target c b h r (addressed a) z)
    (λ _. kept h refl (record { iists = refl; mdcon = refl; shifter = refl }))

-- ---- pins

-- no fall of SCL
scl_kept : (reset old new : Bool) (p : Phase) (c : Core) → (not new && (reset && (old && true))) ≡ false →
    on_scl (pick reset Ddc1 Off) (edge (line (scl_pulled (pick reset Ddc1 Off) p) old) (line (scl_pulled (pick reset Ddc1 Off) p) new)) c ≡ c
unfolding on_scl on_scl_ddc1 scl_pulled
scl_kept true true true p c z = refl
scl_kept true true false p c z = cc
scl_kept true false true p c z = refl
scl_kept true false false p c z = refl
scl_kept false old new p c z = refl

sda_kept : (reset high : Bool) (e : Edge) (c : Core) → on_sda (pick reset Ddc1 Off) high e c ≡ c
unfolding on_sda
sda_kept true high e c = refl
sda_kept false high e c = refl

vsync_by : (c : Chip) (e : Decoded) (level t : Bool) → InDdc1 c.core → rises_vsynci c e ≡ t → Effect c e (pick t (vsync_rise (vsync_level c.core level)) (vsync_level c.core level))
unfolding vsync_rise bus_at_vsync
vsync_by c e level true h r = rw (in_ddc1_lem h) (record { mode = record { enddc = h.enddc; md = h.md }; shifter = rw r })
vsync_by c e level false h r = record { mode = record { enddc = h.enddc; md = h.md }; shifter = rw r }

reset_by : (old level : Bool) (c : Core) → (old && not level) ≡ false → Kept c (on_reset (edge old level) (with_reset c level))
unfolding on_reset
reset_by true true c z = record { iists = refl; mdcon = refl; shifter = refl }
reset_by true false c z = absurd (let k : ◌≡◌ {A = ℕ} 0 1 = cc in omega arith)
reset_by false true c z = record { iists = refl; mdcon = refl; shifter = refl }
reset_by false false c z = record { iists = refl; mdcon = refl; shifter = refl }

module _ (c : Chip) (level : Bool) (h : InDdc1 c.core) where
  at_scl : leaves_ddc1 c (Ok (Pin 25 level)) ≡ false → Effect c (Ok (Pin 25 level)) (scl_moved c.core level)
  unfolding scl_moved leaves_ddc1
  at_scl z =
      let falls : (not level && (c.core.reset && (c.core.scl && true))) ≡ false = rw (h.enddc, h.md) at z in
      rw (in_ddc1_lem h, scl_kept c.core.reset c.core.scl level c.core.bus.phase (with_scl c.core level) falls)
      (kept h refl (record { iists = refl; mdcon = refl; shifter = refl }))

  at_sda : Effect c (Ok (Pin 24 level)) (sda_moved c.core level)
  unfolding sda_moved
  at_sda = rw (in_ddc1_lem h, sda_kept) (kept h refl (record { iists = refl; mdcon = refl; shifter = refl }))

  at_vsynci : Effect c (Ok (Pin 27 level)) (vsync_moved c.core level)
  unfolding vsync_moved
  at_vsynci = vsync_by c (Ok (Pin 27 level)) level (rises c.core.reset c.core.pins.vsynci level) h (sym (rise_is c.core.reset c.core.pins.vsynci level))

  at_reset_lem : leaves_ddc1 c (Ok (Pin 28 level)) ≡ false → Effect c (Ok (Pin 28 level)) (reset_moved c.core level)
  unfolding reset_moved leaves_ddc1
  at_reset_lem z = kept h refl (reset_by c.core.reset level c.core (neither (c.core.reset && not level) _ z).0)

  at_kind_lem : {k : PinKind} {p : ℕ} → Numbered k p → leaves_ddc1 c (Ok (Pin p level)) ≡ false → Effect c (Ok (Pin p level)) (pin_moved_as k c.core p level)
  unfolding pin_moved_as port0_moved port1_moved port2_moved p16_moved hsync_moved
  at_kind_lem (port0_pin u high) z = kept h (rw u.vsynci) (record { iists = refl; mdcon = refl; shifter = refl })
  at_kind_lem (port1_pin u low high) z = kept h (rw u.vsynci) (record { iists = refl; mdcon = refl; shifter = refl })
  at_kind_lem (port2_pin u low high) z = kept h (rw u.vsynci) (record { iists = refl; mdcon = refl; shifter = refl })
  at_kind_lem (no_pin u none) z = kept h (rw u.vsynci) (record { iists = refl; mdcon = refl; shifter = refl })
  at_kind_lem p16_pin z = kept h refl (record { iists = refl; mdcon = refl; shifter = refl })
  at_kind_lem sda_pin z = at_sda
  at_kind_lem scl_pin z = at_scl z
  at_kind_lem hsynci_pin z = kept h refl (record { iists = refl; mdcon = refl; shifter = refl })
  at_kind_lem vsynci_pin z = at_vsynci
  at_kind_lem reset_pin z = at_reset_lem z

-- ---- clocks

period_by : (reset : Bool) (c : Core) → Kept c (pick reset (period_clock c) c)
unfolding period_clock
period_by true c = record { iists = refl; mdcon = refl; shifter = refl }
period_by false c = record { iists = refl; mdcon = refl; shifter = refl }

timer_by : (reset runs : Bool) (c : Core) → Kept c (pick reset (pick runs (timer_step c) c) c)
unfolding timer_step
timer_by true true c = record { iists = refl; mdcon = refl; shifter = refl }
timer_by true false c = record { iists = refl; mdcon = refl; shifter = refl }
timer_by false runs c = record { iists = refl; mdcon = refl; shifter = refl }

watchdog_by : (reset fires : Bool) (c : Core) (n : ℕ) → (reset && fires) ≡ false → Kept c (pick reset (pick fires (reset_core c) (with_watchdog c n)) c)
watchdog_by true true c n z = absurd (let k : ◌≡◌ {A = ℕ} 0 1 = cc in omega arith)
watchdog_by true false c n z = record { iists = refl; mdcon = refl; shifter = refl }
watchdog_by false fires c n z = record { iists = refl; mdcon = refl; shifter = refl }

clock_by : (c : Chip) (k : ℕ) (period watchdog : Bool) → eqb k 0 ≡ period → eqb k 3 ≡ watchdog → leaves_ddc1 c (Ok (Clock k)) ≡ false → Kept c.core (next c (Ok (Clock k))).core
unfolding next core_after clocked clocked_as watchdog_clock timer_clock leaves_ddc1
clock_by c k true watchdog e f z = rw (eqb-true k 0 e) (period_by c.core.reset c.core)
clock_by c k false true e f z =
    let fires : (c.core.reset && ltb 62 c.core.watchdog) ≡ false = (neither (c.core.reset && ltb 62 c.core.watchdog) _ (rw (eqb-true k 3 f) at z)).0 in
    rw (eqb-true k 3 f) (watchdog_by c.core.reset (watchdog_fires c.core.watchdog) c.core (watchdog_next c.core.watchdog) (rw (watchdog_last c.core.watchdog) fires))
clock_by c k false false e f z = rw (e, f) (timer_by c.core.reset (timer_runs (register_at c.registers BTCON) k) c.core)

-- ---- every event

polarity_by : (reset : Bool) (c : Core) (n : ℕ) → Kept c (pick reset (with_polarity c n) c)
polarity_by true c n = record { iists = refl; mdcon = refl; shifter = refl }
polarity_by false c n = record { iists = refl; mdcon = refl; shifter = refl }

effect : (c : Chip) (e : Decoded) → InDdc1 c.core → leaves_ddc1 c e ≡ false → Effect c e (next c e).core
unfolding next core_after pin_moved polarity_found
effect c (Ok (Read a)) h z = kept h refl (record { iists = refl; mdcon = refl; shifter = refl })
effect c (Ok (Write a b)) h z = at_write c a b h z
effect c (Ok (Pin p level)) h z = at_kind_lem c level h (numbered p) z
effect c (Ok (Clock k)) h z = kept h refl (clock_by c k _ _ refl refl z)
effect c (Ok (Polarity vertical level)) h z = kept h refl (polarity_by c.core.reset c.core _)
effect c (Err r) h z = kept h refl (record { iists = refl; mdcon = refl; shifter = refl })

-- ---- over a list of words

record Goes (byte n k : ℕ) (c : Core) : Type 0 where
  pub mode : InDdc1 c
  pub sends : Sends byte n k c.bus.shifter

recounted : {byte n n' k k' : ℕ} {c : Core} → n ≡ n' → k ≡ k' → Goes byte n k c → Goes byte n' k' c
recounted e f g = rw (← e, ← f) g

shifts : (byte n k iidat : ℕ) (t : Bool) (s : Shifter) → Sends byte n k s → num t ≤ k → Sends byte (n + num t) (k - num t) (pick t (shifter_at_rise iidat s) s)
shifts byte n k iidat true s h p = sends_next byte n k iidat s h p
shifts byte n k iidat false s h p = rw (add-zero n, let e : k - 0 ≡ k = omega arith in e) h

goes_on : (byte n k : ℕ) (c : Chip) (e : Decoded) → Goes byte n k c.core → leaves_ddc1 c e ≡ false → num (rises_vsynci c e) ≤ k →
    Goes byte (n + num (rises_vsynci c e)) (k - num (rises_vsynci c e)) (next c e).core
goes_on byte n k c e g z p =
    let f = effect c e g.mode z in
    record { mode = f.mode; sends = rw f.shifter (shifts byte n k c.core.bus.iidat (rises_vsynci c e) c.core.bus.shifter g.sends p) }

apart : (x y : Bool) → (not x && y) ≡ true → (x ≡ false) × (y ≡ true)
apart true y h = (cc, cc)
apart false y h = (refl, h)

goes_over : (byte n k : ℕ) (c : Chip) (ws : List ℕ) → Goes byte n k c.core → never leaves_ddc1 c ws ≡ true → vsync_rises c ws ≤ k →
    Goes byte (n + vsync_rises c ws) (k - vsync_rises c ws) (advanced c ws).core
unfolding advance
goes_over byte n k c [] g z p = recounted (omega arith) (omega arith) g
goes_over byte n k c (w ∷ ws) g z p =
    let e : Decoded = decode w in
    let stays = apart (leaves_ddc1 c e) _ z in
    let t : ℕ = num (rises_vsynci c e) in
    let more : ℕ = vsync_rises (next c e) ws in
    recounted (sum t more) (less t more)
    (goes_over byte (n + t) (k - t) (next c e) ws (goes_on byte n k c e g stays.0 (first t more p)) stays.1 (rest t more p))
  where
    sum : (t more : ℕ) → n + t + more ≡ n + (t + more)
    sum t more = omega arith

    less : (t more : ℕ) → k - t - more ≡ k - (t + more)
    less t more = omega arith

    first : (t more : ℕ) → t + more ≤ k → t ≤ k
    first t more q = omega (arith, q)

    rest : (t more : ℕ) → t + more ≤ k → more ≤ k - t
    rest t more q = omega (arith, q)

-- ---- what is on SDA

let_go : (b : Bool) → line (not b) true ≡ b
let_go true = refl
let_go false = refl

puts : {byte n k : ℕ} (c : Chip) → Goes byte n k c.core → puts_sda c ≡ sent_bit byte n
unfolding puts_sda sda_pulled
puts c g = rw (in_ddc1_lem g.mode) (let_go (bit 7 c.core.bus.shifter.register) ∙ g.sends.shows.b7)

-- ---- a load

by_bits : (c : Chip) → in_ddc1 c ≡ true → InDdc1 c.core
by_bits c h =
    let d = both (not (bit 3 c.core.bus.iists)) (bit 0 c.core.mdcon) h in
    record { enddc = not-true (bit 3 c.core.bus.iists) d.0; md = d.1 }

bits_of : (c : Chip) → InDdc1 c.core → in_ddc1 c ≡ true
bits_of c h = rw (h.enddc, h.md)

impossible : {A : Type 0} → false ≡ true → A
impossible h = absurd (let k : ◌≡◌ {A = ℕ} 0 1 = cc in omega arith)

-- a rise of VSYNCI does not leave DDC1
rise_stays : (c : Chip) (e : Decoded) → rises_vsynci c e ≡ true → leaves_ddc1 c e ≡ false
unfolding leaves_ddc1
rise_stays c (Ok (Read a)) h = impossible h
rise_stays c (Ok (Write a b)) h = impossible h
rise_stays c (Ok (Pin p level)) h =
    let k = both (eqb p 27 && level) (c.core.reset && not c.core.pins.vsynci) h in
    rw (eqb-true p 27 (both (eqb p 27) level k.0).0)
rise_stays c (Ok (Clock k)) h = impossible h
rise_stays c (Ok (Polarity vertical level)) h = impossible h
rise_stays c (Err r) h = impossible h

loaded : (c : Chip) (e : Decoded) → loads c e ≡ true → Goes c.core.bus.iidat 0 8 (next c e).core
unfolding loads shifter_at_rise
loaded c e h =
    let k = both (rises_vsynci c e) (in_ddc1 c && eqb c.core.bus.shifter.edges 0) h in
    let d = both (in_ddc1 c) (eqb c.core.bus.shifter.edges 0) k.1 in
    let f = effect c e (by_bits c d.0) (rise_stays c e k.0) in
    record { mode = f.mode; sends = rw (f.shifter, k.0, d.1) (record { shows = shows_first c.core.bus.iidat; edges = refl }) }

-- the edges that are left say when the next load comes
loads_when : {byte n k : ℕ} (c : Chip) (e : Decoded) → Goes byte n k c.core → loads c e ≡ (rises_vsynci c e && eqb k 0)
unfolding loads
loads_when c e g = rw (bits_of c g.mode, g.sends.edges)

all_gone : (k r : ℕ) → r ≤ k → eqb (k - r) 0 ≡ eqb r k
all_gone k r h = by (eqb r k) refl
  where
    by : (t : Bool) → eqb r k ≡ t → eqb (k - r) 0 ≡ t
    by true e = eq-eqb (k - r) 0 (omega (arith, eqb-true r k e))
    by false e = ne_eqb (k - r) 0 (λ (z : k - r ≡ 0). eqb-false r k e (omega (arith, z, h)))

-- ---- DDC1 is turned on

-- from another mode to DDC1 the bus is released
entered : (iists mdcon iists' mdcon' : ℕ) (b : Bus) (enddc md : Bool) → bit 3 iists ≡ enddc → bit 0 mdcon ≡ md → (not enddc && md) ≡ false →
    bit 3 iists' ≡ false → bit 0 mdcon' ≡ true → (bus_at_mode (mode iists mdcon) (mode iists' mdcon') b).shifter ≡ unused_shifter
unfolding bus_at_mode mode changes_mode released
entered iists mdcon iists' mdcon' b true md e m h e' m' = rw (e, e', m')
entered iists mdcon iists' mdcon' b false true e m h e' m' = cc
entered iists mdcon iists' mdcon' b false false e m h e' m' = rw (e, m, e', m')

-- a change of mode leaves the bytes
mode_bytes : (old new : Mode) (b : Bus) → (bus_at_mode old new b).iists ≡ b.iists
unfolding bus_at_mode released
mode_bytes old new b = pick_by (λ (x : Bus). x.iists ≡ b.iists) (changes_mode old new) (λ _. refl) (λ _. refl)

clash : {A : Type 0} (t : Bool) → t ≡ true → t ≡ false → A
clash t h k = absurd (let z : ◌≡◌ {A = ℕ} 0 1 = cc in omega arith)

-- the core's two bits say DDC1
abbrev ddc1_bits : Core → Bool
ddc1_bits c = not (bit 3 c.bus.iists) && bit 0 c.mdcon

module _ (c : Chip) (b : ℕ) (off : in_ddc1 c ≡ false) where
  on_target : {t : Target} {a : ℕ} → Addressed t a → ddc1_bits (pick (is_writable a) (written_to t c.core b) c.core) ≡ true →
      (pick (is_writable a) (written_to t c.core b) c.core).bus.shifter ≡ unused_shifter
  unfolding is_writable row_of table written_to mdcon_written clrflg_written clrwdt_written iiadr_written iidat_written iists_written bus_at_iidat
  on_target at_mdcon on =
      let bus : Bus = c.core.bus in
      let d = both (not (bit 3 (bus_at_mode (mode bus.iists c.core.mdcon) (mode bus.iists (updated MDCON c.core.mdcon b)) bus).iists)) (bit 0 (updated MDCON c.core.mdcon b)) on in
      entered bus.iists c.core.mdcon bus.iists (updated MDCON c.core.mdcon b) bus _ _ refl refl off
      (ap (bit 3) (sym (mode_bytes _ _ bus)) ∙ not-true _ d.0) d.1
  on_target at_hvcon on = clash (in_ddc1 c) on off
  on_target at_clrflg on = clash (in_ddc1 c) on off
  on_target at_clrwdt on = clash (in_ddc1 c) on off
  on_target at_iiadr on = clash (in_ddc1 c) on off
  on_target at_iidat on =
      let k = data_kept (pulls_scl c.core.bus.phase) c.core.scl c.core.sda b c.core.bus in
      clash (in_ddc1 c) (rw (← k.0) on) off
  on_target at_iists on =
      let bus : Bus = c.core.bus in
      let put : Bus = bus_of (status_written bus.iists b) bus.iiadr bus.iidat bus.phase bus.shifter in
      let d = both (not (bit 3 (bus_at_mode (mode bus.iists c.core.mdcon) (mode (status_written bus.iists b) c.core.mdcon) put).iists)) (bit 0 c.core.mdcon) on in
      entered bus.iists c.core.mdcon (status_written bus.iists b) c.core.mdcon put _ _ refl refl off
      (ap (bit 3) (sym (mode_bytes _ _ put)) ∙ not-true _ d.0) d.1
  on_target at_bt on = clash (in_ddc1 c) on off
  on_target {a = a} (at_plain p) on = clash (in_ddc1 c) (same (is_writable a) on) off
    where
      same : (t : Bool) → ddc1_bits (pick t c.core c.core) ≡ true → in_ddc1 c ≡ true
      same true h = h
      same false h = h

-- a write that turns DDC1 on leaves its shift register unused: ones, and nine edges
pub turned_on : (c : Chip) (a b : ℕ) → in_ddc1 c ≡ false → in_ddc1 (next c (Ok (Write a b))) ≡ true → (next c (Ok (Write a b))).core.bus.shifter ≡ unused_shifter
unfolding next core_after write_register written
turned_on c a b off on =
    pick_by (λ (x : Core). ddc1_bits x ≡ true → x.bus.shifter ≡ unused_shifter) c.core.reset
    (λ _. on_target c b off (addressed a)) (λ _ h. clash (in_ddc1 c) h off) on

-- ---- the theorems

-- since a load of DDC1: after n rises of VSYNCI, up to eight, SDA shows bit 7 - n of the byte that stood in II DAT at the load, whatever was written
-- there since; after the eighth the null bit
pub sent_since_load : (c : Chip) (w : ℕ) (ws : List ℕ) → loads c (decode w) ≡ true → never leaves_ddc1 (next c (decode w)) ws ≡ true → vsync_rises (next c (decode w)) ws ≤ 8 →
    puts_sda (advanced c (w ∷ ws)) ≡ sent_bit c.core.bus.iidat (vsync_rises (next c (decode w)) ws)
unfolding advance
sent_since_load c w ws l z p =
    let g = goes_over c.core.bus.iidat 0 8 (next c (decode w)) ws (loaded c (decode w) l) z p in
    puts (advanced (next c (decode w)) ws) g ∙ rw (zero-add (vsync_rises (next c (decode w)) ws))

-- the ninth rise after a load is the next load, and none before it
pub next_load : (c : Chip) (w : ℕ) (ws : List ℕ) (e : Decoded) → loads c (decode w) ≡ true → never leaves_ddc1 (next c (decode w)) ws ≡ true →
    vsync_rises (next c (decode w)) ws ≤ 8 →
    loads (advanced c (w ∷ ws)) e ≡ (rises_vsynci (advanced c (w ∷ ws)) e && eqb (vsync_rises (next c (decode w)) ws) 8)
unfolding advance
next_load c w ws e l z p =
    let g = goes_over c.core.bus.iidat 0 8 (next c (decode w)) ws (loaded c (decode w) l) z p in
    loads_when (advanced (next c (decode w)) ws) e g ∙ rw (all_gone 8 (vsync_rises (next c (decode w)) ws) p)

ones : (n : ℕ) (t : Bool) → ltb n 8 ≡ t → pick t (bit (7 - n) 255) true ≡ true
unfolding bit
ones n true h = T_true _ (at_each (λ i. bit (7 - i) 255) 8 tt n (ltb-true n 8 h))
ones n false h = refl

begun : (c : Chip) → in_ddc1 c ≡ true → c.core.bus.shifter ≡ unused_shifter → Goes 255 0 9 c.core
begun c h u = record { mode = by_bits c h; sends = rw u (record { shows = shows_first 255; edges = refl }) }

-- DDC1 with its shift register unused, as turning it on leaves it: SDA is let go before the first load
pub released_before_load : (c : Chip) (ws : List ℕ) → in_ddc1 c ≡ true → c.core.bus.shifter ≡ unused_shifter → never leaves_ddc1 c ws ≡ true → vsync_rises c ws ≤ 9 →
    puts_sda (advanced c ws) ≡ true
unfolding sent_bit
released_before_load c ws h u z p =
    puts (advanced c ws) (goes_over 255 0 9 c ws (begun c h u) z p) ∙ ones (0 + vsync_rises c ws) _ refl

-- the tenth rise is the first load, and none before it
pub first_load : (c : Chip) (ws : List ℕ) (e : Decoded) → in_ddc1 c ≡ true → c.core.bus.shifter ≡ unused_shifter → never leaves_ddc1 c ws ≡ true → vsync_rises c ws ≤ 9 →
    loads (advanced c ws) e ≡ (rises_vsynci (advanced c ws) e && eqb (vsync_rises c ws) 9)
first_load c ws e h u z p =
    loads_when (advanced c ws) e (goes_over 255 0 9 c ws (begun c h u) z p) ∙ rw (all_gone 9 (vsync_rises c ws) p)
