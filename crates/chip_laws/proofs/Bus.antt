-- The bus stays well formed: at each edge of its lines, at a change of mode, as SCL is let go, and at a rise of VSYNCI.
-- Assumes nothing.
use mathlib.Core.Path.{◌≡◌, refl, sym, ap, ◌∙◌}
use mathlib.Core.Bool.{Bool, true, false, ◌&&◌, ◌||◌, or-false}
use Prim.Native.Nat.{ℕ, ◌+◌, ◌-◌, ◌^◌, ◌<◌, ◌≤◌}
use native.Mathlib.Nat.{pow-suc}
use native.Mathlib.Numerals.{add-one}
use native.Mathlib.Omega.{arith}
use lib.Bits.{or_lt}
use lib.Dec.{eqb, ltb}
use borrow.Author.Tests.{ltb-true, lt-ltb, eqb-true, eqb-false}
use Rattle.bits.specs.Byte.{pick, bit, with_bit}
use Rattle.bits.proofs.Mask.{num_lt}
use Rattle.bits.proofs.Bitwise.{bit_or_lem, bit_with_bit}
use Rattle.bits.proofs.Finite.{both}
use Rattle.bits.proofs.Level.{pick_by}
use Rattle.bus.specs.declared.Mode.{Mode}
use Rattle.bus.specs.declared.Mode.TheVariants.{Off, Ddc1, Ddc2b}
use Rattle.bus.specs.declared.OwnAddress.{OwnAddress}
use Rattle.bus.specs.declared.Comparison.{Comparison}
use Rattle.bus.specs.declared.Comparison.TheVariants.{None, Own}
use Rattle.bus.specs.declared.Phase.{Phase}
use Rattle.bus.specs.declared.Phase.TheVariants.{Idle, Address, Addressed, Ignoring, Receive, Transmit, Held}
use Rattle.bus.specs.declared.Shifter.{Shifter}
use Rattle.bus.specs.Bus.{mode, mode_by, changes_mode, pulls_scl}
use Rattle.bus.specs.Ddc1.{shifter, unused_shifter, shifter_at_rise}
use Rattle.bus_ddc2b.specs.Ddc2b.{compared, gathered, start_status, start_phase, stop_status, addressed, phase_at_rise, status_at_rise, acknowledges, ninth_clock, phase_at_fall, phase_at_period, phase_let_go}
use Rattle.chip.specs.declared.Bus.{Bus}
use Rattle.chip.specs.State.{bus_of, released}
use Rattle.chip_well_formed.specs.WellFormed.{gathered_fits, phase_fits, is_idle, is_unused, bus_fits}
use Rattle.chip_edges.specs.Edges.{bus_at_mode, bus_at_rise, bus_at_vsync, with_phase}
use Rattle.chip_laws.specs.Formed.{BusFormed}
use Rattle.chip_laws.proofs.Formed.{and_both, impossible}
use Rattle.chip_laws.proofs.Ranges.{with_bit_below, pick_below}

-- ---- bits gathered

-- up to eight bits, as many as counted
fits_in : (count bits : ℕ) → count < 9 → gathered_fits count bits ≡ true → bits < 2 ^ count
unfolding gathered_fits
fits_in count bits h t = ltb-true _ _ (rw (lt-ltb count 9 h) at t)

in_fits : (count bits : ℕ) → count < 9 → bits < 2 ^ count → gathered_fits count bits ≡ true
unfolding gathered_fits
in_fits count bits h k = rw (lt-ltb count 9 h) (lt-ltb _ _ k)

-- one bit more
gathered_lt : (count bits : ℕ) (sda : Bool) → bits < 2 ^ count → gathered bits sda < 2 ^ (count + 1)
unfolding gathered
gathered_lt count bits sda h = rw (add-one, pow-suc 2 count) (omega (arith, num_lt sda))

gathered_byte : (bits : ℕ) (sda : Bool) → gathered bits sda < 2 ^ 8
unfolding gathered
gathered_byte bits sda = omega (arith, num_lt sda)

gathers : (count bits : ℕ) (sda : Bool) → count < 8 → gathered_fits count bits ≡ true → gathered_fits (count + 1) (gathered bits sda) ≡ true
gathers count bits sda h t = in_fits _ _ (omega arith) (gathered_lt count bits sda (fits_in count bits (omega arith) t))

-- ---- the phase

abbrev Fits : Phase → Type 0
Fits p = phase_fits p ≡ true

addressed_fits : (k : Comparison) (byte : ℕ) → byte < 2 ^ 8 → Fits (addressed k byte)
unfolding phase_fits
addressed_fits None byte h = refl
addressed_fits (Own matched) byte h = in_fits 8 byte (omega arith) h

-- the ninth clock keeps the eight bits, whether SDA is pulled or released
ninth_fits : (m : OwnAddress) (status bits : ℕ) → gathered_fits 8 bits ≡ true → Fits (Receive m (ninth_clock status) bits)
unfolding phase_fits gathered_fits
ninth_fits m status bits t = pick_by (λ (n : ℕ). Fits (Receive m n bits)) (acknowledges status) (λ _. t) (λ _. t)

phase_at_rise_lem : (own : ℕ) (sda : Bool) (p : Phase) → Fits p → Fits (phase_at_rise own sda p)
unfolding phase_at_rise phase_fits
phase_at_rise_lem own sda Idle t = refl
phase_at_rise_lem own sda (Address count bits) t =
    pick_by Fits (ltb count 7)
    (λ e. let few = ltb-true count 7 e in and_both _ _ (lt-ltb (count + 1) 8 (omega arith)) (gathers count bits sda (omega arith) (both (ltb count 8) (gathered_fits count bits) t).1))
    (λ _. addressed_fits (compared own (gathered bits sda)) (gathered bits sda) (gathered_byte bits sda))
phase_at_rise_lem own sda (Addressed matched bits ninth) t = t
phase_at_rise_lem own sda Ignoring t = refl
phase_at_rise_lem own sda (Receive matched count bits) t =
    pick_by Fits (ltb count 8)
    (λ e. let few = ltb-true count 8 e in and_both _ _ (lt-ltb (count + 1) 11 (omega arith)) (gathers count bits sda few (both (ltb count 11) (gathered_fits count bits) t).1))
    (λ _. t)
phase_at_rise_lem own sda (Transmit matched count byte) t = pick_by Fits (eqb count 9) (λ _. refl) (λ _. t)
phase_at_rise_lem own sda (Held matched clocks) t = refl

phase_at_fall_lem : (status : ℕ) (p : Phase) → Fits p → Fits (phase_at_fall status p)
unfolding phase_at_fall phase_fits
phase_at_fall_lem status Idle t = refl
phase_at_fall_lem status (Address count bits) t = t
phase_at_fall_lem status (Addressed matched bits ninth) t = pick_by Fits ninth (λ _. refl) (λ _. t)
phase_at_fall_lem status Ignoring t = refl
phase_at_fall_lem status (Receive matched count bits) t =
    pick_by Fits (ltb 8 count)
    (λ _. refl)
    (λ _. pick_by Fits (eqb count 8) (λ e. let eight = (both (ltb count 11) (gathered_fits count bits) t).1 in ninth_fits matched status bits (rw (eqb-true count 8 e) at eight)) (λ _. t))
phase_at_fall_lem status (Transmit matched count byte) t =
    pick_by Fits (ltb count 9)
    (λ e. and_both _ _ (lt-ltb 0 (count + 1) (omega arith)) (lt-ltb (count + 1) 11 (omega (arith, ltb-true count 9 e))))
    (λ _. pick_by Fits (eqb count 10) (λ _. refl) (λ _. t))
phase_at_fall_lem status (Held matched clocks) t = refl

phase_let_go_lem : (k : Comparison) (trx : Bool) (byte : ℕ) → Fits (phase_let_go k trx byte)
unfolding phase_fits gathered_fits phase_let_go
phase_let_go_lem None trx byte = refl
phase_let_go_lem (Own matched) true byte = refl
phase_let_go_lem (Own matched) false byte = refl

-- ---- the mode

-- ENDDC stays where another bit of II STS is put
mode_kept : (status new mdcon : ℕ) → bit 3 new ≡ bit 3 status → mode new mdcon ≡ mode status mdcon
unfolding mode
mode_kept status new mdcon e = ap (λ (b : Bool). mode_by b (bit 0 mdcon)) e

start_bit : (status : ℕ) → bit 3 (start_status status) ≡ bit 3 status
unfolding bit
start_bit status = bit_or_lem 3 status 0x20 ∙ or-false (bit 3 status)

stop_bit : (status : ℕ) → bit 3 (stop_status status) ≡ bit 3 status
unfolding bit
stop_bit status = bit_or_lem 3 status 0x10 ∙ or-false (bit 3 status)

rxak_bit : (status : ℕ) (sda : Bool) → bit 3 (with_bit status 1 sda) ≡ bit 3 status
rxak_bit status sda = bit_with_bit 3 1 status sda (omega arith) (omega arith)

status_bit_lem : (sda : Bool) (p : Phase) (status : ℕ) → bit 3 (status_at_rise sda p status) ≡ bit 3 status
unfolding status_at_rise
status_bit_lem sda Idle status = refl
status_bit_lem sda (Address count bits) status = refl
status_bit_lem sda (Addressed matched bits ninth) status = refl
status_bit_lem sda Ignoring status = refl
status_bit_lem sda (Receive matched count bits) status = refl
status_bit_lem sda (Transmit matched count byte) status = pick_by (λ (n : ℕ). bit 3 n ≡ bit 3 status) (eqb count 9) (λ _. rxak_bit status sda) (λ _. refl)
status_bit_lem sda (Held matched clocks) status = refl

status_lt : (sda : Bool) (p : Phase) (status : ℕ) → status < 64 → status_at_rise sda p status < 64
unfolding status_at_rise
status_lt sda Idle status h = h
status_lt sda (Address count bits) status h = h
status_lt sda (Addressed matched bits ninth) status h = h
status_lt sda Ignoring status h = h
status_lt sda (Receive matched count bits) status h = h
status_lt sda (Transmit matched count byte) status h = pick_below (eqb count 9) _ _ 64 (with_bit_below 6 status 1 sda (omega arith) h) h
status_lt sda (Held matched clocks) status h = h

-- modes that do not differ by their number are the same
mode_same : (old new : Mode) → changes_mode old new ≡ false → old ≡ new
unfolding changes_mode
mode_same Off Off e = refl
mode_same Off Ddc1 e = absurd (impossible (sym e))
mode_same Off Ddc2b e = absurd (impossible (sym e))
mode_same Ddc1 Off e = absurd (impossible (sym e))
mode_same Ddc1 Ddc1 e = refl
mode_same Ddc1 Ddc2b e = absurd (impossible (sym e))
mode_same Ddc2b Off e = absurd (impossible (sym e))
mode_same Ddc2b Ddc1 e = absurd (impossible (sym e))
mode_same Ddc2b Ddc2b e = refl

-- lines released fit every mode
pub released_fits : (m : Mode) → bus_fits m Idle unused_shifter ≡ true
unfolding bus_fits is_idle is_unused phase_fits
released_fits Off = refl
released_fits Ddc1 = refl
released_fits Ddc2b = refl

pub released_formed : (mdcon : ℕ) (b : Bus) → b.iists < 64 → bit 0 b.iiadr ≡ true → BusFormed mdcon (released b)
unfolding released
released_formed mdcon b h k = record { iists = h; iiadr = k; fits = released_fits (mode b.iists mdcon) }

-- a bus that fits a mode, put in the mode of its II STS and this MDCON
pub mode_formed : (old : Mode) (mdcon : ℕ) (b : Bus) → b.iists < 64 → bit 0 b.iiadr ≡ true → bus_fits old b.phase b.shifter ≡ true →
    BusFormed mdcon (bus_at_mode old (mode b.iists mdcon) b)
unfolding bus_at_mode
mode_formed old mdcon b h k t =
    pick_by (BusFormed mdcon) (changes_mode old (mode b.iists mdcon))
    (λ _. released_formed mdcon b h k)
    (λ e. record { iists = h; iiadr = k; fits = rw (← (mode_same old (mode b.iists mdcon) e)) t })

-- ---- DDC2B

-- what fits DDC2B
in_ddc2b_lem : (m : Mode) (p : Phase) (s : Shifter) → m ≡ Ddc2b → bus_fits m p s ≡ true → Fits p × (is_unused s ≡ true)
unfolding bus_fits
in_ddc2b_lem m p s e t = both (phase_fits p) (is_unused s) (rw e at t)

ddc2b_in : (m : Mode) (p : Phase) (s : Shifter) → m ≡ Ddc2b → Fits p → is_unused s ≡ true → bus_fits m p s ≡ true
unfolding bus_fits
ddc2b_in m p s e t u = rw e (and_both (phase_fits p) (is_unused s) t u)

-- the bus in DDC2B with another phase and an II STS whose ENDDC is as it was
module _ (mdcon : ℕ) (b : Bus) (f : BusFormed mdcon b) (e : mode b.iists mdcon ≡ Ddc2b) where
  pub ddc2b_formed : (status byte : ℕ) (p : Phase) → status < 64 → bit 3 status ≡ bit 3 b.iists → Fits p →
      BusFormed mdcon (bus_of status b.iiadr byte p b.shifter)
  ddc2b_formed status byte p h k t =
      record {
        iists = h;
        iiadr = f.iiadr;
        fits = ddc2b_in _ _ _ (mode_kept b.iists status mdcon k ∙ e) t (in_ddc2b_lem _ _ _ e f.fits).1;
      }

  phase_fits_lem : Fits b.phase
  phase_fits_lem = (in_ddc2b_lem _ _ _ e f.fits).0

  pub rise_formed : (sda : Bool) → BusFormed mdcon (bus_at_rise sda b)
  unfolding bus_at_rise
  rise_formed sda =
      ddc2b_formed _ _ _ (status_lt sda b.phase b.iists f.iists) (status_bit_lem sda b.phase b.iists)
      (phase_at_rise_lem b.iiadr sda b.phase phase_fits_lem)

  pub fall_formed : BusFormed mdcon (with_phase b (phase_at_fall b.iists b.phase))
  fall_formed = ddc2b_formed _ _ _ f.iists refl (phase_at_fall_lem b.iists b.phase phase_fits_lem)

  pub start_formed : BusFormed mdcon (bus_of (start_status b.iists) b.iiadr b.iidat start_phase b.shifter)
  unfolding phase_fits gathered_fits
  start_formed = ddc2b_formed _ _ _ (or_lt 6 b.iists 0x20 f.iists (omega arith)) (start_bit b.iists) refl

  pub stop_formed : BusFormed mdcon (bus_of (stop_status b.iists) b.iiadr b.iidat Idle b.shifter)
  unfolding phase_fits
  stop_formed = ddc2b_formed _ _ _ (or_lt 6 b.iists 0x10 f.iists (omega arith)) (stop_bit b.iists) refl

  pub let_go_formed : (k : Comparison) (trx : Bool) (sent byte : ℕ) → BusFormed mdcon (bus_of b.iists b.iiadr byte (phase_let_go k trx sent) b.shifter)
  let_go_formed k trx sent byte = ddc2b_formed _ _ _ f.iists refl (phase_let_go_lem k trx sent)

-- an idle phase holds no line
idle_lets_go : (p : Phase) → is_idle p ≡ true → pulls_scl p ≡ false
unfolding is_idle pulls_scl
idle_lets_go Idle t = refl
idle_lets_go (Address count bits) t = refl
idle_lets_go (Addressed matched bits ninth) t = refl
idle_lets_go Ignoring t = refl
idle_lets_go (Receive matched count bits) t = refl
idle_lets_go (Transmit matched count byte) t = refl
idle_lets_go (Held matched clocks) t = absurd (impossible t)

-- so SCL is held in DDC2B alone
pub held_in_ddc2b : (m : Mode) (p : Phase) (s : Shifter) → bus_fits m p s ≡ true → pulls_scl p ≡ true → m ≡ Ddc2b
unfolding bus_fits
held_in_ddc2b Off p s t h = let low = idle_lets_go p (both _ _ t).0 in absurd (impossible (sym low ∙ h))
held_in_ddc2b Ddc1 p s t h = let low = idle_lets_go p (both _ _ t).0 in absurd (impossible (sym low ∙ h))
held_in_ddc2b Ddc2b p s t h = refl

-- ---- a clock of 8 µs: a hold of SCL lasts one clock longer, in the mode that it was in

period_idle : (p : Phase) → is_idle (phase_at_period p) ≡ is_idle p
unfolding phase_at_period is_idle
period_idle Idle = refl
period_idle (Address count bits) = refl
period_idle (Addressed matched bits ninth) = refl
period_idle Ignoring = refl
period_idle (Receive matched count bits) = refl
period_idle (Transmit matched count byte) = refl
period_idle (Held matched clocks) = refl

period_phase : (p : Phase) → phase_fits (phase_at_period p) ≡ phase_fits p
unfolding phase_at_period phase_fits
period_phase Idle = refl
period_phase (Address count bits) = refl
period_phase (Addressed matched bits ninth) = refl
period_phase Ignoring = refl
period_phase (Receive matched count bits) = refl
period_phase (Transmit matched count byte) = refl
period_phase (Held matched clocks) = refl

period_fits : (m : Mode) (p : Phase) (s : Shifter) → bus_fits m (phase_at_period p) s ≡ bus_fits m p s
unfolding bus_fits
period_fits Off p s = rw (period_idle p)
period_fits Ddc1 p s = rw (period_idle p)
period_fits Ddc2b p s = rw (period_phase p)

pub period_formed : (mdcon : ℕ) (b : Bus) → BusFormed mdcon b → BusFormed mdcon (with_phase b (phase_at_period b.phase))
period_formed mdcon b f =
    record { iists = f.iists; iiadr = f.iiadr; fits = period_fits (mode b.iists mdcon) b.phase b.shifter ∙ f.fits }

-- ---- DDC1

-- nine edges or fewer
edges_by : (fewer nine full : Bool) (n : ℕ) → ltb n 9 ≡ fewer → eqb n 9 ≡ nine → (fewer || (nine && full)) ≡ true → n ≤ 9
edges_by true nine full n p q t = omega (arith, ltb-true n 9 p)
edges_by false true full n p q t = omega (arith, eqb-true n 9 q)
edges_by false false full n p q t = absurd (impossible t)

edges_left : (s : Shifter) → (ltb s.edges 9 || is_unused s) ≡ true → s.edges ≤ 9
unfolding is_unused
edges_left s t = edges_by (ltb s.edges 9) (eqb s.edges 9) (eqb s.register 255) s.edges refl refl t

shifter_fits : (byte : ℕ) (s : Shifter) → s.edges ≤ 9 → (ltb (shifter_at_rise byte s).edges 9 || is_unused (shifter_at_rise byte s)) ≡ true
unfolding shifter_at_rise
shifter_fits byte s h =
    pick_by (λ (r : Shifter). (ltb r.edges 9 || is_unused r) ≡ true) (eqb s.edges 0)
    (λ _. refl)
    (λ e. let n = eqb-false s.edges 0 e in rw (lt-ltb (s.edges - 1) 9 (omega arith)))

-- a rise of VSYNCI in the mode that the bus fits
vsync_fits : (m : Mode) (b : Bus) → bus_fits m b.phase b.shifter ≡ true → bus_fits m (bus_at_vsync m b).phase (bus_at_vsync m b).shifter ≡ true
unfolding bus_at_vsync bus_fits
vsync_fits Off b t = t
vsync_fits Ddc1 b t =
    let two = both (is_idle b.phase) (ltb b.shifter.edges 9 || is_unused b.shifter) t in
    and_both (is_idle b.phase) _ two.0 (shifter_fits b.iidat b.shifter (edges_left b.shifter two.1))
vsync_fits Ddc2b b t = t

-- II STS and II ADR stay
vsync_status : (m : Mode) (b : Bus) → ((bus_at_vsync m b).iists ≡ b.iists) × ((bus_at_vsync m b).iiadr ≡ b.iiadr)
unfolding bus_at_vsync
vsync_status Off b = (refl, refl)
vsync_status Ddc1 b = (refl, refl)
vsync_status Ddc2b b = (refl, refl)

pub vsync_formed : (mdcon : ℕ) (b : Bus) → BusFormed mdcon b → BusFormed mdcon (bus_at_vsync (mode b.iists mdcon) b)
vsync_formed mdcon b f =
    let same = vsync_status (mode b.iists mdcon) b in
    record {
      iists = rw same.0 f.iists;
      iiadr = rw same.1 f.iiadr;
      fits = rw same.0 (vsync_fits (mode b.iists mdcon) b f.fits);
    }
