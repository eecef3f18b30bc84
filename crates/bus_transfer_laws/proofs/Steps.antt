-- What each word of a transfer does to a chip in DDC2B with RESET high: a level put on SDA while SCL is low, a rise and a fall of SCL, the write that lets SCL go.
-- Assumes nothing.
use mathlib.Core.Path.{◌≡◌, refl, sym, ◌∙◌}
use mathlib.Core.Bool.{Bool, true, false, true≢false}
use mathlib.Core.List.{List, ◌∷◌}
use Prim.Native.Nat.{ℕ}
use Rattle.bits.specs.Byte.{bit}
use Rattle.registers.specs.Names.{IIDAT, TRX}
use Rattle.registers.specs.Table.{row_of, is_writable, updated}
use Rattle.std.specs.Prelude.{Ok}
use Rattle.events.specs.Pins.{SDA, SCL}
use Rattle.events.specs.Decoded.{Decoded}
use Rattle.events.specs.declared.Event.TheVariants.{Write, Pin}
use Rattle.events.specs.Word.{encode, InRange}
use Rattle.events.proofs.EventWord.{decode_encode}
use Rattle.bus.specs.declared.Mode.TheVariants.{Ddc2b}
use Rattle.bus.specs.declared.OwnAddress.{OwnAddress}
use Rattle.bus.specs.declared.Comparison.TheVariants.{Own}
use Rattle.bus.specs.declared.Phase.{Phase}
use Rattle.bus.specs.declared.Phase.TheVariants.{Idle, Address, Addressed, Ignoring, Receive, Transmit, Held}
use Rattle.bus.specs.Bus.{line, edge, mode, mode_by, pulls_sda, pulls_scl, sda_pulled, scl_pulled, compared_in}
use Rattle.bus_ddc2b.specs.Ddc2b.{phase_at_rise, data_at_rise, status_at_rise, phase_at_fall, phase_let_go}
use Rattle.chip.specs.declared.Core.{Core}
use Rattle.chip.specs.declared.Chip.{Chip}
use Rattle.chip_edges.specs.Edges.{bus_at_rise, scl_rise, scl_fall, on_scl, on_scl_ddc2b, scl_moved, on_sda, on_sda_ddc2b, sda_moved}
use Rattle.chip_ddc_writes.specs.DdcWrites.{bus_risen, bus_at_iidat, iidat_written}
use Rattle.chip_writes.specs.Writes.{target, written_to, written, write_register}
use Rattle.chip_pins.specs.Pins.{pin_kind, pin_moved_as, pin_moved}
use Rattle.chip_events.specs.Outcome.{core_after, next}
use Rattle.step.specs.Step.{advance}
use Rattle.list_call.specs.Run.{advanced}
use Rattle.bus_transfer_laws.specs.Transfers.{Holding}
use Rattle.bus_transfer_laws.proofs.Status.{status_shown}

-- a run of one event's word before others
pub given : (c : Chip) (e : Decoded) (ws : List ℕ) → InRange e → advanced c (encode e ∷ ws) ≡ advanced (next c e) ws
unfolding advance
given c e ws h = rw (decode_encode e h)

-- DDC2B with RESET high, in a phase that does not hold SCL; II STS, II DAT and the outside levels of SCL and SDA
pub record At (p : Phase) (status byte : ℕ) (clock level : Bool) (c : Core) : Type 0 where
  pub reset : c.reset ≡ true
  pub enddc : bit 3 status ≡ false
  pub md : bit 0 c.mdcon ≡ false
  pub phase : c.bus.phase ≡ p
  pub iists : c.bus.iists ≡ status
  pub iidat : c.bus.iidat ≡ byte
  pub scl : c.scl ≡ clock
  pub sda : c.sda ≡ level

-- the core with these parts put, all else of g
abbrev put : Core → ℕ → Phase → ℕ → ℕ → Bool → Bool → Core
put g irqx p status byte scl sda =
    record {
      irqx = irqx;
      mdcon = g.mdcon;
      polarity = g.polarity;
      bt = g.bt;
      watchdog = g.watchdog;
      sync = g.sync;
      bus = record { iists = status; iiadr = g.bus.iiadr; iidat = byte; phase = p; shifter = g.bus.shifter };
      pins = g.pins;
      sda = sda;
      scl = scl;
      reset = true;
    }

at_put : {p : Phase} {status byte irqx : ℕ} {scl sda : Bool} (g : Core) → bit 3 status ≡ false → bit 0 g.mdcon ≡ false → At p status byte scl sda (put g irqx p status byte scl sda)
at_put g e m = record { reset = refl; enddc = e; md = m; phase = refl; iists = refl; iidat = refl; scl = refl; sda = refl }

-- a core as its parts
as_put : {p : Phase} {status byte : ℕ} {scl sda : Bool} {c : Core} → At p status byte scl sda c → c ≡ put c c.irqx p status byte scl sda
as_put {c = c} a =
    λ k. record {
      irqx = c.irqx;
      mdcon = c.mdcon;
      polarity = c.polarity;
      bt = c.bt;
      watchdog = c.watchdog;
      sync = c.sync;
      bus = record { iists = a.iists k; iiadr = c.bus.iiadr; iidat = a.iidat k; phase = a.phase k; shifter = c.bus.shifter };
      pins = c.pins;
      sda = a.sda k;
      scl = a.scl k;
      reset = a.reset k;
    }

module _ (g : Core) (irqx : ℕ) (p : Phase) (status byte : ℕ) (sda : Bool) (e : bit 3 status ≡ false) (m : bit 0 g.mdcon ≡ false) (free : pulls_scl p ≡ false) where
  sda_put_lem : (level : Bool) → At p status byte false level (sda_moved (put g irqx p status byte false sda) level)
  unfolding sda_moved on_sda on_sda_ddc2b mode scl_pulled sda_pulled
  sda_put_lem level = rw (e, m, free) (by_edge (line (pulls_sda p) sda) (line (pulls_sda p) level))
    where
      by_edge : (x y : Bool) → At p status byte false level (on_sda_ddc2b false (edge x y) (put g irqx p status byte false level))
      by_edge true true = at_put g e m
      by_edge true false = at_put g e m
      by_edge false true = at_put g e m
      by_edge false false = at_put g e m

  scl_rises_lem : bit 3 (status_at_rise (line (pulls_sda p) sda) p status) ≡ false →
      At (phase_at_rise g.bus.iiadr (line (pulls_sda p) sda) p) (status_at_rise (line (pulls_sda p) sda) p status) (data_at_rise (line (pulls_sda p) sda) p byte) true sda (scl_moved (put g irqx p status byte false sda) true)
  unfolding scl_moved on_scl on_scl_ddc2b mode scl_pulled scl_rise bus_at_rise
  scl_rises_lem f = rw (e, m, free) (at_put g f m)

  scl_falls_lem : At (phase_at_fall status p) status byte false sda (scl_moved (put g irqx p status byte true sda) false)
  unfolding scl_moved on_scl on_scl_ddc2b mode scl_pulled scl_fall
  scl_falls_lem = rw (e, m, free) (at_put g e m)

-- ---- the words of a transfer

module _ {p : Phase} {status byte : ℕ} {sda : Bool} (c : Chip) (free : pulls_scl p ≡ false) where
  pub after_sda : (level : Bool) → At p status byte false sda c.core → At p status byte false level (next c (Ok (Pin SDA level))).core
  unfolding next core_after pin_moved pin_moved_as pin_kind
  after_sda level a = rw (as_put a) (sda_put_lem c.core c.core.irqx p status byte sda a.enddc a.md free level)

  pub after_rise : At p status byte false sda c.core → bit 3 (status_at_rise (line (pulls_sda p) sda) p status) ≡ false →
      At (phase_at_rise c.core.bus.iiadr (line (pulls_sda p) sda) p) (status_at_rise (line (pulls_sda p) sda) p status) (data_at_rise (line (pulls_sda p) sda) p byte) true sda (next c (Ok (Pin SCL true))).core
  unfolding next core_after pin_moved pin_moved_as pin_kind
  after_rise a f = rw (as_put a) (scl_rises_lem c.core c.core.irqx p status byte sda a.enddc a.md free f)

  pub after_fall : At p status byte true sda c.core → At (phase_at_fall status p) status byte false sda (next c (Ok (Pin SCL false))).core
  unfolding next core_after pin_moved pin_moved_as pin_kind
  after_fall a = rw (as_put a) (scl_falls_lem c.core c.core.irqx p status byte sda a.enddc a.md free)

-- ---- letting SCL go

mode_bits : (enddc md : Bool) → mode_by enddc md ≡ Ddc2b → (enddc ≡ false) × (md ≡ false)
mode_bits true md h = (cc, cc)
mode_bits false true h = (cc, cc)
mode_bits false false h = (refl, refl)

-- a hold is one of a transfer with the chip
pub held_own : (p : Phase) → pulls_scl p ≡ true → (m : OwnAddress) × (compared_in p ≡ Own m)
unfolding pulls_scl compared_in
held_own Idle h = absurd (true≢false (sym h))
held_own (Address count bits) h = absurd (true≢false (sym h))
held_own (Addressed matched bits ninth) h = absurd (true≢false (sym h))
held_own Ignoring h = absurd (true≢false (sym h))
held_own (Receive matched count bits) h = absurd (true≢false (sym h))
held_own (Transmit matched count byte) h = absurd (true≢false (sym h))
held_own (Held matched clocks) h = (matched, refl)

-- the byte that begins then
abbrev pub begun : OwnAddress → Bool → ℕ → Phase
begun m true byte = Transmit m 1 byte
begun m false byte = Receive m 0 0

begun_is : (m : OwnAddress) (trx : Bool) (byte : ℕ) → phase_let_go (Own m) trx byte ≡ begun m trx byte
unfolding phase_let_go
begun_is m true byte = refl
begun_is m false byte = refl

-- the address that the chip was called by
abbrev pub called_by : {trx : Bool} (c : Chip) → Holding trx c → OwnAddress
called_by c h = (held_own c.core.bus.phase h.held).0

module _ (c : Chip) {trx : Bool} (h : Holding trx c) (byte : ℕ) where
  let_go_by : (m : OwnAddress) → compared_in c.core.bus.phase ≡ Own m → At (begun m trx byte) c.core.bus.iists (updated IIDAT c.core.bus.iidat byte) false c.core.sda (next c (Ok (Write IIDAT byte))).core
  unfolding next core_after write_register written target written_to iidat_written bus_at_iidat bus_risen is_writable row_of mode bit
  let_go_by m called =
      let bits = mode_bits (bit 3 c.core.bus.iists) (bit 0 c.core.mdcon) h.ddc2b in
      let direction : bit TRX c.core.bus.iists ≡ trx = sym (status_shown c TRX h.reset refl) ∙ h.direction in
      rw (h.reset, h.held, h.low, direction, called, begun_is m trx byte) (record { reset = refl; enddc = bits.0; md = bits.1; phase = refl; iists = refl; iidat = refl; scl = refl; sda = refl })

  pub let_go : At (begun (called_by c h) trx byte) c.core.bus.iists (updated IIDAT c.core.bus.iidat byte) false c.core.sda (next c (Ok (Write IIDAT byte))).core
  let_go = let_go_by (called_by c h) (held_own c.core.bus.phase h.held).1
