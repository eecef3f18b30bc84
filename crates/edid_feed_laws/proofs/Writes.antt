-- Register writes at a chip that is fed.
-- Assumes nothing.
use Prim.Native.Nat.{ℕ, ◌<◌}
use mathlib.Core.Path.{◌≡◌, refl, ◌∙◌}
use mathlib.Core.List.{List, [], ◌∷◌}
use mathlib.Core.Bool.{Bool, true, false, not, ◌&&◌, beq, true≢false}
use borrow.Author.Tests.{not-true}
use Rattle.bits.specs.Byte.{pick, bit}
use Rattle.bits.proofs.Finite.{neither}
use Rattle.registers.specs.Names.{MDCON, HVCON, IIDAT, IISTS, BT}
use Rattle.registers.specs.Table.{updated}
use Rattle.bus.specs.declared.Phase.TheVariants.{Idle}
use Rattle.bus.specs.Bus.{changes_mode, pulls_scl}
use Rattle.chip.specs.declared.Core.{Core}
use Rattle.chip.specs.State.{bus_of, released, with_sync, with_bus, with_mdcon, with_polarity, with_bt}
use Rattle.chip_edges.specs.Edges.{bus_at_mode}
use Rattle.chip_ddc_writes.specs.DdcWrites.{sync_at_hsel, mdcon_written, iiadr_written, status_written, iists_written, bus_at_iidat, iidat_written}
use Rattle.chip_writes.specs.declared.Target.{Target}
use Rattle.chip_writes.proofs.Addresses.{Addressed, at_mdcon, at_hvcon, at_clrflg, at_clrwdt, at_iiadr, at_iidat, at_iists, at_bt, at_plain, addressed}
use Rattle.chip_writes.specs.Writes.{clrflg_written, clrwdt_written, written_to, written}
use Rattle.edid_feed_laws.specs.Observer.{iists_of, mdcon_of, observe_accepted, forbidden_write}
use Rattle.edid_feed_laws.specs.Levels.{byte_taken}
use Rattle.chip_ddc_writes.proofs.Modes.{md_written, enddc_written}
use Rattle.edid_feed_laws.proofs.Bits.{data_written}
use Rattle.edid_feed_laws.proofs.Tracks.{iiadr_of, shifter_of, sync_of, polarity_of, bt_of, frame, seen, ModeBits, ModeOf, Stage, turned_off_lem, awaiting, sending, Pending, nothing, waiting, tracks, in_ddc2b_lem, Moved, kept, brings, off_mode, ddc1_mode}

-- ---- writes

same_bit : (x : Bool) → not (beq x true) ≡ false → x ≡ true
same_bit true h = refl
same_bit false h = absurd (true≢false h)

-- MDCON: MD1/2 changes only while DDC is off
mdcon_on : (g : Core) (s : Bool) {loaded written : Bool} {y r n : ℕ} {p : List Bool} {d : List ℕ} → ModeOf g false true → Stage false true loaded n r p → Pending written y d
    → (b : ℕ) → bit 0 b ≡ true → Moved (mdcon_written (frame g true s y r n) b) (observe_accepted (seen g true s false true n loaded written) MDCON b) [] [] p d
unfolding mdcon_written bus_at_mode changes_mode
mdcon_on g s k t w b e =
    let new : ℕ = updated MDCON (mdcon_of g) b in
    let next : ModeBits (iists_of g) new false true = record { enddc = k.enddc; md12 = md_written (mdcon_of g) b ∙ e } in
    rw (ddc1_mode k, ddc1_mode next, e) (kept (tracks (with_sync (with_mdcon g new) (sync_at_hsel (bit 2 (mdcon_of g)) (bit 2 new) (sync_of g))) true s next t w))

mdcon_moved : (g : Core) (s : Bool) {a m loaded written : Bool} {y r n : ℕ} {p : List Bool} {d : List ℕ} → ModeOf g a m → Stage a m loaded n r p → Pending written y d
    → (b : ℕ) → forbidden_write (seen g true s a m n loaded written) MDCON b ≡ false
    → Moved (mdcon_written (frame g true s y r n) b) (observe_accepted (seen g true s a m n loaded written) MDCON b) [] [] p d
unfolding mdcon_written bus_at_mode changes_mode
mdcon_moved g s k (turned_off_lem md n r) w b h =
    let new : ℕ = updated MDCON (mdcon_of g) b in
    let next : ModeBits (iists_of g) new true (bit 0 b) = record { enddc = k.enddc; md12 = md_written (mdcon_of g) b } in
    rw (off_mode k, off_mode next) (kept (tracks (with_sync (with_mdcon g new) (sync_at_hsel (bit 2 (mdcon_of g)) (bit 2 new) (sync_of g))) true s next (turned_off_lem (bit 0 b) n r) w))
mdcon_moved g s k (awaiting n r) w b h = mdcon_on g s k (awaiting n r) w b (same_bit (bit 0 b) (neither (not (beq (bit 0 b) true)) false h).0)
mdcon_moved g s k (sending r p e) w b h = mdcon_on g s k (sending r p e) w b (same_bit (bit 0 b) (neither (not (beq (bit 0 b) true)) false h).0)

-- II STS: DDC is turned on, or stays as it is
iists_on : (g : Core) (s : Bool) {loaded written : Bool} {y r n : ℕ} {p : List Bool} {d : List ℕ} → ModeOf g false true → Stage false true loaded n r p → Pending written y d
    → (b : ℕ) → bit 3 b ≡ false → Moved (iists_written (frame g true s y r n) b) (observe_accepted (seen g true s false true n loaded written) IISTS b) [] [] p d
unfolding iists_written bus_at_mode changes_mode
iists_on g s k t w b e =
    let new : ℕ = status_written (iists_of g) b in
    let next : ModeBits new (mdcon_of g) false true = record { enddc = enddc_written (iists_of g) b ∙ e; md12 = k.md12 } in
    rw (ddc1_mode k, ddc1_mode next, e) (kept (tracks (with_bus g (bus_of new (iiadr_of g) 0 Idle (shifter_of g))) true s next t w))

iists_off : (g : Core) (s m : Bool) {written : Bool} {y : ℕ} (r n : ℕ) {d : List ℕ} → ModeOf g true m → Pending written y d
    → (b : ℕ) (stays : Bool) → bit 3 b ≡ stays
    → Moved (iists_written (frame g true s y r n) b) (observe_accepted (seen g true s true m n false written) IISTS b) [] [] [] d
unfolding iists_written bus_at_mode changes_mode released
iists_off g s m r n k w b true e =
    let new : ℕ = status_written (iists_of g) b in
    let next : ModeBits new (mdcon_of g) true m = record { enddc = enddc_written (iists_of g) b ∙ e; md12 = k.md12 } in
    rw (off_mode k, off_mode next, e) (kept (tracks (with_bus g (bus_of new (iiadr_of g) 0 Idle (shifter_of g))) true s next (turned_off_lem m n r) w))
iists_off g s true r n k w b false e =
    let new : ℕ = status_written (iists_of g) b in
    let next : ModeBits new (mdcon_of g) false true = record { enddc = enddc_written (iists_of g) b ∙ e; md12 = k.md12 } in
    rw (off_mode k, ddc1_mode next, e) (kept (tracks (with_bus g (bus_of new (iiadr_of g) 0 Idle (shifter_of g))) true s next (awaiting 9 255) w))
iists_off g s false r n k w b false e = rw e (kept (in_ddc2b_lem _ _ _ _ _ _ _ _ _ _))

iists_moved : (g : Core) (s : Bool) {a m loaded written : Bool} {y r n : ℕ} {p : List Bool} {d : List ℕ} → ModeOf g a m → Stage a m loaded n r p → Pending written y d
    → (b : ℕ) → forbidden_write (seen g true s a m n loaded written) IISTS b ≡ false
    → Moved (iists_written (frame g true s y r n) b) (observe_accepted (seen g true s a m n loaded written) IISTS b) [] [] p d
iists_moved g s k (turned_off_lem md n r) w b h = iists_off g s md r n k w b (bit 3 b) refl
iists_moved g s k (awaiting n r) w b h = iists_on g s k (awaiting n r) w b (neither (bit 3 b) false h).0
iists_moved g s k (sending r p e) w b h = iists_on g s k (sending r p e) w b (neither (bit 3 b) false h).0

-- II DAT: a byte, with none before it that still awaits its load
iidat_moved : (g : Core) (s : Bool) {a m loaded written : Bool} {y r n : ℕ} {p : List Bool} {d : List ℕ} → ModeOf g a m → Stage a m loaded n r p → Pending written y d
    → (b : ℕ) → b < 256 → forbidden_write (seen g true s a m n loaded written) IIDAT b ≡ false
    → Moved (iidat_written (frame g true s y r n) b) (observe_accepted (seen g true s a m n loaded written) IIDAT b) [] (b ∷ []) p d
unfolding iidat_written bus_at_iidat pulls_scl
iidat_moved g s k t (nothing y) b u h = rw (data_written y b u) (brings b (tracks g true s k t (waiting b)))
iidat_moved g s k t (waiting c) b u h = absurd (true≢false h)

written_moved : (g : Core) (s : Bool) {a m loaded written : Bool} {y r n : ℕ} {p : List Bool} {d : List ℕ} → ModeOf g a m → Stage a m loaded n r p → Pending written y d
    → {to : Target} {x : ℕ} → Addressed to x → (b : ℕ) → b < 256 → forbidden_write (seen g true s a m n loaded written) x b ≡ false
    → Moved (written_to to (frame g true s y r n) b) (observe_accepted (seen g true s a m n loaded written) x b) [] (byte_taken x b) p d
unfolding written_to clrflg_written clrwdt_written iiadr_written
written_moved g s k t w at_mdcon b u h = mdcon_moved g s k t w b h
written_moved g s k t w at_hvcon b u h = kept (tracks (with_polarity g (updated HVCON (polarity_of g) b)) true s k t w)
written_moved g s k t w at_clrflg b u h = kept (tracks (clrflg_written g b) true s k t w)
written_moved g s k t w at_clrwdt b u h = kept (tracks (clrwdt_written g b) true s k t w)
written_moved g s k t w at_iiadr b u h = kept (tracks (iiadr_written g b) true s k t w)
written_moved g s k t w at_iidat b u h = iidat_moved g s k t w b u h
written_moved g s k t w at_iists b u h = iists_moved g s k t w b h
written_moved g s k t w at_bt b u h = kept (tracks (with_bt g (updated BT (bt_of g) b)) true s k t w)
written_moved g s k t w {x = x} (at_plain p) b u h = rw (p.iists, p.mdcon, p.clrwdt, p.iidat) (kept (tracks g true s k t w))

-- RESET high, and whether the register takes a write
pub write_by : (g : Core) (z v s : Bool) {a m loaded fresh : Bool} {y r n : ℕ} {p : List Bool} {d : List ℕ} → ModeOf g a m → Stage a m loaded n r p → Pending fresh y d
    → (x b : ℕ) → b < 256 → not ((z && v) && forbidden_write (seen g z s a m n loaded fresh) x b) ≡ true
    → Moved (pick z (pick v (written (frame g z s y r n) x b) (frame g z s y r n)) (frame g z s y r n))
    (pick (z && v) (observe_accepted (seen g z s a m n loaded fresh) x b) (seen g z s a m n loaded fresh)) [] (pick (z && v) (byte_taken x b) []) p d
unfolding written
write_by g false v s k t w x b u h = kept (tracks g false s k t w)
write_by g true false s k t w x b u h = kept (tracks g true s k t w)
write_by g true true s k t w x b u h = written_moved g s k t w (addressed x) b u (not-true _ h)
