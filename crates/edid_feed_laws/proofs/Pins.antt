-- Pins at a chip that is fed.
-- Assumes nothing.
use Prim.Native.Nat.{ℕ, zero, suc, ◌-◌}
use mathlib.Core.Path.{◌≡◌, refl, sym, ◌∙◌}
use mathlib.Core.List.{List, [], ◌∷◌, ◌++◌}
use mathlib.Core.Bool.{Bool, true, false, not, ◌&&◌, ◌||◌, true≢false}
use native.Mathlib.Omega.{arith}
use lib.ListN.{length}
use lib.Dec.{eqb}
use lib.Bits.{bit_or}
use borrow.Author.Tests.{ne_eqb}
use Rattle.bits.specs.Byte.{pick, bit, weight, weight_if}
use Rattle.registers.specs.Names.{INTV, INTD}
use Rattle.std.specs.Prelude.{Ok}
use Rattle.events.specs.Decoded.{Decoded}
use Rattle.events.specs.declared.Event.TheVariants.{Pin}
use Rattle.bus.specs.declared.Mode.{Mode}
use Rattle.bus.specs.declared.Phase.{Phase}
use Rattle.bus.specs.declared.Phase.TheVariants.{Idle}
use Rattle.bus.specs.Bus.{edge, mode, sda_pulled, scl_pulled}
use Rattle.bus.specs.Ddc1.{shifter, shifter_at_rise, loads_at_rise}
use Rattle.chip.specs.declared.Core.{Core}
use Rattle.chip.specs.State.{hsel_of, raised, with_sync, with_reset, with_sda}
use Rattle.sync.specs.Sync.{on_vsync}
use Rattle.chip_edges.specs.Edges.{on_scl, on_scl_ddc1, scl_moved, on_sda, sda_moved, bus_at_vsync, loads_at_vsync}
use Rattle.chip_pins.specs.declared.PinKind.{PinKind}
use Rattle.chip_pins.specs.Pins.{port0_moved, port1_moved, port2_moved, p16_moved, vsync_level, hsync_moved, vsync_rise, vsync_moved, on_reset, reset_moved, pin_moved_as}
use Rattle.chip_pins.specs.Numbers.{Unnamed, Numbered, p16_pin, sda_pin, scl_pin, hsynci_pin, vsynci_pin, reset_pin, port0_pin, port1_pin, port2_pin, no_pin}
use Rattle.edid_feed_laws.specs.Observer.{Observer, vsynci_of, watchdog_of, observe, permitted}
use Rattle.edid_feed_laws.specs.Levels.{byte_written, shows, sda_put, level, low_bits}
use Rattle.edid_feed_laws.proofs.Bits.{shifted, holds_shifted, top_shifted, holds_loaded}
use Rattle.edid_feed_laws.proofs.Tracks.{sync_of, frame, observer, seen, ModeBits, ModeOf, Stage, turned_off_lem, awaiting, sending, Pending, nothing, waiting, Tracks, tracks, Moved, kept, loads, shifts, off_mode, ddc1_mode, OffOrDdc1, is_off, is_ddc1, off_or_ddc1}

-- ---- SCL and SDA

-- SCL does not fall, so nothing moves but its level
scl_unmoved : {m : Mode} → OffOrDdc1 m → (s l : Bool) → (s && not l) ≡ false → (c : Core) → on_scl m (edge s l) c ≡ c
unfolding on_scl on_scl_ddc1
scl_unmoved is_off s l h c = refl
scl_unmoved is_ddc1 true true h c = refl
scl_unmoved is_ddc1 true false h c = absurd (true≢false h)
scl_unmoved is_ddc1 false true h c = refl
scl_unmoved is_ddc1 false false h c = refl

scl_free_lem : {m : Mode} → OffOrDdc1 m → (q : Phase) → scl_pulled m q ≡ false
unfolding scl_pulled
scl_free_lem is_off q = refl
scl_free_lem is_ddc1 q = refl

sda_unmoved : {m : Mode} → OffOrDdc1 m → (high : Bool) → (c : Core) (e : Bool) (x : Bool) → on_sda m high (edge e x) c ≡ c
unfolding on_sda
sda_unmoved is_off high c e x = refl
sda_unmoved is_ddc1 high c e x = refl

module _ (g : Core) {a b loaded written : Bool} {y r n : ℕ} {p : List Bool} {d : List ℕ} (k : ModeOf g a b) (t : Stage a b loaded n r p) (w : Pending written y d) where
  scl_to : (s l : Bool) → (s && not l) ≡ false → Moved (scl_moved (frame g true s y r n) l) (seen g true l a b n loaded written) [] [] p d
  unfolding scl_moved scl_pulled on_scl
  scl_to s l h = rw (scl_free_lem (off_or_ddc1 k t) Idle, scl_unmoved (off_or_ddc1 k t) s l h) (kept (tracks g true l k t w))

  scl_moved_lem : (z s l : Bool) → permitted (seen g z s a b n loaded written) (Ok (Pin 25 l)) ≡ true
      → Moved (scl_moved (frame g z s y r n) l) (observe (seen g z s a b n loaded written) (Ok (Pin 25 l))) [] [] p d
  unfolding scl_moved on_scl observe permitted
  scl_moved_lem false s l h = kept (tracks g false l k t w)
  scl_moved_lem true true true h = scl_to true true refl
  scl_moved_lem true true false h = absurd (true≢false (sym h))
  scl_moved_lem true false l h = scl_to false l refl

  sda_moved_lem : (z s l : Bool) → Moved (sda_moved (frame g z s y r n) l) (seen g z s a b n loaded written) [] [] p d
  unfolding sda_moved on_sda
  sda_moved_lem false s l = kept (tracks (with_sda g l) false s k t w)
  sda_moved_lem true s l = rw (sda_unmoved (off_or_ddc1 k t)) (kept (tracks (with_sda g l) true s k t w))

  reset_moved_lem : (z s l : Bool) → permitted (seen g z s a b n loaded written) (Ok (Pin 28 l)) ≡ true
      → Moved (reset_moved (frame g z s y r n) l) (observe (seen g z s a b n loaded written) (Ok (Pin 28 l))) [] [] p d
  unfolding reset_moved on_reset observe permitted
  reset_moved_lem true s true h = kept (tracks g true s k t w)
  reset_moved_lem true s false h = absurd (true≢false (sym h))
  reset_moved_lem false s true h = kept (tracks g true s k t w)
  reset_moved_lem false s false h = kept (tracks g false s k t w)

-- ---- VSYNCI

-- all but the bus at a rise, flag D set where it loads
abbrev risen : Core → Bool → Bool → Core
risen g load l = with_sync (raised (vsync_level g l) (bit_or (weight INTV) (weight_if load INTD))) (on_vsync (hsel_of g) (sync_of g))

one_less : (n : ℕ) → eqb (suc n) 0 ≡ false
one_less n = ne_eqb (suc n) 0 (omega arith)

suc_less : (n : ℕ) → suc n - 1 ≡ n
suc_less n = omega arith

not_not : (x : Bool) → not (not x) ≡ x
not_not true = refl
not_not false = refl

level_put : {iists mdcon : ℕ} → ModeBits iists mdcon false true → (r n : ℕ) → not (sda_pulled (mode iists mdcon) Idle (shifter r n)) ≡ bit 7 r
unfolding sda_pulled
level_put k r n = rw (ddc1_mode k) (not_not (bit 7 r))

-- VSYNCI to the level l from v, with RESET high
abbrev vsync_to : Core → Bool → ℕ → ℕ → ℕ → Bool → Bool → Core
vsync_to g s y r n v l = pick (not v && l) (vsync_rise (vsync_level (frame g true s y r n) l)) (vsync_level (frame g true s y r n) l)

-- what the observer says of it
abbrev Followed : Core → Observer → Bool → List Bool → List ℕ → Type 0
Followed c o l p d = Moved c (observe o (Ok (Pin 27 l))) (pick (shows o (Ok (Pin 27 l))) (level (eqb o.left 0) (sda_put c) ∷ []) []) [] p d

rise_moved : (g : Core) (s : Bool) {a b loaded written : Bool} {y r n : ℕ} {p : List Bool} {d : List ℕ} → ModeOf g a b → Stage a b loaded n r p → Pending written y d
    → permitted (observer true s false a b n (watchdog_of g) loaded written) (Ok (Pin 27 true)) ≡ true
    → Followed (vsync_to g s y r n false true) (observer true s false a b n (watchdog_of g) loaded written) true p d
unfolding vsync_rise bus_at_vsync loads_at_vsync loads_at_rise shifter_at_rise sda_pulled observe permitted
rise_moved g s k (turned_off_lem md n r) w h = rw (off_mode k) (kept (tracks (risen g false true) true s k (turned_off_lem md n r) w))
rise_moved g s k (awaiting zero r) (nothing y) h = absurd (true≢false (sym h))
rise_moved g s k (awaiting zero r) (waiting b) h =
    rw (ddc1_mode k) (loads _ b (level_put k b 8) (tracks (risen g true true) true s k (sending b (low_bits b ++ (true ∷ [])) (holds_loaded b)) (nothing b)))
rise_moved g s k (awaiting (suc n) r) w h = rw (ddc1_mode k, one_less n, suc_less n) (kept (tracks (risen g false true) true s k (awaiting n (shifted r)) w))
rise_moved g s k (sending r [] e) (nothing y) h = absurd (true≢false (sym h))
rise_moved g s k (sending r [] e) (waiting b) h =
    rw (ddc1_mode k) (loads _ b (level_put k b 8) (tracks (risen g true true) true s k (sending b (low_bits b ++ (true ∷ [])) (holds_loaded b)) (nothing b)))
rise_moved g s k (sending r (x ∷ p) e) w h =
    rw (ddc1_mode k, one_less (length p), suc_less (length p))
    (shifts _ x (level_put k (shifted r) (length p) ∙ top_shifted r x p e) (tracks (risen g false true) true s k (sending (shifted r) p (holds_shifted r x p e)) w))

-- a rise, or none
vsync_by : (g : Core) (s v l : Bool) {a b loaded written : Bool} {y r n : ℕ} {p : List Bool} {d : List ℕ} → ModeOf g a b → Stage a b loaded n r p → Pending written y d
    → permitted (observer true s v a b n (watchdog_of g) loaded written) (Ok (Pin 27 l)) ≡ true
    → Followed (vsync_to g s y r n v l) (observer true s v a b n (watchdog_of g) loaded written) l p d
unfolding observe
vsync_by g s false true k t w h = rise_moved g s k t w h
vsync_by g s false false k t w h = kept (tracks (vsync_level g false) true s k t w)
vsync_by g s true l k t w h = kept (tracks (vsync_level g l) true s k t w)

vsync_moved_lem : (g : Core) (z s l : Bool) {a b loaded written : Bool} {y r n : ℕ} {p : List Bool} {d : List ℕ} → ModeOf g a b → Stage a b loaded n r p → Pending written y d
    → permitted (seen g z s a b n loaded written) (Ok (Pin 27 l)) ≡ true
    → Followed (vsync_moved (frame g z s y r n) l) (seen g z s a b n loaded written) l p d
unfolding vsync_moved observe
vsync_moved_lem g false s l k t w h = kept (tracks (vsync_level g l) false s k t w)
vsync_moved_lem g true s l k t w h = vsync_by g s (vsynci_of g) l k t w h

-- ---- all pins

abbrev pub After : Core → Observer → Decoded → List Bool → List ℕ → Type 0
After c o e p d = Moved c (observe o e) (pick (shows o e) (level (eqb o.left 0) (sda_put c) ∷ []) []) (byte_written o e) p d

unnamed : {c : Core} {o : Observer} {q : ℕ} (l : Bool) {p : List Bool} {d : List ℕ} → Unnamed q → Tracks c o p d → After c o (Ok (Pin q l)) p d
unfolding observe
unnamed l u f = rw (u.scl, u.vsynci, u.reset) (kept f)

pub kind_moved : (g : Core) (z s : Bool) {a b loaded written : Bool} {y r n : ℕ} {p : List Bool} {d : List ℕ} → ModeOf g a b → Stage a b loaded n r p → Pending written y d
    → {kind : PinKind} {q : ℕ} → Numbered kind q → (l : Bool)
    → permitted (seen g z s a b n loaded written) (Ok (Pin q l)) ≡ true
    → After (pin_moved_as kind (frame g z s y r n) q l) (seen g z s a b n loaded written) (Ok (Pin q l)) p d
unfolding pin_moved_as port0_moved port1_moved port2_moved p16_moved hsync_moved observe permitted
kind_moved g z s k t w {q = q} (port0_pin u high) l h = unnamed l u (tracks (port0_moved g q l) z s k t w)
kind_moved g z s k t w {q = q} (port1_pin u low high) l h = unnamed l u (tracks (port1_moved g q l) z s k t w)
kind_moved g z s k t w {q = q} (port2_pin u low high) l h = unnamed l u (tracks (port2_moved g q l) z s k t w)
kind_moved g z s k t w (no_pin u absent) l h = unnamed l u (tracks g z s k t w)
kind_moved g z s k t w p16_pin l h = kept (tracks (p16_moved (with_reset g z) l) z s k t w)
kind_moved g z s k t w sda_pin l h = sda_moved_lem g k t w z s l
kind_moved g z s k t w scl_pin l h = scl_moved_lem g k t w z s l h
kind_moved g z s k t w hsynci_pin l h = kept (tracks (hsync_moved (with_reset g z) l) z s k t w)
kind_moved g z s k t w vsynci_pin l h = vsync_moved_lem g z s l k t w h
kind_moved g z s k t w reset_pin l h = reset_moved_lem g k t w z s l h
