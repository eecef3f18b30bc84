-- Related cores stay related at a pin event (document 01, "The bus" and "Flags, timer, watchdog, reset").
use Prim.Native.Nat.{ℕ, suc}
use mathlib.Core.Path.{◌≡◌, refl, ap, sym, ◌∙◌}
use mathlib.Core.List.{List, [], ◌∷◌}
use mathlib.Core.Bool.{Bool, true, false, not, ◌&&◌, true≢false}
use native.Mathlib.Omega.{arith}
use native.Mathlib.Numerals.{add-one}
use lib.ListN.{length}
use lib.Dec.{eqb, ltb}
use borrow.Author.Tests.{ltb-true, lt-ltb, eqb-true, eqb-false, not-true}
use Rattle.bits.specs.Byte.{pick, bit}
use Rattle.bits.proofs.Bitwise.{bit_or_lem}
use Rattle.registers.specs.Names.{INTE}
use Rattle.std.specs.Prelude.{Ok}
use Rattle.events.specs.declared.Event.TheVariants.{Pin}
use Rattle.bus.specs.declared.Edge.{Edge}
use Rattle.bus.specs.declared.Edge.TheVariants.{Flat, Rise, Fall}
use Rattle.bus.specs.declared.Phase.{Phase}
use Rattle.bus.specs.declared.Phase.TheVariants.{Idle, Address}
use Rattle.bus.specs.Bus.{edge, pulls_sda, sda_pulled, scl_pulled}
use Rattle.bus_ddc2b.proofs.Own.{none_foreign}
use Rattle.bus_ddc2b.specs.Ddc2b.{address_bits, matches, phase_at_rise, data_at_rise, matches_at_rise, status_at_rise, holds_at_fall, phase_at_fall, start_status, stop_status}
use Rattle.chip.specs.declared.Core.{Core}
use Rattle.chip.specs.State.{bus_of, hsel_of, raised, with_sync, with_bus, with_reset}
use Rattle.sync.specs.Sync.{on_vsync}
use Rattle.chip_edges.specs.Edges.{bus_at_rise, scl_rise, scl_fall, on_scl, on_scl_ddc2b, scl_moved, started, stopped, on_sda, on_sda_ddc2b, sda_moved, bus_at_vsync, loads_at_vsync}
use Rattle.chip_pins.specs.declared.PinKind.{PinKind}
use Rattle.chip_pins.specs.Pins.{rises, port0_moved, port1_moved, port2_moved, p16_moved, vsync_level, hsync_moved, vsync_rise, vsync_moved, on_reset, reset_moved, pin_moved_as, pin_moved}
use Rattle.chip_pins.specs.Numbers.{Unnamed, Numbered, p16_pin, sda_pin, scl_pin, hsynci_pin, vsynci_pin, reset_pin, port0_pin, port1_pin, port2_pin, no_pin}
use Rattle.chip_pins.proofs.Numbers.{numbered}
use Rattle.isolation_laws.specs.Foreign.{Trace, since, byte_of, Observer, observe, permitted, completes_match, gather}
use Rattle.isolation_laws.proofs.Bits.{gathered_level}
use Rattle.isolation_laws.specs.Related.{frame, observer, Apart, idle, ignoring, address, KeptBy, Related, related}
use Rattle.isolation_laws.proofs.Related.{left_released, right_released, enddc_low, kept_status, kept_raised, kept_raised_if}

-- ---- SCL

before_last : (n : ℕ) → ltb n 8 ≡ true → eqb n 7 ≡ false → ltb n 7 ≡ true
before_last n h e = lt-ltb n 7 (omega (arith, ltb-true n 8 h, eqb-false n 7 e))

-- an address is compared with bits 7..1 of II ADR alone
matches_by_bits : (own own' byte : ℕ) → address_bits own ≡ address_bits own' → matches own byte ≡ matches own' byte
unfolding matches
matches_by_bits own own' byte h = rw h

-- another level of an address: the eighth completes one that is not the chip's
module _ (g : Core) (x x' : Bool) (y y' : ℕ) {n : ℕ} (ls ls' : List Bool) (e : length ls' ≡ length ls) (h : ltb (length ls) 8 ≡ true) (o : KeptBy g n) where
  gather_related : (last : Bool) → eqb (length ls) 7 ≡ last → (last && matches n (byte_of (x ∷ ls))) ≡ false → (last && matches n (byte_of (x' ∷ ls'))) ≡ false
      → Related (scl_rise (frame g true true x (Address (length ls) (byte_of ls)) y)) (scl_rise (frame g true true x' (Address (length ls) (byte_of ls')) y'))
      (observer true true x n g.watchdog (since (x ∷ ls))) (observer true true x' n g.watchdog (since (x' ∷ ls')))
  unfolding scl_rise bus_at_rise phase_at_rise data_at_rise matches_at_rise status_at_rise pulls_sda
  gather_related false l a a' =
      let few : ltb (length ls) 7 ≡ true = before_last (length ls) h l in
      rw (few, gathered_level ls x h, gathered_level ls' x' (rw e h), add-one (length ls))
      (related (raised g 0) true true x x' y y' (address (x ∷ ls) (x' ∷ ls') (ap suc e) (lt-ltb (suc (length ls)) 8 (omega (arith, ltb-true (length ls) 7 few)))) (kept_raised 0 (omega arith) o))
  gather_related true l a a' =
      let foreign = matches_by_bits g.bus.iiadr n (byte_of (x ∷ ls)) o.address_bits_lem ∙ a in
      let foreign' = matches_by_bits g.bus.iiadr n (byte_of (x' ∷ ls')) o.address_bits_lem ∙ a' in
      rw (eqb-true (length ls) 7 l, gathered_level ls x h, gathered_level ls' x' (rw e h), none_foreign g.bus.iiadr _ foreign, none_foreign g.bus.iiadr _ foreign', foreign, foreign')
      (related (raised g 0) true true x x' (byte_of (x ∷ ls)) (byte_of (x' ∷ ls')) (ignoring (x ∷ ls) (x' ∷ ls')) (kept_raised 0 (omega arith) o))

module _ (g : Core) (x x' : Bool) (y y' : ℕ) {n : ℕ} (o : KeptBy g n) where
  rise_related : {q q' : Phase} {t t' : Trace} → Apart q q' t t' → not (completes_match n x t) ≡ true → not (completes_match n x' t') ≡ true
      → Related (scl_rise (frame g true true x q y)) (scl_rise (frame g true true x' q' y'))
      (observer true true x n g.watchdog (gather x t)) (observer true true x' n g.watchdog (gather x' t'))
  unfolding scl_rise bus_at_rise phase_at_rise data_at_rise matches_at_rise status_at_rise
  rise_related idle a a' = related (raised g 0) true true x x' y y' idle (kept_raised 0 (omega arith) o)
  rise_related (ignoring ls ls') a a' = related (raised g 0) true true x x' y y' (ignoring (x ∷ ls) (x' ∷ ls')) (kept_raised 0 (omega arith) o)
  rise_related (address ls ls' e h) a a' = gather_related g x x' y y' ls ls' e h o (eqb (length ls) 7) refl (not-true _ a) (not-true _ (rw e at a'))

  fall_related : {q q' : Phase} {t t' : Trace} → Apart q q' t t'
      → Related (scl_fall (frame g true false x q y)) (scl_fall (frame g true false x' q' y')) (observer true false x n g.watchdog t) (observer true false x' n g.watchdog t')
  unfolding scl_fall holds_at_fall phase_at_fall
  fall_related idle = related (raised g 0x20) true false x x' y y' idle (kept_raised 0x20 (omega arith) o)
  fall_related (ignoring ls ls') = related (raised g 0x20) true false x x' y y' (ignoring ls ls') (kept_raised 0x20 (omega arith) o)
  fall_related (address ls ls' e h) = related (raised g 0x20) true false x x' y y' (address ls ls' e h) (kept_raised 0x20 (omega arith) o)

pub scl_related : {c d : Core} {o o' : Observer} → Related c d o o' → (l : Bool) → permitted o (Ok (Pin 25 l)) ≡ true → permitted o' (Ok (Pin 25 l)) ≡ true
    → Related (scl_moved c l) (scl_moved d l) (observe o (Ok (Pin 25 l))) (observe o' (Ok (Pin 25 l)))
unfolding scl_moved on_scl on_scl_ddc2b scl_pulled observe permitted
scl_related (related g false s x x' y y' k o) l a a' = related g false l x x' y y' k o
scl_related (related g true true x x' y y' k o) true a a' = rw (o.ddc2b, (left_released k).scl_free_lem, (right_released k).scl_free_lem) (related g true true x x' y y' k o)
scl_related (related g true false x x' y y' k o) false a a' = rw (o.ddc2b, (left_released k).scl_free_lem, (right_released k).scl_free_lem) (related g true false x x' y y' k o)
scl_related (related g true true x x' y y' k o) false a a' = rw (o.ddc2b, (left_released k).scl_free_lem, (right_released k).scl_free_lem) (fall_related g x x' y y' o k)
scl_related (related g true false x x' y y' k o) true a a' = rw (o.ddc2b, (left_released k).scl_free_lem, (right_released k).scl_free_lem) (rise_related g x x' y y' o k a a')

-- ---- SDA

pub start_enddc : bit 3 0x20 ≡ false
unfolding bit
start_enddc = refl

pub stop_enddc : bit 3 0x10 ≡ false
unfolding bit
stop_enddc = refl

-- while SCL is low a change of SDA is no START and no STOP
pub unmoved_at_low : (e : Edge) (c : Core) → on_sda_ddc2b false e c ≡ c
unfolding on_sda_ddc2b
unmoved_at_low Flat c = refl
unmoved_at_low Rise c = refl
unmoved_at_low Fall c = refl

-- SDA put to any two levels while SCL is low
pub sda_low_related : {c d : Core} {o o' : Observer} → Related c d o o' → (l l' : Bool) → o.scl ≡ false
    → Related (sda_moved c l) (sda_moved d l') (observe o (Ok (Pin 24 l))) (observe o' (Ok (Pin 24 l')))
unfolding sda_moved on_sda sda_pulled scl_pulled observe
sda_low_related (related g z true x x' y y' k o) l l' h = absurd (true≢false h)
sda_low_related (related g false false x x' y y' k o) l l' h = related g false false l l' y y' k o
sda_low_related (related g true false x x' y y' k o) l l' h =
    rw (o.ddc2b, (left_released k).scl_free_lem, (right_released k).scl_free_lem, (left_released k).sda_free_lem, (right_released k).sda_free_lem, unmoved_at_low (edge x l), unmoved_at_low (edge x' l'))
    (related g true false l l' y y' k o)

-- SDA put to one level, its levels being equal before
pub sda_equal_related : {c d : Core} {o o' : Observer} → Related c d o o' → (l : Bool) → o.sda ≡ o'.sda
    → Related (sda_moved c l) (sda_moved d l) (observe o (Ok (Pin 24 l))) (observe o' (Ok (Pin 24 l)))
unfolding sda_moved on_sda on_sda_ddc2b sda_pulled scl_pulled started stopped observe
sda_equal_related (related g z false x x' y y' k o) l h = sda_low_related (related g z false x x' y y' k o) l l refl
sda_equal_related (related g false true x x' y y' k o) l h = related g false true l l y y' k o
sda_equal_related (related g true true true false y y' k o) l h = absurd (true≢false h)
sda_equal_related (related g true true false true y y' k o) l h = absurd (true≢false (sym h))
sda_equal_related (related g true true true true y y' k o) true h =
    rw (o.ddc2b, (left_released k).scl_free_lem, (right_released k).scl_free_lem, (left_released k).sda_free_lem, (right_released k).sda_free_lem) (related g true true true true y y' k o)
sda_equal_related (related g true true false false y y' k o) false h =
    rw (o.ddc2b, (left_released k).scl_free_lem, (right_released k).scl_free_lem, (left_released k).sda_free_lem, (right_released k).sda_free_lem) (related g true true false false y y' k o)
sda_equal_related (related g true true true true y y' k o) false h =
    rw (o.ddc2b, (left_released k).scl_free_lem, (right_released k).scl_free_lem, (left_released k).sda_free_lem, (right_released k).sda_free_lem)
    (related (with_bus g (bus_of (start_status g.bus.iists) g.bus.iiadr 0 Idle g.bus.shifter)) true true false false y y' (address [] [] refl refl)
    (kept_status (start_status g.bus.iists) (rw (bit_or_lem, start_enddc, enddc_low o)) o))
sda_equal_related (related g true true false false y y' k o) true h =
    rw (o.ddc2b, (left_released k).scl_free_lem, (right_released k).scl_free_lem, (left_released k).sda_free_lem, (right_released k).sda_free_lem)
    (related (with_bus g (bus_of (stop_status g.bus.iists) g.bus.iiadr 0 Idle g.bus.shifter)) true true true true y y' idle
    (kept_status (stop_status g.bus.iists) (rw (bit_or_lem, stop_enddc, enddc_low o)) o))

-- ---- RESET, which does not go low

pub reset_related : {c d : Core} {o o' : Observer} → Related c d o o' → (l : Bool) → permitted o (Ok (Pin 28 l)) ≡ true
    → Related (reset_moved c l) (reset_moved d l) (observe o (Ok (Pin 28 l))) (observe o' (Ok (Pin 28 l)))
unfolding reset_moved on_reset observe permitted
reset_related (related g true s x x' y y' k o) true a = related g true s x x' y y' k o
reset_related (related g true s x x' y y' k o) false a = absurd (true≢false (sym a))
reset_related (related g false s x x' y y' k o) true a = related g true s x x' y y' k o
reset_related (related g false s x x' y y' k o) false a = related g false s x x' y y' k o

-- ---- the other pins

vsync_related : {c d : Core} {o o' : Observer} → Related c d o o' → (rise l : Bool)
    → Related (pick rise (vsync_rise (vsync_level c l)) (vsync_level c l)) (pick rise (vsync_rise (vsync_level d l)) (vsync_level d l)) o o'
unfolding vsync_rise bus_at_vsync loads_at_vsync
vsync_related (related g z s x x' y y' k o) false l = related (vsync_level g l) z s x x' y y' k o
vsync_related (related g z s x x' y y' k o) true l = rw o.ddc2b (related (with_sync (raised (vsync_level g l) 0x01) (on_vsync (hsel_of g) g.sync)) z s x x' y y' k (kept_raised 0x01 (omega arith) o))

-- ---- all pins

-- of the pins the observer sees SDA, SCL and RESET alone
unobserved : {c d : Core} {o o' : Observer} → Related c d o o' → {p : ℕ} (l : Bool) → Unnamed p → Related c d (observe o (Ok (Pin p l))) (observe o' (Ok (Pin p l)))
unfolding observe
unobserved r l u = rw (u.sda, u.scl, u.reset) r

kind_related : {c d : Core} {o o' : Observer} → Related c d o o' → {kind : PinKind} {p : ℕ} → Numbered kind p → (l : Bool) → eqb p 24 ≡ false
    → permitted o (Ok (Pin p l)) ≡ true → permitted o' (Ok (Pin p l)) ≡ true
    → Related (pin_moved_as kind c p l) (pin_moved_as kind d p l) (observe o (Ok (Pin p l))) (observe o' (Ok (Pin p l)))
unfolding pin_moved_as port0_moved port1_moved port2_moved p16_moved hsync_moved vsync_moved observe
kind_related (related g z s x x' y y' k o) {p = p} (port0_pin u high) l e a a' = unobserved (related (port0_moved g p l) z s x x' y y' k o) l u
kind_related (related g z s x x' y y' k o) {p = p} (port1_pin u low high) l e a a' = unobserved (related (port1_moved g p l) z s x x' y y' k o) l u
kind_related (related g z s x x' y y' k o) {p = p} (port2_pin u low high) l e a a' = unobserved (related (port2_moved g p l) z s x x' y y' k o) l u
kind_related r (no_pin u none) l e a a' = unobserved r l u
kind_related (related g z s x x' y y' k o) p16_pin l e a a' = related (p16_moved (with_reset g z) l) z s x x' y y' k (kept_raised_if (rises z (bit 6 g.pins.port1) l) INTE o)
kind_related r sda_pin l e a a' = absurd (true≢false e)
kind_related r scl_pin l e a a' = scl_related r l a a'
kind_related (related g z s x x' y y' k o) hsynci_pin l e a a' = related (hsync_moved (with_reset g z) l) z s x x' y y' k o
kind_related (related g z s x x' y y' k o) vsynci_pin l e a a' = vsync_related (related g z s x x' y y' k o) (rises z g.pins.vsynci l) l
kind_related r reset_pin l e a a' = reset_related r l a

-- a pin event that does not touch SDA
pub pin_related : {c d : Core} {o o' : Observer} → Related c d o o' → (p : ℕ) (l : Bool) → eqb p 24 ≡ false → permitted o (Ok (Pin p l)) ≡ true → permitted o' (Ok (Pin p l)) ≡ true
    → Related (pin_moved c p l) (pin_moved d p l) (observe o (Ok (Pin p l))) (observe o' (Ok (Pin p l)))
unfolding pin_moved
pin_related r p l e a a' = kind_related r (numbered p) l e a a'
