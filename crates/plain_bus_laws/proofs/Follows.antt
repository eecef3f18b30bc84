-- The chip's phase by what is sampled of the list (document 01, "The bus").
-- Assumes nothing.
use Prim.Native.Nat.{ℕ, suc, ◌+◌, ◌*◌, ◌^◌, ◌<◌}
use mathlib.Core.Path.{◌≡◌, refl, ap, sym, ◌∙◌}
use mathlib.Core.List.{List, [], ◌∷◌, ◌++◌}
use mathlib.Core.Bool.{Bool, true, false, true≢false, or-true}
use native.Mathlib.Omega.{arith}
use native.Mathlib.Nat.{mod-eq_of_lt, pow-suc}
use native.Mathlib.Numerals.{add-one}
use lib.Pow.{pow_mono}
use lib.ListN.{length, length-append}
use lib.Bits.{bit_or}
use lib.Dec.{eqb, ltb}
use borrow.Author.Tests.{ltb-true, lt-ltb, eqb-true, eqb-false}
use Rattle.bits.specs.Byte.{pick, num, bit}
use Rattle.bits.proofs.Bitwise.{bit_or_lem}
use Rattle.bits.proofs.Mask.{num_lt}
use Rattle.registers.specs.Names.{INTA}
use Rattle.bus.specs.declared.OwnAddress.{OwnAddress}
use Rattle.bus.specs.declared.Comparison.{Comparison}
use Rattle.bus.specs.declared.Comparison.TheVariants.{None, Own}
use Rattle.bus.specs.declared.Phase.{Phase}
use Rattle.bus.specs.declared.Phase.TheVariants.{Idle, Address, Addressed, Ignoring}
use Rattle.bus.specs.Bus.{is_own, pulls_sda, pulls_scl, sda_pulled, scl_pulled}
use Rattle.bus_ddc2b.specs.Ddc2b.{address_bits, compared, gathered, phase_at_rise, data_at_rise, matches_at_rise, status_at_rise, holds_at_fall, phase_at_fall, start_status, stop_status}
use Rattle.bus_ddc2b.proofs.Own.{own_matches}
use Rattle.chip.specs.declared.Core.{Core}
use Rattle.chip.specs.State.{bus_of, raised, with_bus}
use Rattle.chip_edges.specs.Edges.{bus_at_rise, scl_rise, scl_fall, on_scl, on_scl_ddc2b, scl_moved, started, stopped, on_sda, on_sda_ddc2b, sda_moved}
use Rattle.isolation_laws.specs.Related.{frame, KeptBy}
use Rattle.isolation_laws.proofs.Related.{enddc_low, kept_status, kept_raised}
use Rattle.isolation_laws.proofs.Pins.{start_enddc, stop_enddc, unmoved_at_low}
use Rattle.plain_bus.specs.Plain.{appended, byte_of, Found, found}
use Rattle.plain_bus_laws.specs.Stepping.{lacks_one, told, told_by}
use Rattle.plain_bus_laws.proofs.Sampled.{Kind, start, stop, rise, other, sda_kind, scl_kind, Sampled, nothing, since, ours, Few, is_ours, sampled_eight, sampled_rise, sampled_next, found_rise, found_next, stops_rise, stops_next}

-- ---- the byte of levels

appended_last : (byte : ℕ) (ls : List Bool) (x : Bool) → appended byte (ls ++ (x ∷ [])) ≡ appended byte ls * 2 + num x
appended_last byte [] x = refl
appended_last byte (l ∷ ls) x = appended_last (byte * 2 + num l) ls x

appended_lt : (n byte : ℕ) (ls : List Bool) → byte < 2 ^ n → appended byte ls < 2 ^ (n + length ls)
appended_lt n byte [] h = let e : n + 0 ≡ n = omega arith in rw e h
appended_lt n byte (l ∷ ls) h =
    let fits : byte * 2 + num l < 2 ^ (n + 1) = rw (add-one n) (omega (arith, num_lt l, pow-suc 2 n)) in
    let e : n + suc (length ls) ≡ n + 1 + length ls = omega arith in
    rw e (appended_lt (n + 1) (byte * 2 + num l) ls fits)

-- the chip gathers what the list shows
gathered_level : (ls : List Bool) (x : Bool) → ltb (length ls) 8 ≡ true → gathered (byte_of ls) x ≡ byte_of (ls ++ (x ∷ []))
unfolding gathered
gathered_level ls x h =
    let e : 0 + length ls ≡ length ls = omega arith in
    let small : byte_of ls < 128 = omega (arith, rw e at (appended_lt 0 0 ls (omega arith)), pow_mono {i = length ls} {j = 7} (omega (arith, ltb-true (length ls) 8 h))) in
    ap (λ (n : ℕ). n * 2 + num x) (mod-eq_of_lt small) ∙ sym (appended_last 0 ls x)

-- ---- the phase by SCL's level and what is sampled

pub data Phased : Bool → Phase → Sampled → Type 0 where
  idle : (s : Bool) → Phased s Idle nothing
  ignores : (s : Bool) → Phased s Ignoring nothing
  gathers : (s : Bool) (ls : List Bool) → ltb (length ls) 8 ≡ true → Phased s (Address (length ls) (byte_of ls)) (since ls)
  waits : (matched : OwnAddress) (byte : ℕ) → Phased true (Addressed matched byte false) ours
  pulls : (matched : OwnAddress) (byte : ℕ) → Phased false (Addressed matched byte true) ours

pub few : {s : Bool} {q : Phase} {h : Sampled} → Phased s q h → Few h
few (idle s) = tt
few (ignores s) = tt
few (gathers s ls f) = f
few (waits matched byte) = tt
few (pulls matched byte) = tt

-- a core that follows the list, with RESET high
pub data Follows (own : ℕ) : Core → Bool → Bool → Sampled → Type 0 where
  follows : (g : Core) (s x : Bool) (y : ℕ) {q : Phase} {h : Sampled} → Phased s q h → KeptBy g own → Follows own (frame g true s x q y) s x h

-- what a step from one core to another completes
abbrev pub completes_core : Core → Core → List Found
completes_core c d = pick (lacks_one c.bus.phase) (told_by (bit INTA d.irqx) d.bus.phase d.bus.iidat) []

-- a change, and what is completed by it
pub record Moved (own : ℕ) (c d : Core) (s x : Bool) (h : Sampled) (fs : List Found) : Type 0 where
  pub core : Follows own d s x h
  pub same : fs ≡ completes_core c d

-- ---- what the phases do to the lines

scl_free_lem : {s : Bool} {q : Phase} {h : Sampled} → Phased s q h → pulls_scl q ≡ false
unfolding pulls_scl
scl_free_lem (idle s) = refl
scl_free_lem (ignores s) = refl
scl_free_lem (gathers s ls f) = refl
scl_free_lem (waits matched byte) = refl
scl_free_lem (pulls matched byte) = refl

sda_free_lem : {q : Phase} {h : Sampled} → Phased true q h → pulls_sda q ≡ false
unfolding pulls_sda
sda_free_lem (idle s) = refl
sda_free_lem (ignores s) = refl
sda_free_lem (gathers s ls f) = refl
sda_free_lem (waits matched byte) = refl

-- ---- a phase that stays completes nothing

pick_none : (t : Bool) → ◌≡◌ {A = List Found} [] (pick t [] [])
pick_none true = refl
pick_none false = refl

stays : {s : Bool} {q : Phase} {h : Sampled} → Phased s q h → (flag : Bool) (y : ℕ) → [] ≡ pick (lacks_one q) (told_by flag q y) []
stays (idle s) flag y = refl
stays (ignores s) flag y = refl
stays (gathers s ls f) flag y = pick_none (eqb (length ls) 7)
stays (waits matched byte) flag y = refl
stays (pulls matched byte) flag y = refl

-- ---- SDA

module _ {own : ℕ} (g : Core) (y : ℕ) (k : KeptBy g own) where
  pub sda_follows : (s x l : Bool) {q : Phase} {h : Sampled} → Phased s q h
      → Moved own (frame g true s x q y) (sda_moved (frame g true s x q y) l) s l (sampled_next own (sda_kind s x l) h) (found_next own (sda_kind s x l) h)
  unfolding sda_moved on_sda on_sda_ddc2b sda_pulled scl_pulled started stopped
  sda_follows false x l p = rw (k.ddc2b, scl_free_lem p, unmoved_at_low) (record { core = follows g false l y p k; same = stays p _ y })
  sda_follows true true true p = rw (k.ddc2b, scl_free_lem p, sda_free_lem p) (record { core = follows g true true y p k; same = stays p _ y })
  sda_follows true false false p = rw (k.ddc2b, scl_free_lem p, sda_free_lem p) (record { core = follows g true false y p k; same = stays p _ y })
  sda_follows true true false {q} p =
      rw (k.ddc2b, scl_free_lem p, sda_free_lem p)
      (record {
        core = follows (with_bus g (bus_of (start_status g.bus.iists) g.bus.iiadr 0 Idle g.bus.shifter)) true false y (gathers true [] refl)
            (kept_status (start_status g.bus.iists) (rw (bit_or_lem, start_enddc, enddc_low k)) k);
        same = pick_none (lacks_one q);
      })
  sda_follows true false true {q} p =
      rw (k.ddc2b, scl_free_lem p, sda_free_lem p)
      (record {
        core = follows (with_bus g (bus_of (stop_status g.bus.iists) g.bus.iiadr 0 Idle g.bus.shifter)) true true y (idle true)
            (kept_status (stop_status g.bus.iists) (rw (bit_or_lem, stop_enddc, enddc_low k)) k);
        same = pick_none (lacks_one q);
      })

-- ---- SCL

before_last : (n : ℕ) → ltb n 8 ≡ true → eqb n 7 ≡ false → ltb n 7 ≡ true
before_last n h e = lt-ltb n 7 (omega (arith, ltb-true n 8 h, eqb-false n 7 e))

-- an address is compared with bits 7..1 of II ADR alone
compared_by_bits : (own own' byte : ℕ) → address_bits own ≡ address_bits own' → compared own byte ≡ compared own' byte
unfolding compared
compared_by_bits own own' byte h = rw h

-- flag A is set where 08H is put into IRQX
eight_flag : bit INTA 0x08 ≡ true
unfolding bit
eight_flag = refl

flag_raised : (irqx : ℕ) → bit INTA (bit_or irqx 0x08) ≡ true
flag_raised irqx = rw (bit_or_lem, eight_flag, or-true)

module _ {own : ℕ} (g : Core) (x : Bool) (y : ℕ) (k : KeptBy g own) where
  fall_follows : {q : Phase} {h : Sampled} → Phased true q h → Moved own (frame g true true x q y) (scl_fall (frame g true false x q y)) false x h []
  unfolding scl_fall holds_at_fall phase_at_fall
  fall_follows (idle s) = record { core = follows (raised g 0x20) false x y (idle false) (kept_raised 0x20 (omega arith) k); same = refl }
  fall_follows (ignores s) = record { core = follows (raised g 0x20) false x y (ignores false) (kept_raised 0x20 (omega arith) k); same = refl }
  fall_follows (gathers s ls f) =
      record { core = follows (raised g 0x20) false x y (gathers false ls f) (kept_raised 0x20 (omega arith) k); same = pick_none (eqb (length ls) 7) }
  fall_follows (waits matched byte) = record { core = follows (raised g 0x20) false x y (pulls matched byte) (kept_raised 0x20 (omega arith) k); same = refl }

  -- one more bit of an address
  gather_more : (ls : List Bool) (f : ltb (length ls) 8 ≡ true) → eqb (length ls) 7 ≡ false
      → Moved own (frame g true false x (Address (length ls) (byte_of ls)) y) (scl_rise (frame g true true x (Address (length ls) (byte_of ls)) y)) true x (since (ls ++ (x ∷ []))) []
  unfolding scl_rise bus_at_rise phase_at_rise data_at_rise matches_at_rise status_at_rise pulls_sda
  gather_more ls f l =
      let small : ltb (length ls) 7 ≡ true = before_last (length ls) f l in
      let longer : length ls + 1 ≡ length (ls ++ (x ∷ [])) = sym (length-append ls (x ∷ [])) in
      rw (small, gathered_level ls x f, longer)
      (record {
        core = follows (raised g 0) true x y
            (gathers true (ls ++ (x ∷ [])) (lt-ltb (length (ls ++ (x ∷ []))) 8 (omega (arith, longer, ltb-true (length ls) 7 small))))
            (kept_raised 0 (omega arith) k);
        same = rw l;
      })

  -- the eighth bit, by the outcome of the comparison
  gather_last : (ls : List Bool) (f : ltb (length ls) 8 ≡ true) → eqb (length ls) 7 ≡ true → (outcome : Comparison) → compared own (byte_of (ls ++ (x ∷ []))) ≡ outcome
      → Moved own (frame g true false x (Address (length ls) (byte_of ls)) y) (scl_rise (frame g true true x (Address (length ls) (byte_of ls)) y)) true x
      (sampled_eight (is_own outcome)) (told (byte_of (ls ++ (x ∷ []))) outcome ∷ [])
  unfolding scl_rise bus_at_rise phase_at_rise data_at_rise matches_at_rise status_at_rise pulls_sda
  gather_last ls f l None m =
      rw (eqb-true (length ls) 7 l, gathered_level ls x f, ← own_matches g.bus.iiadr (byte_of (ls ++ (x ∷ []))), compared_by_bits g.bus.iiadr own (byte_of (ls ++ (x ∷ []))) k.address_bits_lem, m)
      (record { core = follows (raised g 0) true x (byte_of (ls ++ (x ∷ []))) (ignores true) (kept_raised 0 (omega arith) k); same = refl })
  gather_last ls f l (Own matched) m =
      rw (eqb-true (length ls) 7 l, gathered_level ls x f, ← own_matches g.bus.iiadr (byte_of (ls ++ (x ∷ []))), compared_by_bits g.bus.iiadr own (byte_of (ls ++ (x ∷ []))) k.address_bits_lem, m)
      (record { core = follows (raised g 0x08) true x (byte_of (ls ++ (x ∷ []))) (waits matched (byte_of (ls ++ (x ∷ [])))) (kept_raised 0x08 (omega arith) k); same = rw (flag_raised g.irqx) })

  gather_follows : (ls : List Bool) (f : ltb (length ls) 8 ≡ true) (last : Bool) → eqb (length ls) 7 ≡ last
      → Moved own (frame g true false x (Address (length ls) (byte_of ls)) y) (scl_rise (frame g true true x (Address (length ls) (byte_of ls)) y)) true x
      (pick last (sampled_eight (is_ours own (byte_of (ls ++ (x ∷ []))))) (since (ls ++ (x ∷ []))))
      (pick last (found own (byte_of (ls ++ (x ∷ []))) ∷ []) [])
  gather_follows ls f false l = gather_more ls f l
  gather_follows ls f true l = gather_last ls f l (compared own (byte_of (ls ++ (x ∷ [])))) refl

  rise_follows : {q : Phase} {h : Sampled} → Phased false q h → stops_rise h ≡ false
      → Moved own (frame g true false x q y) (scl_rise (frame g true true x q y)) true x (sampled_rise own x h) (found_rise own x h)
  unfolding scl_rise bus_at_rise phase_at_rise data_at_rise matches_at_rise status_at_rise
  rise_follows (idle s) e = record { core = follows (raised g 0) true x y (idle true) (kept_raised 0 (omega arith) k); same = refl }
  rise_follows (ignores s) e = record { core = follows (raised g 0) true x y (ignores true) (kept_raised 0 (omega arith) k); same = refl }
  rise_follows (gathers s ls f) e = gather_follows ls f (eqb (length ls) 7) refl
  rise_follows (pulls matched byte) e = absurd (true≢false e)

  pub scl_follows : (s l : Bool) {q : Phase} {h : Sampled} → Phased s q h → stops_next (scl_kind s x l) h ≡ false
      → Moved own (frame g true s x q y) (scl_moved (frame g true s x q y) l) l x (sampled_next own (scl_kind s x l) h) (found_next own (scl_kind s x l) h)
  unfolding scl_moved on_scl on_scl_ddc2b scl_pulled
  scl_follows true true p e = rw (k.ddc2b, scl_free_lem p) (record { core = follows g true x y p k; same = stays p _ y })
  scl_follows false false p e = rw (k.ddc2b, scl_free_lem p) (record { core = follows g false x y p k; same = stays p _ y })
  scl_follows true false p e = rw (k.ddc2b, scl_free_lem p) (fall_follows p)
  scl_follows false true p e = rw (k.ddc2b, scl_free_lem p) (rise_follows p e)

-- at the stop nothing is completed
pub stop_completes : {s : Bool} {q : Phase} {h : Sampled} → Phased s q h → (i : Kind) → stops_next i h ≡ true → lacks_one q ≡ false
stop_completes p start e = absurd (true≢false (sym e))
stop_completes p stop e = absurd (true≢false (sym e))
stop_completes p other e = absurd (true≢false (sym e))
stop_completes (idle s) (rise x) e = absurd (true≢false (sym e))
stop_completes (ignores s) (rise x) e = absurd (true≢false (sym e))
stop_completes (gathers s ls f) (rise x) e = absurd (true≢false (sym e))
stop_completes (waits matched byte) (rise x) e = refl
stop_completes (pulls matched byte) (rise x) e = refl
