-- Flag D in DDC2B comes with the fall of the SCL line behind the ninth rise of a byte, counted from a START or from letting SCL go, and with no other event.
-- Assumes nothing.
use mathlib.Core.Path.{◌≡◌, refl, sym, ap, ◌∙◌}
use mathlib.Core.Bool.{Bool, true, false, not, ◌&&◌, ◌||◌, and-true}
use mathlib.Core.List.{List, [], ◌∷◌}
use Prim.Native.Nat.{ℕ, ◌+◌}
use native.Mathlib.Omega.{arith}
use native.Mathlib.Nat.{add-zero, zero-add}
use borrow.Author.Tests.{eqb-true}
use lib.Dec.{eqb}
use lib.ListN.{length}
use Rattle.bits.specs.Byte.{pick, num, bit}
use Rattle.bits.proofs.Finite.{both, neither}
use Rattle.registers.specs.Names.{IIDAT}
use Rattle.registers.specs.Table.{row_of, is_writable}
use Rattle.std.specs.Prelude.{Ok, Err}
use Rattle.events.specs.Decoded.{Decoded}
use Rattle.events.specs.declared.Event.TheVariants.{Read, Write, Pin, Clock, Polarity}
use Rattle.events.specs.Word.{decode}
use Rattle.bus.specs.declared.OwnAddress.{OwnAddress}
use Rattle.bus.specs.declared.Comparison.TheVariants.{Own}
use Rattle.bus.specs.declared.Phase.{Phase}
use Rattle.bus.specs.Bus.{line, mode, pulls_sda, pulls_scl, compared_in, is_own}
use Rattle.bus_ddc2b.specs.Ddc2b.{phase_let_go, phase_at_rise}
use Rattle.chip.specs.declared.Core.{Core}
use Rattle.chip.specs.declared.Chip.{Chip}
use Rattle.chip_edges.specs.Edges.{bus_at_rise}
use Rattle.chip_ddc_writes.specs.DdcWrites.{bus_let_go, bus_risen, bus_at_iidat, iidat_written}
use Rattle.chip_writes.specs.Writes.{target, written_to, written, write_register}
use Rattle.chip_events.specs.Outcome.{core_after, next}
use Rattle.step.specs.Step.{advance}
use Rattle.list_call.specs.Run.{advanced}
use Rattle.chip_flag_laws.specs.Causes.{raises, put_low, in_ddc2b, scl_free, rises_vsynci, falls_scl, in_ninth_clock}
use Rattle.chip_flag_laws.specs.Causes.Source.{DataByte}
use Rattle.chip_count_laws.specs.Counting.{never}
use Rattle.chip_count_laws.proofs.Events.{effect as effect_of_counting}
use Rattle.bus_transfer_laws.proofs.Steps.{held_own}
use Rattle.bus_address_laws.specs.Addressed.{sda_level, takes_level, starts, ends, levels_taken, outcome_in}
use Rattle.bus_address_laws.proofs.Events.{clash}
use Rattle.bus_address_laws.proofs.Addressed.{parts}
use Rattle.bus_address_laws.proofs.Eighth.{low_both, not_and, gathered_since}
use Rattle.bus_data_laws.specs.Ninth.{rises_over, lets_go, ends_byte, NinthSinceStart, NinthSinceLetGo}
use Rattle.bus_data_laws.proofs.Bytes.{InByte, gathering, at_rise_lem, at_fall_lem, at_nine, held_nine, still_held, from_let_go, own_byte}
use Rattle.bus_data_laws.proofs.Events.{Runs, Moved, risen, fallen, same, holding, moved, runs_on}

-- in DDC2B with RESET high, n rises of a byte are taken
record Within (called : Bool) (n : ℕ) (c : Chip) : Type 0 where
  runs : Runs c.core
  byte : InByte called n c.core.scl c.core.bus.phase

counted : {called : Bool} {n m : ℕ} {c : Chip} → n ≡ m → Within called n c → Within called m c
counted {called} {c = c} e g = record { runs = g.runs; byte = rw (← e) g.byte }

-- ---- one event

module _ (called : Bool) (n : ℕ) (c : Chip) (e : Decoded) (g : Within called n c) (goes : ends_byte c e ≡ false) where
  not_ended : (ends c e ≡ false) × (lets_go c e ≡ false)
  not_ended = neither (ends c e) (lets_go c e) goes

  level_taken : takes_level c e ≡ true → Within called (n + 1) (next c e)
  level_taken h = record { runs = runs_on c e g.runs not_ended.0; byte = by_parts (moved c e g.runs not_ended.0 not_ended.1) }
    where
      by_parts : Moved c e (next c e).core → InByte called (n + 1) (next c e).core.scl (next c e).core.bus.phase
      by_parts (risen t o f s q) = rw (s, q) (at_rise_lem called n c.core.bus.iiadr (sda_level c) (rw o at g.byte) f)
      by_parts (fallen t o f s q) = clash (takes_level c e) h t
      by_parts (same t s q) = clash (takes_level c e) h t
      by_parts (holding t f q) = clash (takes_level c e) h t

  level_kept : takes_level c e ≡ false → Within called n (next c e)
  level_kept h = record { runs = runs_on c e g.runs not_ended.0; byte = by_parts (moved c e g.runs not_ended.0 not_ended.1) }
    where
      by_parts : Moved c e (next c e).core → InByte called n (next c e).core.scl (next c e).core.bus.phase
      by_parts (risen t o f s q) = clash (takes_level c e) t h
      by_parts (fallen t o f s q) = rw (s, q) (at_fall_lem called n c.core.bus.iists (rw o at g.byte) f)
      by_parts (same t s q) = rw (s, q) g.byte
      by_parts (holding t f q) = still_held called n (next c e).core.bus.phase q (held_nine called n g.byte f)

-- ---- over a list of words

abbrev Claim : Bool → Chip → List ℕ → Type 0
Claim called c ws = (n : ℕ) → Within called n c → never ends_byte c ws ≡ true → Within called (n + rises_over c ws) (advanced c ws)

by_level : (called : Bool) (c : Chip) (e : Decoded) (ws : List ℕ) → Claim called (next c e) ws → (n : ℕ) (t : Bool) → takes_level c e ≡ t → Within called n c → ends_byte c e ≡ false
    → never ends_byte (next c e) ws ≡ true
    → Within called (n + length (pick t (sda_level c ∷ levels_taken (next c e) ws) (levels_taken (next c e) ws))) (advanced (next c e) ws)
by_level called c e ws rest n true t g goes q = counted (omega arith) (rest (n + 1) (level_taken called n c e g goes t) q)
by_level called c e ws rest n false t g goes q = rest n (level_kept called n c e g goes t) q

over_words : (called : Bool) (c : Chip) (ws : List ℕ) → Claim called c ws
unfolding advance
over_words called c [] n g q = counted (sym (add-zero n)) g
over_words called c (w ∷ ws) n g q =
    let k = parts (ends_byte c (decode w)) _ q in
    by_level called c (decode w) ws (over_words called (next c (decode w)) ws) n (takes_level c (decode w)) refl g k.0 k.1

-- ---- flag D

-- in DDC2B the fall that ends the ninth clock
data_at : (c : Chip) (e : Decoded) → Runs c.core → raises DataByte c e ≡ (falls_scl c e && in_ninth_clock c.core.bus.phase)
unfolding raises
data_at c e r = rw (r.enddc, r.md) (other (rises_vsynci c e) _)
  where
    other : (x y : Bool) → ((x && false) || y) ≡ y
    other true y = refl
    other false y = refl

data_within : (called : Bool) (n : ℕ) (c : Chip) (e : Decoded) → Within called n c → raises DataByte c e ≡ (falls_scl c e && (eqb n 9 && is_own (outcome_in c)))
data_within called n c e g = data_at c e g.runs ∙ by_fall (falls_scl c e) refl
  where
    by_fall : (t : Bool) → falls_scl c e ≡ t → (t && in_ninth_clock c.core.bus.phase) ≡ (t && (eqb n 9 && is_own (outcome_in c)))
    by_fall true h =
        let put = both (put_low 25 e) (c.core.reset && (c.core.scl && scl_free c)) h in
        let high = both c.core.reset (c.core.scl && scl_free c) put.1 in
        let line = both c.core.scl (scl_free c) high.1 in
        let on : in_ddc2b c ≡ true = rw (g.runs.enddc, g.runs.md) in
        at_nine called n (rw line.0 at g.byte) (not_and (in_ddc2b c) (pulls_scl c.core.bus.phase) on line.1)
    by_fall false h = refl

-- ---- from a START

start_reset : (c : Chip) (e : Decoded) → starts c e ≡ true → (next c e).core.reset ≡ true
start_reset c (Ok (Read a)) s = clash false s refl
start_reset c (Ok (Write a b)) s = clash false s refl
start_reset c (Ok (Pin p level)) s =
    let put = both _ _ s in
    let pin = both _ _ put.0 in
    let levels = both _ _ put.1 in
    (effect_of_counting c (Ok (Pin p level))).reset ∙ rw (eqb-true p 24 pin.0) levels.0
start_reset c (Ok (Clock k)) s = clash false s refl
start_reset c (Ok (Polarity vertical level)) s = clash false s refl
start_reset c (Err r) s = clash false s refl

start_within : (c : Chip) (w : ℕ) → starts c (decode w) ≡ true → Within true 0 (next c (decode w))
unfolding advance
start_within c w s =
    let g = gathered_since c w [] s refl (omega arith) in
    let x : Core = (next c (decode w)).core in
    let bits = low_both (bit 3 x.bus.iists) (bit 0 x.mdcon) g.ddc2b in
    record { runs = record { reset = start_reset c (decode w) s; enddc = bits.0; md = bits.1 }; byte = rw g.phase (gathering 0 0 refl (omega arith) refl) }

pub ninth_since_start : (c : Chip) (w : ℕ) (us : List ℕ) → NinthSinceStart c w us
unfolding advance
ninth_since_start c w us s q e =
    data_within true (rises_over (next c (decode w)) us) (advanced c (w ∷ us)) e
    (counted (zero-add _) (over_words true (next c (decode w)) us 0 (start_within c w s) q))

-- ---- from letting go

module _ (c : Chip) (b : ℕ) (r : Runs c.core) (held : pulls_scl c.core.bus.phase ≡ true) where
  risen_byte : (m : OwnAddress) → compared_in c.core.bus.phase ≡ Own m → (scl sda : Bool) → InByte false (num scl) scl (bus_risen scl sda (bus_let_go b c.core.bus)).phase
  unfolding bus_risen bus_at_rise
  risen_byte m called true sda = rw called (from_let_go m true (bit 2 c.core.bus.iists) _ c.core.bus.iiadr b)
  risen_byte m called false sda = rw called (from_let_go m false (bit 2 c.core.bus.iists) sda c.core.bus.iiadr b)

  byte_begun : InByte false (num c.core.scl) (next c (Ok (Write IIDAT b))).core.scl (next c (Ok (Write IIDAT b))).core.bus.phase
  unfolding next core_after write_register written target written_to iidat_written bus_at_iidat is_writable row_of
  byte_begun =
      let own = held_own c.core.bus.phase held in
      rw (r.reset, held) (risen_byte own.0 own.1 c.core.scl c.core.sda)

  not_over : ends c (Ok (Write IIDAT b)) ≡ false
  unfolding ends
  not_over = refl

let_go_core : (c : Chip) (a b : ℕ) → lets_go c (Ok (Write a b)) ≡ true → Within false (num c.core.scl) (next c (Ok (Write a b)))
let_go_core c a b h =
    let x = both _ _ h in
    let y = both _ _ x.1 in
    let z = both _ _ y.1 in
    let bits = low_both (bit 3 c.core.bus.iists) (bit 0 c.core.mdcon) z.0 in
    let r : Runs c.core = record { reset = y.0; enddc = bits.0; md = bits.1 } in
    rw (eqb-true a IIDAT x.0) (record { runs = runs_on c (Ok (Write IIDAT b)) r (not_over c b r z.1); byte = byte_begun c b r z.1 })

let_go_within : (c : Chip) (e : Decoded) → lets_go c e ≡ true → Within false (num c.core.scl) (next c e)
let_go_within c (Ok (Read a)) h = clash false h refl
let_go_within c (Ok (Write a b)) h = let_go_core c a b h
let_go_within c (Ok (Pin p level)) h = clash false h refl
let_go_within c (Ok (Clock k)) h = clash false h refl
let_go_within c (Ok (Polarity vertical level)) h = clash false h refl
let_go_within c (Err r) h = clash false h refl

pub ninth_since_let_go : (c : Chip) (w : ℕ) (us : List ℕ) → NinthSinceLetGo c w us
unfolding advance
ninth_since_let_go c w us s q e =
    let n : ℕ = num c.core.scl + rises_over (next c (decode w)) us in
    let x : Chip = advanced c (w ∷ us) in
    let g = over_words false (next c (decode w)) us (num c.core.scl) (let_go_within c (decode w) s) q in
    data_within false n x e g ∙ rw (own_byte g.byte) (ap (λ (t : Bool). falls_scl x e && t) (and-true (eqb n 9)))
