-- Eight levels put and clocked in after a START: the eighth rise sets flag A exactly where their byte matches.
-- Assumes nothing.
use mathlib.Core.Path.{◌≡◌, refl, ap, ◌∙◌}
use mathlib.Core.Bool.{Bool, true, false, not, ◌&&◌, ◌||◌, beq}
use mathlib.Core.List.{List, [], ◌∷◌, ◌++◌}
use Prim.Native.Nat.{ℕ, ◌+◌, ◌<◌}
use native.Mathlib.Omega.{arith}
use borrow.Author.Tests.{lt-ltb, not-true}
use lib.ListN.{length}
use Rattle.bits.specs.Byte.{bit}
use Rattle.bits.proofs.Finite.{beq_eq, both}
use Rattle.std.specs.Prelude.{Ok}
use Rattle.events.specs.Pins.{SDA, SCL}
use Rattle.events.specs.declared.Event.TheVariants.{Pin}
use Rattle.events.specs.Word.{decode}
use Rattle.events.proofs.EventWord.{decode_encode}
use Rattle.bus.specs.declared.Phase.TheVariants.{Address}
use Rattle.bus.specs.Bus.{mode, pulls_sda, pulls_scl, sda_pulled, scl_pulled}
use Rattle.bus_ddc2b.specs.Ddc2b.{start_status, matches, gathered, phase_at_rise, phase_at_fall, data_at_rise, status_at_rise}
use Rattle.chip.specs.declared.Chip.{Chip}
use Rattle.chip_edges.specs.Edges.{on_sda, on_sda_ddc2b, started, sda_moved}
use Rattle.chip_pins.specs.Pins.{pin_kind, pin_moved_as, pin_moved}
use Rattle.chip_events.specs.Outcome.{core_after, next}
use Rattle.step.specs.Step.{advance}
use Rattle.list_call.specs.Run.{advanced}
use Rattle.chip_flag_laws.specs.Causes.{in_ddc2b, scl_free, flag}
use Rattle.chip_flag_laws.specs.Causes.Source.{AddressMatch}
use Rattle.chip_flag_laws.proofs.Bools.{at_six}
use Rattle.chip_count_laws.specs.Counting.{never}
use Rattle.bus_transfer_laws.specs.Transfers.{put_sda, raise_scl, lower_scl, clock_in}
use Rattle.bus_transfer_laws.proofs.Steps.{given, At, after_sda, after_rise, after_fall}
use Rattle.bus_address_laws.specs.Addressed.{sda_level, takes_level, sda_free, scl_high, starts, ends, levels_taken, gathered_all}
use Rattle.bus_address_laws.proofs.Eighth.{start_bit, low_both, not_and, levels_append, decided_at_eighth}

free : (n bits : ℕ) → pulls_scl (Address n bits) ≡ false
unfolding pulls_scl
free n bits = refl

-- no START and no STOP while SCL is low
low_sda : (l r s p d : Bool) → ((not l && (r && ((s && p) && (d && false)))) || ((l && (r && ((not s && p) && (d && false)))) || false)) ≡ false
low_sda l r s p d =
    beq_eq _ _ (at_six (λ l r s p d z. beq ((not l && (r && ((s && p) && (d && false)))) || ((l && (r && ((not s && p) && (d && false)))) || false)) false) tt l r s p d true)

no_fall : (x : Bool) → ((x && false) || false) ≡ false
no_fall true = refl
no_fall false = refl

sda_takes : (x : Chip) (level : Bool) → takes_level x (Ok (Pin SDA level)) ≡ false
unfolding takes_level
sda_takes x level = refl

rise_ends : (x : Chip) → ends x (Ok (Pin SCL true)) ≡ false
unfolding ends
rise_ends x = refl

fall_takes : (x : Chip) → takes_level x (Ok (Pin SCL false)) ≡ false
unfolding takes_level
fall_takes x = refl

module _ {n bits status byte : ℕ} {sda : Bool} (x : Chip) where
  sda_ends : At (Address n bits) status byte false sda x.core → (level : Bool) → ends x (Ok (Pin SDA level)) ≡ false
  unfolding ends
  sda_ends a level = rw a.scl (low_sda level x.core.reset x.core.sda (sda_free x) (in_ddc2b x))

  rise_takes : At (Address n bits) status byte false sda x.core → takes_level x (Ok (Pin SCL true)) ≡ true
  unfolding takes_level pulls_scl
  rise_takes a = rw (a.reset, a.scl, a.iists, a.enddc, a.md, a.phase)

  rise_level : At (Address n bits) status byte false sda x.core → sda_level x ≡ sda
  unfolding pulls_sda
  rise_level a = rw (a.phase, a.sda)

  fall_ends : At (Address n bits) status byte true sda x.core → ends x (Ok (Pin SCL false)) ≡ false
  unfolding ends
  fall_ends a = rw (a.iists, a.enddc, a.md) (no_fall (x.core.reset && (x.core.scl && not (pulls_scl x.core.bus.phase))))

  risen : At (Address n bits) status byte false sda x.core → n < 7 → At (Address (n + 1) (gathered bits sda)) status byte true sda (next x (Ok (Pin SCL true))).core
  unfolding pulls_sda status_at_rise data_at_rise phase_at_rise
  risen a h = rw (lt-ltb n 7 h) at (after_rise x (free n bits) a a.enddc)

  fallen : At (Address n bits) status byte true sda x.core → At (Address n bits) status byte false sda (next x (Ok (Pin SCL false))).core
  unfolding phase_at_fall
  fallen a = after_fall x (free n bits) a

-- ---- the words

-- no word ends the transfer, these levels are taken, and then SCL can rise with this level on SDA
pub record Taken (x : Chip) (ws : List ℕ) (ls : List Bool) (l : Bool) : Type 0 where
  pub lasts : never ends x ws ≡ true
  pub levels : levels_taken x ws ≡ ls
  pub rises : takes_level (advanced x ws) (Ok (Pin SCL true)) ≡ true
  pub last : sda_level (advanced x ws) ≡ l

-- the eighth level put
last_put : {n bits status byte : ℕ} {sda : Bool} (x : Chip) (level : Bool) → At (Address n bits) status byte false sda x.core → Taken x (put_sda level ∷ []) [] level
unfolding advance
last_put {n} {bits} x level a =
    let b = after_sda x (free n bits) level a in
    let put = decode_encode (Ok (Pin SDA level)) refl in
    record {
      lasts = rw (put, sda_ends x a level);
      levels = rw (put, sda_takes x level);
      rises = rw put (rise_takes (next x (Ok (Pin SDA level))) b);
      last = rw put (rise_level (next x (Ok (Pin SDA level))) b);
    }

-- one of the first seven clocked in
level_in : {n bits status byte : ℕ} {sda : Bool} (x : Chip) (level : Bool) (ws : List ℕ) (levels : List Bool) (last : Bool) → At (Address n bits) status byte false sda x.core → n < 7 →
    ((y : Chip) → At (Address (n + 1) (gathered bits level)) status byte false level y.core → Taken y ws levels last) →
    Taken x (put_sda level ∷ raise_scl ∷ lower_scl ∷ ws) (level ∷ levels) last
unfolding advance
level_in {n} {bits} x level ws levels last a h rest =
    let y : Chip = next x (Ok (Pin SDA level)) in
    let z : Chip = next y (Ok (Pin SCL true)) in
    let b = after_sda x (free n bits) level a in
    let d = risen y b h in
    let k = rest (next z (Ok (Pin SCL false))) (fallen z d) in
    let put = decode_encode (Ok (Pin SDA level)) refl in
    let rise = decode_encode (Ok (Pin SCL true)) refl in
    let fall = decode_encode (Ok (Pin SCL false)) refl in
    record {
      lasts = rw (put, rise, fall, sda_ends x a level, rise_ends y, fall_ends z d) k.lasts;
      levels = rw (put, rise, fall, sda_takes x level, rise_takes y b, fall_takes z, rise_level y b, k.levels);
      rises = rw (given x (Ok (Pin SDA level)) (raise_scl ∷ lower_scl ∷ ws) refl, given y (Ok (Pin SCL true)) (lower_scl ∷ ws) refl, given z (Ok (Pin SCL false)) ws refl) k.rises;
      last = rw (given x (Ok (Pin SDA level)) (raise_scl ∷ lower_scl ∷ ws) refl, given y (Ok (Pin SCL true)) (lower_scl ∷ ws) refl, given z (Ok (Pin SCL false)) ws refl) k.last;
    }

-- SCL falls after the START
lowered : {n bits status byte : ℕ} {sda : Bool} (x : Chip) (ws : List ℕ) (levels : List Bool) (last : Bool) → At (Address n bits) status byte true sda x.core →
    Taken (next x (Ok (Pin SCL false))) ws levels last → Taken x (lower_scl ∷ ws) levels last
unfolding advance
lowered x ws levels last a k =
    let fall = decode_encode (Ok (Pin SCL false)) refl in
    record { lasts = rw (fall, fall_ends x a) k.lasts; levels = rw (fall, fall_takes x) k.levels; rises = rw (given x (Ok (Pin SCL false)) ws refl) k.rises; last = rw (given x (Ok (Pin SCL false)) ws refl) k.last }

start_at_lem : (c : Chip) → starts c (Ok (Pin SDA false)) ≡ true → At (Address 0 0) (start_status c.core.bus.iists) c.core.bus.iidat true false (next c (Ok (Pin SDA false))).core
unfolding next core_after pin_moved pin_moved_as pin_kind sda_moved mode on_sda on_sda_ddc2b started scl_pulled sda_pulled
start_at_lem c h =
    let levels = both c.core.reset ((c.core.sda && sda_free c) && scl_high c) h in
    let lines = both (c.core.sda && sda_free c) (scl_high c) levels.1 in
    let sda = both c.core.sda (sda_free c) lines.0 in
    let high = both (in_ddc2b c) (c.core.scl && scl_free c) lines.1 in
    let scl = both c.core.scl (scl_free c) high.1 in
    let bits = low_both (bit 3 c.core.bus.iists) (bit 0 c.core.mdcon) high.0 in
    let pulls = not-true (pulls_sda c.core.bus.phase) sda.1 in
    let holds = not_and (in_ddc2b c) (pulls_scl c.core.bus.phase) high.0 scl.1 in
    rw (levels.0, bits.0, bits.1, scl.0, sda.0, pulls, holds)
    (record { reset = refl; enddc = start_bit c.core.bus.iists ∙ bits.0; md = bits.1; phase = refl; iists = refl; iidat = refl; scl = refl; sda = refl })

by_taken : (c : Chip) (us : List ℕ) (levels : List Bool) (last : Bool) → starts c (Ok (Pin SDA false)) ≡ true → Taken (next c (Ok (Pin SDA false))) us levels last → length levels ≡ 7 → flag AddressMatch c ≡ false →
    flag AddressMatch (advanced c (put_sda false ∷ (us ++ (raise_scl ∷ [])))) ≡ matches (advanced c (put_sda false ∷ us)).core.bus.iiadr (gathered_all 0 (levels ++ (last ∷ [])))
unfolding advance
by_taken c us levels last s k seven f =
    let start = decode_encode (Ok (Pin SDA false)) refl in
    let rise : takes_level (advanced (next c (Ok (Pin SDA false))) us) (decode raise_scl) ≡ true = rw (decode_encode (Ok (Pin SCL true)) refl) k.rises in
    let all : levels_taken (next c (decode (put_sda false))) (us ++ (raise_scl ∷ [])) ≡ levels ++ (last ∷ []) = rw start (levels_append (next c (Ok (Pin SDA false))) us raise_scl rise ∙ rw (k.levels, k.last)) in
    decided_at_eighth c (put_sda false) us (rw start s) (rw start k.lasts) (rw (start, k.levels) seven) raise_scl (rw start rise) f
    ∙ ap (λ (ls : List Bool). matches (advanced c (put_sda false ∷ us)).core.bus.iiadr (gathered_all 0 ls)) all

-- from a START with flag A at 0
pub clocked_address : (c : Chip) → starts c (Ok (Pin SDA false)) ≡ true → flag AddressMatch c ≡ false → (a b d e f g h i : Bool) →
    flag AddressMatch (advanced c (put_sda false ∷ lower_scl ∷ clock_in (a ∷ b ∷ d ∷ e ∷ f ∷ g ∷ h ∷ []) (put_sda i ∷ raise_scl ∷ [])))
    ≡ matches (advanced c (put_sda false ∷ lower_scl ∷ clock_in (a ∷ b ∷ d ∷ e ∷ f ∷ g ∷ h ∷ []) (put_sda i ∷ []))).core.bus.iiadr
    (gathered_all 0 (a ∷ b ∷ d ∷ e ∷ f ∷ g ∷ h ∷ i ∷ []))
clocked_address c s low a b d e f g h i =
    let x : Chip = next c (Ok (Pin SDA false)) in
    let end : List ℕ = put_sda i ∷ [] in
    let k = start_at_lem c s in
    by_taken c (lower_scl ∷ clock_in (a ∷ b ∷ d ∷ e ∷ f ∷ g ∷ h ∷ []) end) (a ∷ b ∷ d ∷ e ∷ f ∷ g ∷ h ∷ []) i s
    (lowered x (clock_in (a ∷ b ∷ d ∷ e ∷ f ∷ g ∷ h ∷ []) end) (a ∷ b ∷ d ∷ e ∷ f ∷ g ∷ h ∷ []) i k
    (level_in (next x (Ok (Pin SCL false))) a (clock_in (b ∷ d ∷ e ∷ f ∷ g ∷ h ∷ []) end) (b ∷ d ∷ e ∷ f ∷ g ∷ h ∷ []) i (fallen x k) (omega arith) (λ x1 a1.
    level_in x1 b (clock_in (d ∷ e ∷ f ∷ g ∷ h ∷ []) end) (d ∷ e ∷ f ∷ g ∷ h ∷ []) i a1 (omega arith) (λ x2 a2.
    level_in x2 d (clock_in (e ∷ f ∷ g ∷ h ∷ []) end) (e ∷ f ∷ g ∷ h ∷ []) i a2 (omega arith) (λ x3 a3.
    level_in x3 e (clock_in (f ∷ g ∷ h ∷ []) end) (f ∷ g ∷ h ∷ []) i a3 (omega arith) (λ x4 a4.
    level_in x4 f (clock_in (g ∷ h ∷ []) end) (g ∷ h ∷ []) i a4 (omega arith) (λ x5 a5.
    level_in x5 g (clock_in (h ∷ []) end) (h ∷ []) i a5 (omega arith) (λ x6 a6.
    level_in x6 h end [] i a6 (omega arith) (λ x7 a7. last_put x7 i a7)))))))))
    refl low
