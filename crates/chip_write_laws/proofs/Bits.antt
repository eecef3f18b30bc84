-- A write to a register changes only the bits of its write mask, and puts those of the byte written there; in II STS it may also clear START and STOP.
-- Assumes nothing.
use mathlib.Core.Path.{◌≡◌, refl, sym, ap, ◌∙◌}
use mathlib.Core.Bool.{Bool, true, false}
use mathlib.Core.Logic.{⊎_elim}
use Prim.Native.Nat.{ℕ, ◌-◌, ◌<◌, ◌≤◌}
use native.Mathlib.Omega.{arith}
use borrow.Author.Tests.{eqb-true}
use lib.Dec.{eqb, eqb→eq}
use lib.Bits.{bit_and, bit_or, and_self, and_comm, and_zero_r}
use lib.ListN.{length, get_or, set}
use lib.Seq.{get_or-set_same, set_out}
use Rattle.bits.specs.Byte.{pick, bit, merge}
use Rattle.bits.proofs.Finite.{at_each, lt_or_le}
use Rattle.bits.proofs.Distrib.{and_assoc}
use Rattle.bits.proofs.Mask.{complement_and, merge_keeps, merge_takes, merge_mask}
use Rattle.registers.specs.Names.{MDCON, HVCON, IRQX, CLRFLG, CLRWDT, IIADR, IIDAT, IISTS, BT}
use Rattle.registers.specs.Table.{row_of, write_mask, is_writable}
use Rattle.registers.proofs.Rules.{write_mask_lt}
use Rattle.std.specs.Prelude.{Ok}
use Rattle.events.specs.declared.Event.TheVariants.{Write}
use Rattle.bits.proofs.Level.{pick_by}
use Rattle.bus.specs.Bus.{pulls_scl, compared_in}
use Rattle.bus_ddc2b.proofs.First.{data_first}
use Rattle.chip.specs.declared.Bus.{Bus}
use Rattle.chip.specs.declared.Chip.{Chip}
use Rattle.chip.specs.State.{register_at}
use Rattle.chip_edges.specs.Edges.{bus_at_rise}
use Rattle.chip_writes.specs.declared.Target.{Target}
use Rattle.chip_ddc_writes.specs.DdcWrites.{bus_let_go, bus_risen, with_iidat, bus_at_iidat, status_written}
use Rattle.registers.specs.Table.{updated}
use Rattle.chip_events.specs.Outcome.{next}
use Rattle.chip_write_laws.specs.Frame.{kept_byte, changeable}
use Rattle.chip_writes.proofs.Addresses.{Plain, Addressed, at_mdcon, at_hvcon, at_clrflg, at_clrwdt, at_iiadr, at_iidat, at_iists, at_bt, at_plain, addressed}
use Rattle.chip_write_laws.proofs.Fields.{fields, by_write}
use Rattle.chip_write_laws.proofs.Frame.{mode_keeps}

-- ---- bytes

-- a write under a mask keeps the bits outside it
outside : (mask old new : ℕ) → mask < 256 → bit_and (merge mask old new) (255 - mask) ≡ bit_and old (255 - mask)
outside mask old new h = merge_keeps mask (255 - mask) old new (and_self (255 - mask)) (and_comm mask (255 - mask) ∙ complement_and mask h)

-- II STS: bits 7, 6 and RXAK stay
status_outside : (old b : ℕ) → b < 256 → bit_and (status_written old b) 0xc2 ≡ bit_and old 0xc2
unfolding status_written write_mask row_of
status_outside old b h =
    let e : bit_and (bit_or b 0xcf) 0xc2 ≡ 0xc2 = eqb→eq _ _ (at_each (λ b. eqb (bit_and (bit_or b 0xcf) 0xc2) 0xc2) 256 tt b h) in
    and_assoc (updated IISTS old b) (bit_or b 0xcf) 0xc2 ∙ ap (λ (m : ℕ). bit_and (updated IISTS old b) m) e ∙ merge_keeps 0x0d 0xc2 old b refl refl

-- ENDDC, TRX and TXAK are taken
status_inside : (old b : ℕ) → b < 256 → bit_and (status_written old b) 0x0d ≡ bit_and b 0x0d
unfolding status_written write_mask row_of
status_inside old b h =
    let e : bit_and (bit_or b 0xcf) 0x0d ≡ 0x0d = eqb→eq _ _ (at_each (λ b. eqb (bit_and (bit_or b 0xcf) 0x0d) 0x0d) 256 tt b h) in
    and_assoc (updated IISTS old b) (bit_or b 0xcf) 0x0d ∙ ap (λ (m : ℕ). bit_and (updated IISTS old b) m) e ∙ merge_takes 0x0d 0x0d old b refl refl

-- a write to II DAT is stored, whether it lets SCL go or not
data_by : (held scl sda : Bool) (b : ℕ) (x : Bus) → (pick held (bus_risen scl sda (bus_let_go b x)) (with_iidat b x)).iidat ≡ updated IIDAT x.iidat b
unfolding bus_risen bus_at_rise
data_by true true sda b x = data_first (compared_in x.phase) (bit 2 x.iists) _ b _
data_by true false sda b x = refl
data_by false scl sda b x = refl

data_stored : (scl sda : Bool) (b : ℕ) (x : Bus) → (bus_at_iidat scl sda b x).iidat ≡ updated IIDAT x.iidat b
unfolding bus_at_iidat
data_stored scl sda b x = data_by (pulls_scl x.phase) scl sda b x

-- ---- the bits that stay

-- one choice on both sides
kept_by : (t : Bool) (m x y v w : ℕ) → bit_and x m ≡ bit_and v m → bit_and y m ≡ bit_and w m → bit_and (pick t x y) m ≡ bit_and (pick t v w) m
kept_by true m x y v w p q = p
kept_by false m x y v w p q = q

module _ (c : Chip) (b : ℕ) where
  place_kept : (a : ℕ) → bit_and (get_or (set c.registers a (updated a (register_at c.registers a) b)) a 0) (255 - write_mask a) ≡ bit_and (register_at c.registers a) (255 - write_mask a)
  place_kept a =
      ⊎_elim
      (λ (h : a < length c.registers). rw (get_or-set_same c.registers a (updated a (register_at c.registers a) b) 0 h) (outside (write_mask a) (register_at c.registers a) b (write_mask_lt a)))
      (λ (h : length c.registers ≤ a). rw (set_out c.registers a (updated a (register_at c.registers a) b) h))
      (lt_or_le a (length c.registers))

  kept_to : {t : Target} {a : ℕ} → Addressed t a → b < 256 → bit_and (kept_byte (fields c a b) a) (255 - changeable a) ≡ bit_and (kept_byte c a) (255 - changeable a)
  unfolding kept_byte changeable
  kept_to at_mdcon h = outside (write_mask MDCON) c.core.mdcon b (write_mask_lt MDCON)
  kept_to at_hvcon h = outside (write_mask HVCON) c.core.polarity b (write_mask_lt HVCON)
  kept_to at_clrflg h = refl
  kept_to at_clrwdt h = refl
  kept_to at_iiadr h = outside (write_mask IIADR) c.core.bus.iiadr b (write_mask_lt IIADR)
  kept_to at_iidat h = rw (data_stored c.core.scl c.core.sda b c.core.bus) (outside (write_mask IIDAT) c.core.bus.iidat b (write_mask_lt IIDAT))
  kept_to at_iists h = rw (mode_keeps _ _ _).iists (status_outside c.core.bus.iists b h)
  kept_to at_bt h = outside (write_mask BT) c.core.bt b (write_mask_lt BT)
  kept_to {a = a} (at_plain p) h =
      rw (p.mdcon, p.hvcon, p.clrflg, p.clrwdt, p.iiadr, p.iidat, p.iists, p.bt)
      (kept_by (eqb a IRQX) (255 - write_mask a) c.core.irqx _ c.core.irqx (register_at c.registers a) refl (place_kept a))

-- a write to any register, taken or refused
pub kept_bits : (c : Chip) (a b : ℕ) → b < 256 → bit_and (kept_byte (next c (Ok (Write a b))) a) (255 - changeable a) ≡ bit_and (kept_byte c a) (255 - changeable a)
kept_bits c a b h =
    by_write (λ (x : Chip). bit_and (kept_byte x a) (255 - changeable a) ≡ bit_and (kept_byte c a) (255 - changeable a)) c a b
    (λ _ _. kept_to c b (addressed a) h)
    (λ _. refl)

-- ---- the bits that are taken

module _ (c : Chip) (b : ℕ) (size : length c.registers ≡ 38) where
  place_taken : (a : ℕ) → a < 38 → bit_and (get_or (set c.registers a (updated a (register_at c.registers a) b)) a 0) (write_mask a) ≡ bit_and b (write_mask a)
  place_taken a h =
      let h : a < length c.registers = omega arith in
      rw (get_or-set_same c.registers a (updated a (register_at c.registers a) b) 0 h) (merge_mask (write_mask a) (register_at c.registers a) b (write_mask_lt a))

  plain_taken : {a : ℕ} → Plain a → a < 38 → is_writable a ≡ true → bit_and (kept_byte (fields c a b) a) (write_mask a) ≡ bit_and b (write_mask a)
  unfolding kept_byte is_writable row_of
  plain_taken {a} p h w =
      rw (p.mdcon, p.hvcon, p.clrflg, p.clrwdt, p.iiadr, p.iidat, p.iists, p.bt)
      (pick_by (λ (x : ℕ). bit_and x (write_mask a) ≡ bit_and b (write_mask a)) (eqb a IRQX)
      (λ e. let z : ◌≡◌ {A = Bool} false true = rw (eqb-true a IRQX e) at w in cc)
      (λ _. place_taken a h))

  taken_to : {t : Target} {a : ℕ} → Addressed t a → b < 256 → a < 38 → is_writable a ≡ true → bit_and (kept_byte (fields c a b) a) (write_mask a) ≡ bit_and b (write_mask a)
  unfolding kept_byte write_mask row_of
  taken_to at_mdcon h ha w = merge_mask (write_mask MDCON) c.core.mdcon b (write_mask_lt MDCON)
  taken_to at_hvcon h ha w = merge_mask (write_mask HVCON) c.core.polarity b (write_mask_lt HVCON)
  taken_to at_clrflg h ha w = and_zero_r (register_at c.registers CLRFLG) ∙ sym (and_zero_r b)
  taken_to at_clrwdt h ha w = and_zero_r (register_at c.registers CLRWDT) ∙ sym (and_zero_r b)
  taken_to at_iiadr h ha w = merge_mask (write_mask IIADR) c.core.bus.iiadr b (write_mask_lt IIADR)
  taken_to at_iidat h ha w = rw (data_stored c.core.scl c.core.sda b c.core.bus) (merge_mask (write_mask IIDAT) c.core.bus.iidat b (write_mask_lt IIDAT))
  taken_to at_iists h ha w = rw (mode_keeps _ _ _).iists (status_inside c.core.bus.iists b h)
  taken_to at_bt h ha w = merge_mask (write_mask BT) c.core.bt b (write_mask_lt BT)
  taken_to (at_plain p) h ha w = plain_taken p ha w

-- a write that is taken, at a state whose array has its 38 places, as all of the code's have
pub taken_bits : (c : Chip) (a b : ℕ) → b < 256 → length c.registers ≡ 38 → a < 38 → c.core.reset ≡ true → is_writable a ≡ true →
    bit_and (kept_byte (next c (Ok (Write a b))) a) (write_mask a) ≡ bit_and b (write_mask a)
taken_bits c a b h size ha r w =
    by_write (λ (x : Chip). bit_and (kept_byte x a) (write_mask a) ≡ bit_and b (write_mask a)) c a b
    (λ _ _. taken_to c b size (addressed a) h ha w)
    (λ n. let z : ◌≡◌ {A = Bool} true false = rw (r, w) at n in cc)
