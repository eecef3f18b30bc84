-- The observers of two runs while the CPU works: only a write to a register is seen, and what the accesses of an instruction come to for them.
use Prim.Native.Nat.{ℕ, ◌+◌, ◌-◌, ◌≤◌}
use mathlib.Core.Path.{◌≡◌, refl}
use mathlib.Core.Bool.{Bool, true, false, not, ◌&&◌, and-false}
use mathlib.Core.List.{List, [], ◌∷◌, ◌++◌}
use native.Mathlib.Omega.{arith}
use lib.Dec.{eqb, ltb}
use borrow.Author.Tests.{ltb-false, ne_eqb}
use Rattle.bits.specs.Byte.{pick}
use Rattle.bits.proofs.Finite.{both}
use Rattle.std.specs.Prelude.{Ok}
use Rattle.events.specs.declared.Event.TheVariants.{Write, Clock}
use Rattle.chip.specs.declared.Chip.{Chip}
use Rattle.isolation_laws.specs.Foreign.{Observer, observe, permitted}
use Rattle.isolation_laws.specs.Related.{related, RelatedChips, chips}
use Rattle.cpu_memory.specs.declared.Loaded.{Loaded}
use Rattle.cpu_memory.specs.declared.Loaded.TheVariants.{Byte, Refused}
use Rattle.cpu_memory.specs.declared.Place.{Place}
use Rattle.cpu_memory.specs.declared.Place.TheVariants as at
use Rattle.cpu_memory.specs.Memory.{place, stack, after_push}
use Rattle.cpu_memory.specs.Reads.{Result, gives, refuses, on_byte}
use Rattle.cpu_instruction.specs.declared.Effect.{Effect}
use Rattle.cpu_instruction.specs.Program.{Instruction, leaves, rejected, reads, pushes, perform, Access, read_at, write_at, last_access, behind_byte, accesses, Unread}
use Rattle.firmware_isolation_laws.specs.Related.{watch, writes_permitted}

-- ---- one write, one clock

away_by : (o : Observer) (a b : ℕ) → eqb a 18 ≡ false → eqb a 19 ≡ false → observe o (Ok (Write a b)) ≡ o
unfolding observe
away_by o a b h g = rw (h, g, and-false)

-- a write past the registers is not seen
pub away : (o : Observer) (a b : ℕ) → 38 ≤ a → observe o (Ok (Write a b)) ≡ o
away o a b h = away_by o a b (ne_eqb a 18 (λ (e : a ≡ 18). omega arith)) (ne_eqb a 19 (λ (e : a ≡ 19). omega arith))

-- nor is a clock of 8 µs, which is always permitted
pub clock_unseen : (o : Observer) → observe o (Ok (Clock 0)) ≡ o
unfolding observe
clock_unseen o = rw and-false

clock_by : (b : Bool) → not (b && false) ≡ true
clock_by true = refl
clock_by false = refl

pub clock_permitted : (o : Observer) → permitted o (Ok (Clock 0)) ≡ true
unfolding permitted
clock_permitted o = clock_by o.reset

-- a write is permitted in both runs or in neither
pub write_permitted_equal : {c d : Chip} {o p : Observer} → RelatedChips c d o p → (a b : ℕ) → permitted o (Ok (Write a b)) ≡ permitted p (Ok (Write a b))
unfolding permitted
write_permitted_equal (chips rs (related g z s x x' y y' k h)) a b = refl

-- ---- where an address leads

pub data Leads (a : ℕ) : Place → Type 0 where
  to_register : Leads a (at.Register a)
  to_ram : (i : ℕ) → 38 ≤ a → Leads a (at.Ram i)
  to_rom : (i : ℕ) → 38 ≤ a → Leads a (at.Rom i)
  to_none : 38 ≤ a → Leads a at.Unmapped

leads_by : (b₁ b₂ b₃ b₄ b₅ : Bool) (a : ℕ) → ltb a 0xA000 ≡ b₁ → ltb a 0x180 ≡ b₂ → ltb a 0x80 ≡ b₃ → ltb a 0x26 ≡ b₄
    → Leads a (pick b₁ (pick b₂ (pick b₃ (pick b₄ (at.Register a) at.Unmapped) (at.Ram (a - 0x80))) (pick b₅ (at.Ram (a - 0x180)) at.Unmapped)) (at.Rom (a - 0xA000)))
leads_by true true true true b₅ a e₁ e₂ e₃ e₄ = to_register
leads_by true true true false b₅ a e₁ e₂ e₃ e₄ = to_none (ltb-false a 0x26 e₄)
leads_by true true false b₄ b₅ a e₁ e₂ e₃ e₄ = to_ram (a - 0x80) (omega (arith, ltb-false a 0x80 e₃))
leads_by true false b₃ b₄ true a e₁ e₂ e₃ e₄ = to_ram (a - 0x180) (omega (arith, ltb-false a 0x180 e₂))
leads_by true false b₃ b₄ false a e₁ e₂ e₃ e₄ = to_none (omega (arith, ltb-false a 0x180 e₂))
leads_by false b₂ b₃ b₄ b₅ a e₁ e₂ e₃ e₄ = to_rom (a - 0xA000) (omega (arith, ltb-false a 0xA000 e₁))

pub leads : (a : ℕ) → Leads a (place a)
unfolding place
leads a = leads_by (ltb a 0xA000) (ltb a 0x180) (ltb a 0x80) (ltb a 0x26) (ltb a 0x200) a refl refl refl refl

-- ---- accesses

pub watch_append : (s t : List Access) (o : Observer) → watch o (s ++ t) ≡ watch (watch o s) t
watch_append [] t o = refl
watch_append (read_at a l ∷ s) t o = watch_append s t o
watch_append (write_at a b ∷ s) t o = watch_append s t (observe o (Ok (Write a b)))

pub permitted_right : (s t : List Access) (o : Observer) → writes_permitted o (s ++ t) ≡ true → writes_permitted (watch o s) t ≡ true
permitted_right [] t o h = h
permitted_right (read_at a l ∷ s) t o h = permitted_right s t o h
permitted_right (write_at a b ∷ s) t o h = permitted_right s t (observe o (Ok (Write a b))) (both (permitted o (Ok (Write a b))) _ h).1

pub unread_right : (d : ℕ) (s t : List Access) → Unread d (s ++ t) → Unread d t
unread_right d [] t q = q
unread_right d (read_at a l ∷ s) t q = unread_right d s t q.1
unread_right d (write_at a b ∷ s) t q = unread_right d s t q

-- of an instruction that is not refused, its last write alone is seen: the pushes lead to RAM
abbrev pub Ends : Observer → List Access → Result Effect → Type 0
Ends o s (gives e) = (watch o s ≡ watch o (last_access e.store)) × (writes_permitted o s ≡ true → writes_permitted o (last_access e.store) ≡ true)
Ends o s (refuses n) = Unit {0}

ends_read : (o : Observer) (a : ℕ) (l : Loaded) (s : List Access) (r : Result Effect) → Ends o s r → Ends o (read_at a l ∷ s) r
ends_read o a l s (gives e) q = q
ends_read o a l s (refuses n) q = tt

ends_byte_lem : (o : Observer) (f : ℕ → Loaded) (a : ℕ) (k : ℕ → Instruction) (l : Loaded) → ((b : ℕ) → Ends o (accesses f (k b)) (perform f (k b)))
    → Ends o (read_at a l ∷ behind_byte l (λ (b : ℕ). accesses f (k b))) (on_byte l (λ (b : ℕ). perform f (k b)))
ends_byte_lem o f a k (Byte b) h = ends_read o a (Byte b) (accesses f (k b)) (perform f (k b)) (h b)
ends_byte_lem o f a k (Refused n) h = tt

ends_push : (o : Observer) (s b : ℕ) (t : List Access) (r : Result Effect) → observe o (Ok (Write (stack s) b)) ≡ o → Ends o t r → Ends o (write_at (stack s) b ∷ t) r
ends_push o s b t (gives e) h q = (rw h q.0, λ (w : writes_permitted o (write_at (stack s) b ∷ t) ≡ true). q.1 (rw h at (both (permitted o (Ok (Write (stack s) b))) _ w).1))
ends_push o s b t (refuses n) h q = tt

pub ends : (o : Observer) (f : ℕ → Loaded) (t : Instruction) → Ends o (accesses f t) (perform f t)
unfolding accesses perform
ends o f (leaves e) = (refl, λ (h : writes_permitted o (last_access e.store) ≡ true). h)
ends o f rejected = tt
ends o f (reads a k) = ends_byte_lem o f a k (f a) (λ (b : ℕ). ends o f (k b))
ends o f (pushes s b t) = ends_push o s b (accesses (after_push s b f) t) (perform (after_push s b f) t) (away o (stack s) b (omega arith)) (ends o (after_push s b f) t)
