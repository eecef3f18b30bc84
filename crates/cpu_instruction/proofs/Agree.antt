-- Two memories that agree but at d, and an instruction that does not read d: the same outcome and the same accesses.
use Prim.Native.Nat.{ℕ}
use mathlib.Core.Path.{◌≡◌, refl, ap}
use mathlib.Core.Bool.{Bool, true, false}
use mathlib.Core.List.{List, [], ◌∷◌}
use lib.Dec.{eqb}
use Rattle.bits.specs.Byte.{pick}
use Rattle.cpu_memory.specs.declared.Loaded.{Loaded}
use Rattle.cpu_memory.specs.declared.Loaded.TheVariants.{Byte, Refused}
use Rattle.cpu_memory.specs.Memory.{place, stack, is_stack_place, after_push}
use Rattle.cpu_memory.specs.Reads.{Result, gives, refuses, on_byte}
use Rattle.cpu_instruction.specs.declared.Effect.{Effect}
use Rattle.cpu_instruction.specs.Program.{Instruction, leaves, rejected, reads, pushes, perform, Access, read_at, write_at, behind_byte, accesses, Unread}

after_push_lem : (d : ℕ) (f g : ℕ → Loaded) (s b : ℕ) → ((a : ℕ) → eqb a d ≡ false → f a ≡ g a) → (a : ℕ) → eqb a d ≡ false → after_push s b f a ≡ after_push s b g a
unfolding after_push
after_push_lem d f g s b h a e = ap (λ (l : Loaded). pick (is_stack_place s (place a)) (Byte b) l) (h a e)

agree_byte : (d : ℕ) (f g : ℕ → Loaded) (a : ℕ) (k : ℕ → Instruction) (l m : Loaded) → l ≡ m
    → Unread d (behind_byte l (λ (b : ℕ). accesses f (k b)))
    → ((b : ℕ) → Unread d (accesses f (k b)) → (perform f (k b) ≡ perform g (k b)) × (accesses f (k b) ≡ accesses g (k b)))
    → (on_byte l (λ (b : ℕ). perform f (k b)) ≡ on_byte m (λ (b : ℕ). perform g (k b)))
    × ((read_at a l ∷ behind_byte l (λ (b : ℕ). accesses f (k b))) ≡ (read_at a m ∷ behind_byte m (λ (b : ℕ). accesses g (k b))))
agree_byte d f g a k (Byte b) m e q h = rw (← e) ((h b q).0, ap (λ (s : List Access). read_at a (Byte b) ∷ s) (h b q).1)
agree_byte d f g a k (Refused n) m e q h = rw (← e) (refl, refl)

pub agree : (d : ℕ) (f g : ℕ → Loaded) → ((a : ℕ) → eqb a d ≡ false → f a ≡ g a)
    → (t : Instruction) → Unread d (accesses f t) → (perform f t ≡ perform g t) × (accesses f t ≡ accesses g t)
unfolding perform accesses
agree d f g h (leaves e) q = (refl, refl)
agree d f g h rejected q = (refl, refl)
agree d f g h (reads a k) q = agree_byte d f g a k (f a) (g a) (h a q.0) q.1 (λ (b : ℕ). agree d f g h (k b))
agree d f g h (pushes s b t) q =
    let r : (perform (after_push s b f) t ≡ perform (after_push s b g) t) × (accesses (after_push s b f) t ≡ accesses (after_push s b g) t)
    = agree d (after_push s b f) (after_push s b g) (after_push_lem d f g s b h) t q in
    (r.0, ap (λ (x : List Access). write_at (stack s) b ∷ x) r.1)
